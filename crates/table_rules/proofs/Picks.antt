-- Splitting in any order (docs/CHANGES.md, M-112). A pick replaces any entry above c by its parts.
--   Picks H c n l r      n picks lead from l to r
--   PICKS-COMMUTE        two picks on different entries may change places, the one further back
--                        renumbered;  behind-stays, before-stays  each finds its entry
--   one_end              two done cuts of one list are equal
--   any_order            on groups: every sequence of picks, carried to "done", takes as many steps and ends in the
--                        same list
--   picks-never-refused  and none is refused by 9
--   picks-carried        picks on factors are picks on groups
--   PICKS-END            in the known fields, on factors: every sequence of picks from a begun table, carried to
--                        "done", ends in the same factors after as many steps
-- Assumes nothing.
use mathlib.Core.Path.{◌≡◌, refl, sym, ap, ap₂, ◌∙◌, subst}
use mathlib.Core.Bool.{Bool, true}
use mathlib.Core.List.{List, [], ◌∷◌, ◌++◌, map}
use Prim.Native.Nat.{ℕ, zero, suc, ◌+◌, ◌*◌, ◌/◌, ◌^◌, ◌≤◌, ◌<◌}
use native.Mathlib.Nat.{not-suc-le-zero}
use native.Mathlib.Omega.{arith}
use lib.Dec.{ltb}
use lib.ListN.{length}
use lib.Seq.{get_or-append-add}
use Rattle.algebra.specs.Trial.{All}
use Rattle.algebra.specs.Routines.{monic_roots}
use Rattle.algebra.proofs.Lengths.{length-monic_roots}
use Rattle.algebra.proofs.StaysBelow.{roots_of-below}
use Rattle.algebra.proofs.RootList.{roots_of-distinct}
use Rattle.field.specs.Rows.{known}
use Rattle.field.specs.Field.{G, roots_at}
use Rattle.input.proofs.Fields.{known-field}
use Rattle.table_rules.specs.Entries.{Entry, Halving, unless_empty, parts, split_entries, above, entry_at, done, carry}
use Rattle.table_rules.specs.Groups.{by_bit, begun, reached, group_count}
use Rattle.table_rules.specs.Layout.{Factor}
use Rattle.table_rules.specs.Splitting.{begun_table, trace_bit_at, halving_at}
use Rattle.table_rules.proofs.Counting.{count-bound}
use Rattle.table_rules.proofs.Cut.{Cut, whole, parted, cut-split, split-right}
use Rattle.table_rules.proofs.Grouped.{Told}
use Rattle.table_rules.proofs.Carry.{Commutes, carry-split, carry-entry, carry-done}
use Rattle.table_rules.proofs.Steps as S
use Rattle.table_rules.proofs.Begun.{cut-commutes, alone}
use Rattle.table_rules.specs.Demand.{groups_after, step_count}

module _ {A : Type 0} (H : Halving A) where
  -- none, or one and then others
  pub data Picks (c : ℕ) : ℕ → List (Entry A) → List (Entry A) → Type 0 where
    stop : {l : List (Entry A)} → Picks c 0 l l
    pick : {n : ℕ} {l r : List (Entry A)} (k : ℕ) → above c (entry_at l k) ≡ true → Picks c n (split_entries H k l) r → Picks c (suc n) l r

  -- TWO PICKS CHANGE PLACES: the entry that stands d places behind the one after place j moves back by as many places
  -- as the parts at j take
  picks-commute : (j d : ℕ) (l : List (Entry A)) → j < length l
      → split_entries H (j + (length (parts H (entry_at l j)) + d)) (split_entries H j l) ≡ split_entries H j (split_entries H (suc (j + d)) l)
  unfolding split_entries
  picks-commute j d [] h = absurd (not-suc-le-zero h)
  picks-commute zero d (e ∷ l) h =
      ap (λ k. split_entries H k (parts H e ++ l)) (omega arith) ∙ split-right H (length (parts H e) + d) (parts H e) l (omega arith)
      ∙ ap (λ k. parts H e ++ split_entries H k l) (omega arith)
  picks-commute (suc j) d (e ∷ l) h =
      ap (λ k. split_entries H k (e ∷ split_entries H j l)) {x = suc j + (length (parts H (entry_at l j)) + d)} {y = suc (j + (length (parts H (entry_at l j)) + d))} (omega arith)
      ∙ ap (λ u. e ∷ u) (picks-commute j d l (omega arith) ∙ ap (λ k. split_entries H j (split_entries H k l)) (omega arith))

  -- and each finds its entry still there
  behind-stays : (j d : ℕ) (l : List (Entry A)) → j < length l → entry_at (split_entries H j l) (j + (length (parts H (entry_at l j)) + d)) ≡ entry_at l (suc (j + d))
  unfolding split_entries
  behind-stays j d [] h = absurd (not-suc-le-zero h)
  behind-stays zero d (e ∷ l) h =
      ap (entry_at (parts H e ++ l)) (omega arith) ∙ get_or-append-add (parts H e) l d (0, []) ∙ ap (entry_at l) (omega arith)
  behind-stays (suc j) d (e ∷ l) h =
      ap (entry_at (e ∷ split_entries H j l)) {x = suc j + (length (parts H (entry_at l j)) + d)} {y = suc (j + (length (parts H (entry_at l j)) + d))} (omega arith)
      ∙ behind-stays j d l (omega arith) ∙ ap (entry_at l) (omega arith)

  before-stays : (j d : ℕ) (l : List (Entry A)) → entry_at (split_entries H (suc (j + d)) l) j ≡ entry_at l j
  unfolding split_entries
  before-stays j d [] = refl
  before-stays zero d (e ∷ l) = refl
  before-stays (suc j) d (e ∷ l) = ap (λ k. entry_at (split_entries H k l) j) {x = suc j + d} {y = suc (j + d)} (omega arith) ∙ before-stays j d l

  -- ---- picks keep cuts, and a cut that is done is the only one

  picks-cut : {c n i : ℕ} {s : List A} {l r : List (Entry A)} → Picks c n l r → Cut H c i s l → Cut H c i s r
  picks-cut stop p = p
  picks-cut {c} (pick k h q) p = picks-cut q (cut-split H c k p h)

  All-first : {B : Type 0} (P : B → Type 0) (s t : List B) → All P (s ++ t) → All P s
  All-first P [] t h = tt
  All-first P (x ∷ s) t h = (h.0, All-first P s t h.1)

  All-second : {B : Type 0} (P : B → Type 0) (s t : List B) → All P (s ++ t) → All P t
  All-second P [] t h = h
  All-second P (x ∷ s) t h = All-second P s t h.1

  abbrev Small : ℕ → List (Entry A) → Type 0
  Small c = All (λ e. length e.1 ≤ c)

  -- a list above c is not left whole
  not-whole : (c i : ℕ) (s : List A) → c < length s → Small c (unless_empty i s) → ⊥
  unfolding unless_empty
  not-whole c i [] h k = not-suc-le-zero h
  not-whole c i (x ∷ s) h k = omega (arith, k.0)

  one_end : {c i : ℕ} {s : List A} {l r : List (Entry A)} → Cut H c i s l → Cut H c i s r → Small c l → Small c r → l ≡ r
  one_end whole whole hl hr = refl
  one_end {c} {i} {s} whole (parted a p q) hl hr = absurd (not-whole c i s a hl)
  one_end {c} {i} {s} (parted a p q) whole hl hr = absurd (not-whole c i s a hr)
  one_end {c} (parted {l = l₁} {r = l₂} a p q) (parted {l = r₁} {r = r₂} b u v) hl hr =
      ap₂ ◌++◌ (one_end p u (All-first _ l₁ l₂ hl) (All-first _ r₁ r₂ hr)) (one_end q v (All-second _ l₁ l₂ hl) (All-second _ r₁ r₂ hr))

-- ---- picks on groups

module _ {A : Type 0} (bit : ℕ → A → Bool) (c m : ℕ) (positive : 1 ≤ c) (roots : List A) (told : Told bit m roots) where
  -- an entry above c that can be picked is below level m
  level-below : {l : List (Entry A)} (k : ℕ) → Cut (by_bit bit) c 0 roots l → above c (entry_at l k) ≡ true → (entry_at l k).0 < m
  level-below {l} k p h = S.at_above c (λ e. above c e ≡ true → e.0 < m) l k (S.below_last bit c m positive roots told p) h h

  picks-work : {n : ℕ} {l r : List (Entry A)} → Picks (by_bit bit) c n l r → Cut (by_bit bit) c 0 roots l → S.work bit c m l ≡ n + S.work bit c m r
  picks-work stop p = omega arith
  picks-work (pick {l = l} k h q) p = omega (arith, S.work-falls bit c m l k h (level-below k p h), picks-work q (cut-split (by_bit bit) c k p h))

  -- EVERY ORDER of picks, carried to "done", takes as many steps as there are groups above c, and ends in the same
  -- list
  any_order : {n : ℕ} {r : List (Entry A)} → Picks (by_bit bit) c n (begun bit roots) r → done c r ≡ true
      → (n ≡ group_count bit c m roots) × (r ≡ reached bit c roots (group_count bit c m roots))
  any_order {n} {r} q d =
      let total : ℕ = group_count bit c m roots in (
        omega (arith, picks-work q whole, S.begun-work bit c m roots, S.work-done bit c m r (S.done_none c r d)),
        one_end (by_bit bit) (picks-cut (by_bit bit) q whole) (S.steps-cut (by_bit bit) c total whole) (S.done_none c r d)
            (S.done_none c (reached bit c roots total) (S.done-then bit c m positive roots told)),
      )

  -- no pick is refused by 9: the entry is below level m, and the steps taken are below the limit
  pub picks-never-refused : {n : ℕ} {r : List (Entry A)} (k : ℕ) → Picks (by_bit bit) c n (begun bit roots) r → above c (entry_at r k) ≡ true
      → ((entry_at r k).0 < m) × (n < m * (length roots / suc c))
  picks-never-refused {n} {r} k q h =
      let g : (entry_at r k).0 < m = level-below k (picks-cut (by_bit bit) q whole) h in
      (g, omega (arith, picks-work q whole, S.begun-work bit c m roots, S.work-falls bit c m r k h g, count-bound bit c m roots))

-- ---- picks on factors are picks on groups

module _ {A B : Type 0} (f : List A → List B) (keeps : (s : List A) → length (f s) ≡ length s) (H : Halving A) (J : Halving B) (c : ℕ) where
  above-carried : (l : List (Entry A)) (k : ℕ) → above c (entry_at (map (carry f) l) k) ≡ true → above c (entry_at l k) ≡ true
  above-carried [] k h = h
  above-carried (e ∷ l) zero h = subst (λ n. ltb c n ≡ true) (keeps e.1) h
  above-carried (e ∷ l) (suc k) h = above-carried l k h

  picks-carried : {n i : ℕ} {s : List A} {l' r' : List (Entry B)} → ((k : List (Entry A)) → Cut H c i s k → All (Commutes H J f) k)
      → Picks J c n l' r' → (l : List (Entry A)) → l' ≡ map (carry f) l → Cut H c i s l → (r : List (Entry A)) × Picks H c n l r × (r' ≡ map (carry f) r)
  picks-carried ok stop l e p = (l, stop, e)
  picks-carried ok (pick {n = n} {l = l'} k h q) l e p =
      let g : above c (entry_at l k) ≡ true = above-carried l k (subst (λ u. above c (entry_at u k) ≡ true) e h) in
      let rest = picks-carried ok q (split_entries H k l) (ap (split_entries J k) e ∙ carry-split f keeps H J k l (ok l p)) (cut-split H c k p g) in
      (rest.0, pick k g rest.1, rest.2)

-- ---- in the known fields

module _ (m : ℕ) (field : known m ≡ true) (c : ℕ) (positive : 1 ≤ c) (f : List ℕ) where
  abbrev roots : List ℕ
  roots = roots_at m f

  pub picks-end : {n : ℕ} {r : List Factor} → Picks (halving_at m) c n (begun_table m c (monic_roots (G m) roots)).factors r → done c r ≡ true
      → (n ≡ step_count m c roots) × (r ≡ (groups_after m c roots (step_count m c roots)).factors)
  picks-end {n} {r} q d =
      let B = known-field m field in
      let below = roots_of-below (G m) (2 ^ m) f in
      let distinct = roots_of-distinct (G m) (2 ^ m) f in
      let found = picks-carried (monic_roots (G m)) (length-monic_roots (G m)) (by_bit (trace_bit_at m)) (halving_at m) c (cut-commutes B c roots below distinct)
      q (begun (trace_bit_at m) roots) (carry-entry (monic_roots (G m)) (length-monic_roots (G m)) 0 roots) whole in
      let d' : done c found.0 ≡ true = sym (carry-done (monic_roots (G m)) (length-monic_roots (G m)) c found.0) ∙ ap (done c) (sym found.2) ∙ d in
      let end = any_order (trace_bit_at m) c m positive roots (alone B c positive roots below distinct) found.1 d' in
      (end.0, found.2 ∙ ap (map (carry (monic_roots (G m)))) end.1)
