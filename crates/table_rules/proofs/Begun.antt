-- Begun tables, over any field that `BinaryField` describes and any list of distinct elements for the roots: after
-- every step the factors are the products over the groups. The steps on factors take greatest common divisors with
-- trace polynomials; the steps on groups part roots by their trace bits.
--   after_is         n steps on a table are n steps on its factors
--   cut-commutes     each entry on the way is halved alike, as a factor and as a group
--   FACTORS-AFTER    n steps on the factors, from the product over all roots, give the products over the groups after
--                    n steps
--   TABLE-AFTER      so the table after n steps is that of the groups after n steps;  step-next  and a step takes it
--                    to the next
--   factors-are      its factors are products over nonempty groups, in ascending order of trace bits
--   factor-levels    level m is never passed
--   done_at          it is done after as many steps as there are groups above c;  not-done-before, done-only  and
--                    after no fewer
--   degrees-stay     s stays the number of roots
--   never_stuck      refusal 9 is never met
--   begun-valid      it is valid after each step
-- Assumes nothing.
use mathlib.Core.Path.{◌≡◌, refl, sym, ap, ◌∙◌, fun_ext, subst}
use mathlib.Core.Logic.{◌⊎◌, inl, inr}
use mathlib.Core.Bool.{Bool, true, false, true≢false}
use mathlib.Core.List.{List, [], ◌∷◌, map, map-map}
use Prim.Native.Nat.{ℕ, zero, suc, ◌+◌, ◌*◌, ◌/◌, ◌^◌, ◌≤◌, ◌<◌}
use native.Mathlib.Nat.{zero-add}
use native.Mathlib.Decide.{dec_lt}
use native.Mathlib.Omega.{arith}
use borrow.Author.Tests.{ne_eqb}
use lib.ListN.{length, length-append}
use Rattle.algebra.specs.Field.{Ops}
use Rattle.algebra.specs.Trial.{All, Distinct}
use Rattle.algebra.specs.Polynomial.{Below}
use Rattle.algebra.specs.Routines.{monic_roots}
use Rattle.algebra.proofs.Trial.{all_keep, distinct-keep}
use Rattle.algebra.proofs.Lengths.{length-monic_roots}
use Rattle.algebra.proofs.StaysBelow.{monic_roots-below}
use Rattle.input.specs.Cutoff.{highest_cutoff}
use Rattle.input.proofs.Fields.{BinaryField}
use Rattle.table_rules.specs.Entries.{Entry, Halving, unless_empty, parts, split_entries, above, entry_at, first_above, done, step, steps, carry}
use Rattle.table_rules.specs.Groups.{InOrder, agrees, group, group_count, by_bit, begun, reached}
use Rattle.table_rules.specs.Layout.{degree_sum}
use Rattle.table_rules.specs.Table.{Table, limit_of}
use Rattle.table_rules.specs.Splitting.{trace_bit, trace_halving, is_done, first_factor, stuck, step_table, table_after, begun_table, grouped_table}
use Rattle.table_rules.proofs.Lists.{true-or-false, all_append, all_of_map, all-mapped}
use Rattle.table_rules.proofs.Cut.{Cut, whole, first_above-is}
use Rattle.table_rules.proofs.Grouped.{Told, all_members, cut-grouped, cut-length, nonempty, groups-told}
use Rattle.table_rules.proofs.Steps as S
use Rattle.table_rules.proofs.Carry.{Commutes, carry-entry, carry-first, carry-done, carry-steps, steps-more}
use Rattle.table_rules.proofs.Soundness.{Fair, Valid}
use Rattle.table_rules.proofs.TraceBits.{bits-apart, group-commutes}
use Rattle.table_rules.proofs.Keeping.{step-valid, trace-halves, entry-fair}

-- n steps on a table are n steps on its factors
after_is : (H : Halving ℕ) (n : ℕ) (t : Table)
    → table_after H n t ≡ record { width = t.width; cutoff = t.cutoff; taken = t.taken + n; factors = steps H t.cutoff n t.factors }
unfolding table_after steps
after_is H zero t =
    let e : t.taken ≡ t.taken + 0 = omega arith in
    ap (λ k. record { width = t.width; cutoff = t.cutoff; taken = k; factors = t.factors }) e
after_is H (suc n) t =
    let e : suc t.taken + n ≡ t.taken + suc n = omega arith in
    after_is H n (step_table H t) ∙ ap (λ k. record { width = t.width; cutoff = t.cutoff; taken = k; factors = steps H t.cutoff n (step H t.cutoff t.factors) }) e

module _ {G : Ops ℕ} {m a : ℕ} (B : BinaryField G m a) (c : ℕ) (roots : List ℕ) (below : Below (2 ^ m) roots) (distinct : Distinct roots) where
  -- each entry on the way is halved alike
  pub cut-commutes : (l : List (Entry ℕ)) → Cut (by_bit (trace_bit G m a)) c 0 roots l → All (Commutes (by_bit (trace_bit G m a)) (trace_halving G m a) (monic_roots G)) l
  cut-commutes l p =
      let g = cut-grouped (trace_bit G m a) p in
      rw g.are (all-mapped (Commutes (by_bit (trace_bit G m a)) (trace_halving G m a) (monic_roots G)) (λ w. (0 + length w, group (trace_bit G m a) w roots)) g.at
      (λ w. group-commutes B (0 + length w) (group (trace_bit G m a) w roots) (all_keep (λ x. x < 2 ^ m) (agrees (trace_bit G m a) 0 w) roots below)
      (distinct-keep (agrees (trace_bit G m a) 0 w) roots distinct)))

  -- THE FACTORS AFTER n STEPS are the products over the groups after n steps
  factors-after : (n : ℕ) → steps (trace_halving G m a) c n (unless_empty 0 (monic_roots G roots)) ≡ map (carry (monic_roots G)) (reached (trace_bit G m a) c roots n)
  factors-after n =
      ap (steps (trace_halving G m a) c n) (carry-entry (monic_roots G) (length-monic_roots G) 0 roots)
      ∙ carry-steps (monic_roots G) (length-monic_roots G) (by_bit (trace_bit G m a)) (trace_halving G m a) c n (begun (trace_bit G m a) roots) cut-commutes whole

  -- and so is the table
  pub table-after : (n : ℕ) → table_after (trace_halving G m a) n (begun_table m c (monic_roots G roots)) ≡ grouped_table G m a c roots n
  table-after n =
      let e : 0 + n ≡ n = omega arith in
      after_is (trace_halving G m a) n (begun_table m c (monic_roots G roots)) ∙ λ i. record { width = m; cutoff = c; taken = e i; factors = factors-after n i }

-- ---- what a step keeps

-- the degrees of the factors are the numbers of the members
degrees : {A : Type 0} (f : List A → List ℕ) → ((s : List A) → length (f s) ≡ length s) → (l : List (Entry A)) → degree_sum (map (carry f) l) ≡ length (all_members l)
unfolding degree_sum all_members
degrees f k [] = refl
degrees f k (e ∷ l) = omega (arith, k e.1, degrees f k l, length-append e.1 (all_members l))

-- levels stay
levels : {A B : Type 0} (f : List A → List B) (l : List (Entry A)) (k : ℕ) → (entry_at (map (carry f) l) k).0 ≡ (entry_at l k).0
levels f [] k = refl
levels f (e ∷ l) zero = refl
levels f (e ∷ l) (suc k) = levels f l k

all-levels : {A B : Type 0} (f : List A → List B) (m : ℕ) (l : List (Entry A)) → All (λ e. e.0 ≤ m) l → All (λ e. e.0 ≤ m) (map (carry f) l)
all-levels f m [] h = tt
all-levels f m (e ∷ l) h = (h.0, all-levels f m l h.1)

-- parts of an entry below level m do not pass it
parts-levels : {A : Type 0} (H : Halving A) (m : ℕ) (e : Entry A) → e.0 < m → All (λ f. f.0 ≤ m) (parts H e)
unfolding parts unless_empty
parts-levels {A} H m e h = all_append _ (unless_empty (suc e.0) (H.low e.0 e.1)) (unless_empty (suc e.0) (H.high e.0 e.1))
    (one (H.low e.0 e.1)) (one (H.high e.0 e.1))
  where
    one : (s : List A) → All (λ f. f.0 ≤ m) (unless_empty (suc e.0) s)
    one [] = tt
    one (x ∷ s) = (h, tt)

split-levels : {A : Type 0} (H : Halving A) (m k : ℕ) (l : List (Entry A)) → All (λ e. e.0 ≤ m) l → (entry_at l k).0 < m → All (λ e. e.0 ≤ m) (split_entries H k l)
unfolding split_entries
split-levels H m k [] h g = tt
split-levels H m zero (e ∷ l) h g = all_append _ (parts H e) l (parts-levels H m e g) h.1
split-levels H m (suc k) (e ∷ l) h g = (h.0, split-levels H m k l h.1 g)

module _ {G : Ops ℕ} {m a : ℕ} (B : BinaryField G m a) (c : ℕ) (positive : 1 ≤ c) (roots : List ℕ) (below : Below (2 ^ m) roots) (distinct : Distinct roots) where
  abbrev bit : ℕ → ℕ → Bool
  bit = trace_bit G m a

  -- the list of groups after n steps
  abbrev at : ℕ → List (Entry ℕ)
  at = reached bit c roots

  -- how many steps
  abbrev total : ℕ
  total = group_count bit c m roots

  abbrev table : ℕ → Table
  table = grouped_table G m a c roots

  cut_at : (n : ℕ) → Cut (by_bit bit) c 0 roots (at n)
  cut_at n = S.steps-cut (by_bit bit) c n whole

  -- no two elements have the same trace bits
  pub alone : Told bit m roots
  alone = groups-told bit m (λ x. x < 2 ^ m) (bits-apart B) roots below distinct

  -- begin's table is that of the groups after no step
  pub begin-is : begun_table m c (monic_roots G roots) ≡ table 0
  unfolding steps
  begin-is = ap (λ l. record { width = m; cutoff = c; taken = 0; factors = l }) (carry-entry (monic_roots G) (length-monic_roots G) 0 roots)

  -- a step takes the table to the next
  pub step-next : (n : ℕ) → step_table (trace_halving G m a) (table n) ≡ table (suc n)
  step-next n = ap (λ l. record { width = m; cutoff = c; taken = suc n; factors = l })
      (ap (step (trace_halving G m a) c) (sym (factors-after B c roots below distinct n))
      ∙ sym (steps-more (trace_halving G m a) c n (unless_empty 0 (monic_roots G roots))) ∙ factors-after B c roots below distinct (suc n))

  -- the factors are the products over groups, nonempty and in ascending order of trace bits, each at the level of its
  -- word
  pub factors-are : (n : ℕ) → (ws : List (List Bool)) × InOrder ws × All (λ w. 0 < length (group bit w roots)) ws
      × ((table n).factors ≡ map (λ w. (length w, monic_roots G (group bit w roots))) ws)
  factors-are n =
      let g = cut-grouped bit (cut_at n) in (
        g.at,
        g.ascending,
        all_of_map (λ e. 0 < length e.1) _ g.at (subst (All (λ e. 0 < length e.1)) g.are (nonempty (cut_at n))),
        ap (map (carry (monic_roots G))) g.are ∙ map-map _ _ g.at
            ∙ ap (λ f. map f g.at) (fun_ext λ w. ap (λ (i : ℕ). (i, monic_roots G (group bit w roots))) (zero-add (length w))),
      )

  -- level m is never passed
  group-levels : (n : ℕ) → All (λ e. e.0 ≤ m) (at n)
  unfolding steps step unless_empty
  group-levels zero = one roots
    where
      one : (s : List ℕ) → All (λ e. e.0 ≤ m) (unless_empty 0 s)
      one [] = tt
      one (x ∷ s) = (omega arith, tt)
  group-levels (suc n) = rw (steps-more (by_bit bit) c n (begun bit roots)) (go (true-or-false (done c (at n))) (group-levels n))
    where
      go : (done c (at n) ≡ true) ⊎ (done c (at n) ≡ false) → All (λ e. e.0 ≤ m) (at n) → All (λ e. e.0 ≤ m) (step (by_bit bit) c (at n))
      go (inl d) h = rw (S.done-stays (by_bit bit) c (at n) d) h
      go (inr d) h =
          let t : above c (entry_at (at n) (first_above c (at n))) ≡ true = first_above-is c (at n) d in
          split-levels (by_bit bit) m (first_above c (at n)) (at n) h
          (S.at_above c (λ e. above c e ≡ true → e.0 < m) (at n) (first_above c (at n)) (S.below_last bit c m positive roots alone (cut_at n)) t t)

  pub factor-levels : (n : ℕ) → All (λ e. e.0 ≤ m) (table n).factors
  factor-levels n = all-levels (monic_roots G) m (at n) (group-levels n)

  -- done after exactly as many steps as there are groups above c, levels 0 to m-1
  pub done_at : is_done (table total) ≡ true
  done_at = carry-done (monic_roots G) (length-monic_roots G) c (at total) ∙ S.done-then bit c m positive roots alone

  pub not-done-before : (n : ℕ) → n < total → is_done (table n) ≡ false
  not-done-before n h = carry-done (monic_roots G) (length-monic_roots G) c (at n) ∙ S.not-done-before bit c m positive roots alone n h

  pub done-only : (n : ℕ) → n ≤ total → is_done (table n) ≡ true → n ≡ total
  done-only n h d = go (dec_lt n total)
    where
      go : Dec (n < total) → n ≡ total
      go (yes l) = absurd (true≢false (sym d ∙ not-done-before n l))
      go (no k) = omega arith

  -- s, of a begun table, stays the number of roots
  degrees-stay : (n : ℕ) → degree_sum (table n).factors ≡ length roots
  degrees-stay n = degrees (monic_roots G) (length-monic_roots G) (at n) ∙ cut-length bit (cut_at n)

  -- refusal 9 is never met
  pub never_stuck : (n : ℕ) → n < total → stuck (table n) ≡ false
  never_stuck n h =
      let r = S.never-refused bit c m positive roots alone n h in
      let low : (first_factor (table n)).0 < m = subst (λ i. i < m) (sym (level n)) r.0 in
      let few : n < limit_of (table n) = subst (λ d. n < m * (d / suc c)) (sym (degrees-stay n)) r.1 in
      rw (not-done-before n h, ne_eqb (first_factor (table n)).0 m (λ z. omega arith), ne_eqb n (limit_of (table n)) (λ z. omega arith))
    where
      level : (n : ℕ) → (first_factor (table n)).0 ≡ (entry_at (at n) (first_above c (at n))).0
      level n = levels (monic_roots G) (at n) (first_above c (map (carry (monic_roots G)) (at n))) ∙ ap (λ k. (entry_at (at n) k).0) (carry-first (monic_roots G) (length-monic_roots G) c (at n))

  -- begun tables are valid after each step
  pub begun-valid : (fields : ℕ → Bool) (limit : ℕ) → fields m ≡ true → c ≤ highest_cutoff → length roots ≤ limit → (n : ℕ) → n ≤ total → Valid fields limit (table n)
  begun-valid fields limit field most few zero h = record {
    field = field;
    cutoff-least = positive;
    cutoff-most = most;
    factors = subst (λ t. All (Fair m) t.factors) begin-is (entry-fair m 0 (monic_roots G roots) (omega arith) (monic_roots-below B.numbers roots below));
    sum = subst (λ d. d ≤ limit) (sym (degrees-stay 0)) few;
    steps = omega arith;
  }
  begun-valid fields limit field most few (suc n) h =
      subst (Valid fields limit) (step-next n)
      (step-valid (trace_halving G m a) (table n) (trace-halves B) (begun-valid fields limit field most few n (omega arith)) (not-done-before n (omega arith)) (never_stuck n (omega arith)))
