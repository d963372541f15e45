-- The walk over the factors of a done table, whose roots are merged into one list.
--   roots-long, merge-asks, merge-is   one factor: its roots are found and merged
--   table-long, table-known           a sound table has its slots, and its field is known
--   head-there                        its head
--   named, listable                   the head names the field, whose tables are lent
--   Zero                              some factor is 0 at an element
--   Finishing                         what holds at each turn: what lies ahead, and what has been merged
--   finish-from, finish-on, finish-end  the start, a turn, the end
--   FactorHere, factor-here                        the factor in front, and the others
--   factor-within, front-degree, front-is, front-stands, turn-asks   the factor in front, and what a turn asks
-- Assumes nothing.
use mathlib.Core.Path.{◌≡◌, refl, sym, ap, ap₂, ◌∙◌, subst}
use mathlib.Core.Logic.{◌↔◌, ◌⊎◌, inl, inr, ⊎_elim}
use mathlib.Core.Bool.{Bool, true, false, not, ◌||◌, and-eq-true_iff}
use mathlib.Core.List.Memᴰ
use mathlib.Core.List.{List, [], ◌∷◌, ◌++◌, append_assoc, Memᴰ}
use Prim.Native.Nat.{ℕ, ◌+◌, ◌^◌, ◌≤◌, ◌<◌}
use native.Mathlib.Omega.{arith}
use borrow.Author.Tests.{ltb-false}
use lib.Dec.{T}
use lib.ListN.{length, get_or, take, drop, replicate, length-append}
use lib.Seq.{length-take-le, get_or-append-add, take-append_seam, drop-append-add}
use Rattle.algebra.specs.Trial.{All}
use Rattle.algebra.specs.Polynomial.{is_root}
use Rattle.algebra.specs.Routines.{monic}
use Rattle.algebra.proofs.RootList.{roots_of-member}
use Rattle.field.specs.Rows.{known}
use Rattle.slices.specs.Ordered.{Merged}
use Rattle.slices.proofs.Ordered.{merged-none, merged-append, merged-count, merged-kept}
use Rattle.poly_small.specs.Roots.{RootsOut}
use Rattle.input.specs.Cutoff.{highest_cutoff}
use Rattle.input.specs.Limit.{limit}
use Rattle.table_rules.specs.Entries.{above, done}
use Rattle.table_rules.specs.Layout.{factor_slots, Factor, degree_sum, blocks, by_factor}
use Rattle.table_rules.specs.Table.{Table, head_slots, slots_for, encode, decode}
use Rattle.table_rules.specs.Splitting.{some_zero, slots_done, slots_roots}
use Rattle.table_rules.proofs.Sizes.{limit-most}
use Rattle.table_rules.proofs.Layouts.{by_factor-lawful}
use Rattle.table_rules.specs.Places.{spare}
use Rattle.table_rules.proofs.Soundness.{Fair, Valid, sound-valid, sound-encoded, sound-rules}
use Rattle.field.specs.Field.{field_at, G, roots_at}
use Rattle.field.specs.Tables.{Halves}
use Rattle.table_rules.specs.Sizes.{limit_by}
use Rattle.table_slots.specs.Slots.{width_of, cutoff_of, count_of, degree_at, factor_at, next_at, StandsWhole, Heads}
use Rattle.table_slots.specs.declared.Head.{Head}
use Rattle.table_finish.specs.Finishing.{Mergeable, RootsIn, Lendable, Listable, ListedIn}

-- ---- one factor

module _ {m : ℕ} {hs p roots : List ℕ} {n : ℕ} (g : Mergeable m hs p roots n) where
  module _ {k : ℕ} {out : List ℕ} (e : length out ≡ 3) (o : RootsOut m p k out) where
    -- as many as it says
    pub roots-long : length (take k out) ≡ k
    roots-long = length-take-le k out (omega (arith, o.count, g.low))

    -- what the merge asks
    pub merge-asks : n + length (take k out) ≤ length roots
    merge-asks = omega (arith, roots-long, o.count, g.room)

    -- what it leaves
    pub merge-is : {j : ℕ} {roots' : List ℕ} → Merged n (take k out) roots j roots' → RootsIn m p n roots j roots'
    merge-is h = record { roots = take k out; few = omega (arith, roots-long, o.count); members = o.members; merged = h }

-- ---- the factor in front

-- slots behind `pre`: those of a factor, then the rest
module _ (e : Factor) (fs : List Factor) (pre z : List ℕ) where
  -- all of them
  abbrev slots_ahead : List ℕ
  slots_ahead = pre ++ (blocks (e ∷ fs) ++ z)

  -- the factor is there, whole
  ahead-long : length pre + 2 + length e.1 ≤ length slots_ahead
  unfolding blocks
  ahead-long = omega (
    arith,
    length-append pre (blocks (e ∷ fs) ++ z),
    length-append (blocks (e ∷ fs)) z,
    length-append e.1 (blocks fs),
  )

  -- its degree
  ahead-degree : get_or slots_ahead (length pre + 1) 0 ≡ length e.1
  unfolding blocks
  ahead-degree = get_or-append-add pre (blocks (e ∷ fs) ++ z) 1 0

  -- its coefficients
  ahead-coefficients : take (length e.1) (drop (length pre + 2) slots_ahead) ≡ e.1
  unfolding blocks
  ahead-coefficients =
      ap (take (length e.1)) (drop-append-add pre (blocks (e ∷ fs) ++ z) 2 ∙ append_assoc e.1 (blocks fs) z) ∙ take-append_seam e.1 (blocks fs ++ z)

  -- it goes over to what is before
  ahead-again : slots_ahead ≡ (pre ++ (e.0 ∷ length e.1 ∷ e.1)) ++ (blocks fs ++ z)
  unfolding blocks
  ahead-again = simp append_assoc

  -- where the next stands
  ahead-next : length (pre ++ (e.0 ∷ length e.1 ∷ e.1)) ≡ length pre + 2 + length e.1
  ahead-next = length-append pre (e.0 ∷ length e.1 ∷ e.1) ∙ omega arith

-- ---- the loop

-- one of two tests
either : (a b : Bool) → T (a || b) ↔ (T a ⊎ T b)
either true b = (λ t. inl tt, λ o. tt)
either false b = (λ t. inr t, λ o. ⊎_elim (λ t. absurd t) (λ t. t) o)

-- a factor is 0 at x
abbrev pub Zero : ℕ → List Factor → ℕ → Type 0
Zero m fs x = (x < 2 ^ m) × T (some_zero (G m) fs x)

-- behind i of n factors the numbers of `seen` have been merged, and what lies ahead has the others
pub record Finishing (m c : ℕ) (fs : List Factor) (l list₀ list : List ℕ) (n i at k : ℕ) : Type 0 where
  pub ahead : List Factor
  pub pre : List ℕ
  pub after : List ℕ
  pub seen : List ℕ
  pub count : i + length ahead ≡ n
  pub slots : l ≡ pre ++ (blocks ahead ++ after)
  pub place : at ≡ length pre
  pub long : length list ≡ length list₀
  pub room : limit ≤ length list₀
  pub merged : Merged 0 seen list₀ k list
  pub few : length seen + degree_sum ahead ≤ limit
  pub fair : All (Fair m) ahead
  pub low : done c ahead ≡ true
  pub exact : (x : ℕ) → Zero m fs x ↔ (Memᴰ x seen ⊎ Zero m ahead x)

-- where the factor in front is 0, and where the others are
zero-split : (m : ℕ) (e : Factor) (fs : List Factor) (x : ℕ) → Zero m (e ∷ fs) x ↔ (Memᴰ x (roots_at m (monic (G m) e.1)) ⊎ Zero m fs x)
unfolding some_zero
zero-split m e fs x =
    let two = either (is_root (G m) (monic (G m) e.1) x) (some_zero (G m) fs x) in
    let r = roots_of-member (G m) (2 ^ m) (monic (G m) e.1) x in (
      λ z. ⊎_elim (λ u. inl (r.1 (z.0, u))) (λ u. inr (z.0, u)) (two.0 z.1),
      λ o. ⊎_elim (λ u. let v = r.0 u in (v.0, two.1 (inl v.1))) (λ u. (u.0, two.1 (inr u.1))) o,
    )

-- none is ahead
zero-none : (m x : ℕ) → Zero m [] x → ⊥
unfolding some_zero
zero-none m x z = z.1

-- a sound table has its slots, and its field is known
module _ {l list : List ℕ} (g : Lendable l list) where
  -- its slots
  table-long : length l ≡ slots_for (limit_by l)
  table-long = ((sound-rules by_factor known (limit_by l) l).0 g.sound).size

  -- its field
  pub table-known : known (width_of l) ≡ true
  table-known = ((sound-rules by_factor known (limit_by l) l).0 g.sound).field

  -- it has a head
  pub head-there : head_slots ≤ length l
  head-there = omega (arith, table-long)

  -- the head names it
  pub named : {h : Head} → Heads l h → known h.m ≡ true
  named k = ap known k.width ∙ table-known

  -- and with its tables it can be finished
  pub listable : {h : Head} → Heads l h → {m : ℕ} → m ≡ h.m → {hs : List ℕ} → Halves (field_at h.m) hs → Listable m hs l list
  listable k e {hs} t = record { given = g; width = e ∙ k.width; halves = subst (λ (w : ℕ). Halves (field_at w) hs) (sym e) t }

module _ {m : ℕ} {hs l list : List ℕ} (g : Listable m hs l list) where
  -- the table that the slots hold
  abbrev t : Table
  t = decode by_factor l

  -- the table keeps the rules
  valid : Valid known (limit_by l) t
  valid = sound-valid by_factor-lawful known (limit_by l) l g.given.sound

  -- the slots of the head, those of the factors, and zeros
  apart : l ≡ (t.width ∷ t.cutoff ∷ length t.factors ∷ t.taken ∷ []) ++ (blocks t.factors ++ replicate (spare (slots_for (limit_by l)) t) 0)
  unfolding encode
  apart = sym (sound-encoded by_factor-lawful known (limit_by l) l g.given.sound)

  -- the cutoff is at most the highest
  cutoff-small : cutoff_of l ≤ highest_cutoff
  unfolding decode
  cutoff-small = valid.cutoff-most

  -- each factor keeps the rules
  all_fair : All (Fair (width_of l)) t.factors
  unfolding decode
  all_fair = valid.factors

  -- none is above the cutoff
  all-low : done (cutoff_of l) t.factors ≡ true
  unfolding decode slots_done
  all-low = g.given.done

  -- at the start all lies ahead
  pub finish-from : {n : ℕ} → n ≡ count_of l → Finishing (width_of l) (cutoff_of l) t.factors l list list n 0 head_slots 0
  finish-from {n} e = record {
    ahead = t.factors;
    pre = t.width ∷ t.cutoff ∷ length t.factors ∷ t.taken ∷ [];
    after = replicate (spare (slots_for (limit_by l)) t) 0;
    seen = [];
    count = let c : n ≡ length t.factors = e ∙ ap count_of apart in omega (arith, c);
    slots = apart;
    place = refl;
    long = refl;
    room = g.given.room;
    merged = merged-none 0 list (omega arith);
    few = omega (arith, limit-most (length l), valid.sum);
    fair = all_fair;
    low = all-low;
    exact = λ x. (λ z. inr z, λ o. ⊎_elim (λ h. absurd (Memᴰ.not-nil h)) (λ z. z) o);
  }

  -- ---- a turn

  module _ {list' : List ℕ} {n i at k : ℕ} (f : Finishing (width_of l) (cutoff_of l) t.factors l list list' n i at k) where
    -- no more are listed than were merged
    k-few : k ≤ length f.seen
    k-few = omega (arith, merged-count f.merged (omega arith))

    module _ (more : i < n) where
      -- the factor in front
      pub record FactorHere : Type 0 where
        pub first : Factor
        pub others : List Factor
        pub split : f.ahead ≡ first ∷ others

      -- there is one
      pub factor-here : FactorHere
      factor-here = go f.ahead refl
        where
          go : (fs : List Factor) → f.ahead ≡ fs → FactorHere
          go [] e = absurd (omega (arith, f.count, ap length e))
          go (e ∷ fs) s = record { first = e; others = fs; split = s }

      -- its coefficients
      abbrev pub p : List ℕ
      p = factor-here.first.1

      -- where it stands
      spread : l ≡ slots_ahead factor-here.first factor-here.others f.pre f.after
      spread = f.slots ∙ ap (λ u. f.pre ++ (blocks u ++ f.after)) factor-here.split

      -- those ahead keep the rules
      all-ahead : All (Fair (width_of l)) (factor-here.first ∷ factor-here.others)
      all-ahead = subst (All (Fair (width_of l))) factor-here.split f.fair

      -- it is there, whole
      factor-within : at + factor_slots + length p ≤ length l
      factor-within = omega (arith, f.place, ap length spread, ahead-long factor-here.first factor-here.others f.pre f.after)

      -- its degree stands before it
      front-degree : degree_at l at ≡ length p
      front-degree = ap₂ (λ u j. get_or u (j + 1) 0) spread f.place ∙ ahead-degree factor-here.first factor-here.others f.pre f.after

      -- its coefficients stand there
      front-is : factor_at l at ≡ p
      front-is =
          ap (λ n. take n (drop (at + 2) l)) front-degree ∙ ap₂ (λ u j. take (length p) (drop (j + 2) u)) spread f.place
          ∙ ahead-coefficients factor-here.first factor-here.others f.pre f.after

      -- it stands in the slots
      pub front-stands : StandsWhole l at
      front-stands = omega (arith, factor-within, front-degree)

      -- it is not above the cutoff, nor are the others
      both : (not (above (cutoff_of l) factor-here.first) ≡ true) × (done (cutoff_of l) factor-here.others ≡ true)
      unfolding done
      both = (and-eq-true_iff _ _).0 (subst (λ u. done (cutoff_of l) u ≡ true) factor-here.split f.low)

      -- so its degree is at most that
      degree-low : length p ≤ highest_cutoff
      degree-low = omega (arith, ltb-false (cutoff_of l) (length factor-here.first.1) (unflip (above (cutoff_of l) factor-here.first) both.0), cutoff-small)
        where
          unflip : (b : Bool) → not b ≡ true → b ≡ false
          unflip true e = sym e
          unflip false e = refl

      -- the sum of degrees, without it
      sum-split : degree_sum f.ahead ≡ length p + degree_sum factor-here.others
      unfolding degree_sum
      sum-split = ap degree_sum factor-here.split

      -- what a turn asks
      pub turn-asks : {q : List ℕ} → q ≡ factor_at l at → Mergeable m hs q list' k
      turn-asks o =
          let d = degree-low in
          let s = sum-split in
          let e = o ∙ front-is in
          record {
            halves = g.halves;
            small = rw (g.width, e) all-ahead.0.coefficients;
            low = omega (arith, ap length e);
            room = omega (arith, ap length e, k-few, f.few, f.room, f.long);
          }

      -- a turn: its roots are merged
      pub finish-on : {q : List ℕ} {j next : ℕ} {list'' : List ℕ} → q ≡ factor_at l at → RootsIn m q k list' j list''
          → length list'' ≡ length list' → next ≡ next_at l at → Finishing (width_of l) (cutoff_of l) t.factors l list list'' n (i + 1) next j
      finish-on {q} {j} {next} {list''} o r₀ h x =
          let m : ℕ = width_of l in
          let e = o ∙ front-is in
          let r : RootsIn m q k list' j list'' = subst (λ (x : ℕ). RootsIn x q k list' j list'') g.width r₀ in
          let s = sum-split in
          let old = f.exact in
          record {
            ahead = factor-here.others;
            pre = f.pre ++ (factor-here.first.0 ∷ length p ∷ p);
            after = f.after;
            seen = f.seen ++ r.roots;
            count = omega (arith, f.count, ap length factor-here.split);
            slots = spread ∙ ahead-again factor-here.first factor-here.others f.pre f.after;
            place = omega (arith, f.place, front-degree, ahead-next factor-here.first factor-here.others f.pre f.after);
            long = h ∙ f.long;
            room = f.room;
            merged = merged-append f.merged r.merged;
            few = omega (arith, length-append f.seen r.roots, r.few, ap length e, f.few);
            fair = all-ahead.1;
            low = both.1;
            exact = λ x.
                let step = zero-split m factor-here.first factor-here.others x in
                let mem : Memᴰ x r.roots ↔ Memᴰ x (roots_at m (monic (G m) p)) = subst (λ u. Memᴰ x r.roots ↔ Memᴰ x (roots_at m (monic (G m) u))) e (r.members x) in
                let ahead : Zero m f.ahead x ↔ Zero m (factor-here.first ∷ factor-here.others) x = subst (λ u. Zero m f.ahead x ↔ Zero m u x) factor-here.split (λ z. z, λ z. z) in (
                  λ z. ⊎_elim (λ u. inl (Memᴰ.append_left r.roots u))
                      (λ u. ⊎_elim (λ v. inl (Memᴰ.append_right f.seen (mem.1 v))) (λ v. inr v) (step.0 (ahead.0 u))) ((old x).0 z),
                  λ o. (old x).1 (⊎_elim (λ u. ⊎_elim (λ v. inl v) (λ v. inr (ahead.1 (step.1 (inl (mem.0 v))))) (Memᴰ.append_cases f.seen u))
                      (λ u. inr (ahead.1 (step.1 (inr u)))) o),
                );
          }

    -- at the end nothing lies ahead
    pub finish-end : n ≤ i → ListedIn l list k list'
    unfolding decode slots_roots
    finish-end h =
        let m : ℕ = width_of l in
        let none : f.ahead ≡ [] = empty f.ahead (omega (arith, f.count)) in
        let e = merged-kept (some_zero (G m) t.factors) (2 ^ m) f.merged (λ x. (
          λ u. (f.exact x).1 (inl u),
          λ z. ⊎_elim (λ u. u) (λ u. absurd (zero-none m x (subst (λ v. Zero m v x) none u))) ((f.exact x).0 z),
        )) in
        record { few = omega (arith, k-few, f.few); count = e.0; slots = e.1 }
      where
        empty : (fs : List Factor) → length fs ≤ 0 → fs ≡ []
        empty [] a = refl
        empty (e ∷ fs) a = absurd (omega arith)
