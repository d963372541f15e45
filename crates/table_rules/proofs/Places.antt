-- Where the first factor above the cutoff stands in the slots of a table (RULES 4.1), and a step as a splice: what the
-- code of a step finds and writes.
--   split-is       a split replaces one entry by its parts and leaves the others untouched;  step_is  so does a step
--   parts-few      an entry has at most two parts;  parts-some  a factor at least one
--   encode-around  the slots around it;  level-at, degree-at, coefficients-at  its own
--   room           two slots at least are free behind a table that is not done
--   STEP-SPLICED   the slots after a step: the parts in the factor's place, what is behind moved, and slots 2 and 3
-- Assumes nothing.
use mathlib.Core.Path.{◌≡◌, refl, sym, ap, ap₂, ◌∙◌}
use mathlib.Core.Bool.{Bool, true, false}
use mathlib.Core.List.{List, [], ◌∷◌, ◌++◌, append_assoc}
use Prim.Native.Nat.{ℕ, zero, suc, ◌+◌, ◌-◌, ◌*◌, ◌^◌, ◌≤◌, ◌<◌}
use native.Mathlib.Nat.{not-suc-le-zero}
use native.Mathlib.Omega.{arith}
use borrow.Author.Tests.{ltb-true, lt-ltb}
use lib.ListN.{length, get_or, take, drop, set, replicate, length-append}
use lib.Seq.{split_at, get_or-append_seam, get_or-append-add, drop-append-add, take-append_seam}
use Rattle.algebra.specs.Trial.{All}
use Rattle.algebra.specs.Polynomial.{Below}
use Rattle.slices.specs.Lists.{spliced}
use Rattle.slices.proofs.Lists.{spliced-zeros}
use Rattle.table_rules.specs.Entries.{Entry, Halving, unless_empty, parts, split_entries, above, entry_at, first_above, done, step}
use Rattle.table_rules.specs.Layout.{Factor, blocks, by_factor, degree_sum}
use Rattle.table_rules.specs.Table.{Table, slots_for, encode}
use Rattle.table_rules.specs.Splitting.{is_done, first_factor, step_table}
use Rattle.table_rules.specs.Places.{ahead, beyond, leading, place, slots_of, spare}
use Rattle.table_rules.proofs.Cut.{within, first_above-is}
use Rattle.table_rules.proofs.Steps.{at_above}
use Rattle.table_rules.proofs.Layouts.{blocks-append, length-blocks}
use Rattle.table_rules.proofs.Soundness.{Fair, Valid, fair-count}
use Rattle.table_rules.proofs.Keeping.{LosslessHalving, parts-sum}

module _ {A : Type 0} (H : Halving A) where
  -- the others are untouched
  split-is : (k : ℕ) (l : List (Entry A)) → k < length l → split_entries H k l ≡ take k l ++ (parts H (entry_at l k) ++ drop (suc k) l)
  unfolding split_entries
  split-is k [] h = absurd (not-suc-le-zero h)
  split-is zero (e ∷ l) h = refl
  split-is (suc k) (e ∷ l) h = ap (λ u. e ∷ u) (split-is k l (omega arith))

  -- so also in a step
  step_is : (c : ℕ) (l : List (Entry A)) → done c l ≡ false
      → step H c l ≡ take (first_above c l) l ++ (parts H (entry_at l (first_above c l)) ++ drop (suc (first_above c l)) l)
  unfolding step
  step_is c l d = split-is (first_above c l) l (within c l (first_above c l) (first_above-is c l d))

  -- the constant ones are omitted
  pub parts-few : (e : Entry A) → length (parts H e) ≤ 2
  unfolding parts unless_empty
  parts-few e = go (H.low e.0 e.1) (H.high e.0 e.1)
    where
      go : (g h : List A) → length (unless_empty (suc e.0) g ++ unless_empty (suc e.0) h) ≤ 2
      go [] [] = omega arith
      go [] (y ∷ h) = omega arith
      go (x ∷ g) [] = omega arith
      go (x ∷ g) (y ∷ h) = omega arith

-- a list whose degrees are not all 0 is not empty
some-degree : (l : List Factor) → 1 ≤ degree_sum l → 1 ≤ length l
unfolding degree_sum
some-degree [] h = absurd (not-suc-le-zero h)
some-degree (e ∷ l) h = omega arith

-- where some degree is above 1, there are fewer factors than degrees
fewer-factors : (m : ℕ) (l : List Factor) (k : ℕ) → All (Fair m) l → above 1 (entry_at l k) ≡ true → length l < degree_sum l
unfolding degree_sum
fewer-factors m [] k h a = absurd (not-suc-le-zero (ltb-true 1 0 a))
fewer-factors m (e ∷ l) zero h a = omega (arith, ltb-true 1 (length e.1) a, fair-count m l h.1)
fewer-factors m (e ∷ l) (suc k) h a = omega (arith, h.0.degree, fewer-factors m l k h.1 a)

-- not both parts are constant
pub parts-some : (H : Halving ℕ) (m : ℕ) → ((i : ℕ) (p : List ℕ) → Below (2 ^ m) p → LosslessHalving H m i p) → (e : Factor) → Fair m e → 1 ≤ length (parts H e)
parts-some H m halves e h = some-degree (parts H e) (omega (arith, parts-sum H m halves e h, h.degree))

-- ---- around the first factor above the cutoff

one_block : (e : Factor) (l : List Factor) → blocks (e ∷ l) ≡ slots_of e ++ blocks l
unfolding blocks
one_block e l = refl

module _ {fields : ℕ → Bool} {limit : ℕ} (t : Table) (v : Valid fields limit t) (d : is_done t ≡ false) where
  factors-around : t.factors ≡ ahead t ++ (first_factor t ∷ beyond t)
  factors-around =
      split_at t.factors (first_above t.cutoff t.factors) (0, []) (within t.cutoff t.factors _ (first_above-is t.cutoff t.factors d))

  pub first-fair : Fair t.width (first_factor t)
  first-fair = at_above t.cutoff (Fair t.width) t.factors _ v.factors (first_above-is t.cutoff t.factors d)

  -- its degree is above the cutoff, so above 1
  first-large : t.cutoff < length (first_factor t).1
  first-large = ltb-true t.cutoff (length (first_factor t).1) (first_above-is t.cutoff t.factors d)

  blocks-around : blocks t.factors ≡ blocks (ahead t) ++ (slots_of (first_factor t) ++ blocks (beyond t))
  blocks-around = ap blocks factors-around ∙ blocks-append (ahead t) (first_factor t ∷ beyond t) ∙ ap (λ u. blocks (ahead t) ++ u) (one_block (first_factor t) (beyond t))

  -- the slots before it, its own, and those behind it
  pub encode-around : (slots : ℕ) → encode by_factor slots t ≡ leading t ++ (slots_of (first_factor t) ++ (blocks (beyond t) ++ replicate (spare slots t) 0))
  unfolding encode
  encode-around slots =
      ap (λ u. t.width ∷ t.cutoff ∷ length t.factors ∷ t.taken ∷ u)
      (ap (λ u. u ++ replicate (spare slots t) 0) blocks-around
      ∙ append_assoc (blocks (ahead t)) (slots_of (first_factor t) ++ blocks (beyond t)) (replicate (spare slots t) 0)
      ∙ ap (λ u. blocks (ahead t) ++ u) (append_assoc (slots_of (first_factor t)) (blocks (beyond t)) (replicate (spare slots t) 0)))

  module _ (slots : ℕ) where
    -- what is behind it
    abbrev after : List ℕ
    after = blocks (beyond t) ++ replicate (spare slots t) 0

    pub level-at : get_or (encode by_factor slots t) (place t) 0 ≡ (first_factor t).0
    level-at = ap (λ l. get_or l (place t) 0) (encode-around slots) ∙ get_or-append_seam (leading t) (first_factor t).0 (length (first_factor t).1 ∷ ((first_factor t).1 ++ after)) 0

    pub degree-at : get_or (encode by_factor slots t) (place t + 1) 0 ≡ length (first_factor t).1
    degree-at = ap (λ l. get_or l (place t + 1) 0) (encode-around slots) ∙ get_or-append-add (leading t) (slots_of (first_factor t) ++ after) 1 0

    pub coefficients-at : take (length (first_factor t).1) (drop (place t + 2) (encode by_factor slots t)) ≡ (first_factor t).1
    coefficients-at =
        ap (λ l. take (length (first_factor t).1) (drop (place t + 2) l)) (encode-around slots)
        ∙ ap (take (length (first_factor t).1)) (drop-append-add (leading t) (slots_of (first_factor t) ++ after) 2) ∙ take-append_seam (first_factor t).1 after

  -- ---- the step

  counted : length t.factors ≡ length (ahead t) + suc (length (beyond t))
  counted = ap length factors-around ∙ length-append (ahead t) (first_factor t ∷ beyond t)

  -- so a second part fits in
  pub room : 2 ≤ spare (slots_for limit) t
  room =
      let large : above 1 (first_factor t) ≡ true = lt-ltb 1 (length (first_factor t).1) (omega (arith, first-large, v.cutoff-least)) in
      omega (arith, length-blocks t.factors, fewer-factors t.width t.factors (first_above t.cutoff t.factors) v.factors large, v.sum)

  module _ (H : Halving ℕ) (halves : (i : ℕ) (p : List ℕ) → Below (2 ^ t.width) p → LosslessHalving H t.width i p) where
    -- the new slots of the factor, and how many they are
    abbrev new : List ℕ
    new = blocks (parts H (first_factor t))

    pub length-new : length new ≡ 2 * length (parts H (first_factor t)) + length (first_factor t).1
    length-new = length-blocks (parts H (first_factor t)) ∙ ap (λ n. 2 * length (parts H (first_factor t)) + n) (parts-sum H t.width halves (first_factor t) first-fair)

    -- one factor goes, and its parts come
    count-after : length (step H t.cutoff t.factors) ≡ length t.factors - 1 + length (parts H (first_factor t))
    count-after =
        ap length (step_is H t.cutoff t.factors d)
        ∙ omega (arith, counted, length-append (ahead t) (parts H (first_factor t) ++ beyond t), length-append (parts H (first_factor t)) (beyond t))

    blocks-after : blocks (step H t.cutoff t.factors) ≡ blocks (ahead t) ++ (new ++ blocks (beyond t))
    blocks-after =
        ap blocks (step_is H t.cutoff t.factors d) ∙ blocks-append (ahead t) (parts H (first_factor t) ++ beyond t)
        ∙ ap (λ u. blocks (ahead t) ++ u) (blocks-append (parts H (first_factor t)) (beyond t))

    -- THE SLOTS AFTER A STEP
    pub step-spliced : encode by_factor (slots_for limit) (step_table H t)
        ≡ set (set (spliced (place t) (length (slots_of (first_factor t))) new (encode by_factor (slots_for limit) t)) 2 (length t.factors - 1 + length (parts H (first_factor t)))) 3 (suc t.taken)
    unfolding encode
    step-spliced =
        let p : ℕ = length (parts H (first_factor t)) in
        let old : ℕ = length (slots_of (first_factor t)) in
        let z : ℕ = spare (slots_for limit) t in
        let left : ℕ = old + z - length new in
        let some : 1 ≤ p = parts-some H t.width halves (first_factor t) first-fair in
        let few : p ≤ 2 = parts-few H (first_factor t) in
        let free : 2 ≤ z = room in
        let long : length new ≡ 2 * p + length (first_factor t).1 = length-new in
        let joined : spliced (place t) old new (encode by_factor (slots_for limit) t) ≡ leading t ++ (new ++ (blocks (beyond t) ++ replicate left 0)) =
        spliced-zeros (leading t) (slots_of (first_factor t)) (blocks (beyond t)) new z (encode-around (slots_for limit)) refl refl (omega arith) (omega arith) in
        let zeros : spare (slots_for limit) (step_table H t) ≡ left =
        omega (
          arith,
          ap length blocks-after,
          length-append (blocks (ahead t)) (new ++ blocks (beyond t)),
          length-append new (blocks (beyond t)),
          ap length blocks-around,
          length-append (blocks (ahead t)) (slots_of (first_factor t) ++ blocks (beyond t)),
          length-append (first_factor t).1 (blocks (beyond t)),
        ) in
        ap₂ (λ (n : ℕ) (u : List ℕ). t.width ∷ t.cutoff ∷ n ∷ suc t.taken ∷ u) count-after
        (ap₂ (λ (u : List ℕ) (n : ℕ). u ++ replicate n 0) blocks-after zeros
        ∙ append_assoc (blocks (ahead t)) (new ++ blocks (beyond t)) (replicate left 0)
        ∙ ap (λ u. blocks (ahead t) ++ u) (append_assoc new (blocks (beyond t)) (replicate left 0)))
        ∙ ap (λ l. set (set l 2 (length t.factors - 1 + p)) 3 (suc t.taken)) (sym joined)
