-- The verdict at each return of `check` and `judge`.
--   checked                      a sum is answered for sound tables alone
--   head-there                   a sound table has a head
--   sum-small                    the sum of degrees is at most the limit
--   place-within                 the place of the factor to split is one of the slots
--   fit_of                       what a check that finds nothing tells
--   judge-over, judge-level, judge-steps, judge-split   each return of `judge_sound`
-- Assumes nothing.
use mathlib.Core.Path.{◌≡◌, refl, ap, ◌∙◌}
use mathlib.Core.Bool.{Bool, true, false, cond}
use mathlib.Core.List.{List}
use Prim.Native.Nat.{ℕ, suc, ◌*◌, ◌/◌, ◌≤◌, ◌<◌}
use native.Mathlib.Omega.{arith}
use borrow.Author.Tests.{le-leb, lt-leb}
use lib.ListN.{length}
use Rattle.field.specs.Rows.{known}
use Rattle.refusals.specs.declared.Refusal.TheVariants.{Unsound, Stuck}
use Rattle.input.specs.Limit.{limit}
use Rattle.table_rules.specs.Layout.{degree_sum, by_factor}
use Rattle.table_rules.specs.Table.{Table, head_slots, limit_of, decode}
use Rattle.table_rules.specs.Splitting.{is_done, first_factor, slots_done, slots_stuck}
use Rattle.table_rules.specs.Splitting as splitting
use Rattle.table_rules.specs.Sizes.{is_table_size, limit_by, is_sound}
use Rattle.table_rules.proofs.Sizes.{limit-most, sound-size}
use Rattle.table_rules.proofs.Layouts.{by_factor-lawful}
use Rattle.table_rules.proofs.Soundness.{Valid, sound-valid}
use Rattle.table_rules.proofs.Keeping.{stuck-order}
use Rattle.table_slots.specs.Slots.{cutoff_of, level_at, Heads}
use Rattle.table_slots.specs.Walk.{sought_in, summed}
use Rattle.table_slots.specs.declared.Head.{Head}
use Rattle.std.specs.Prelude.{Option, Some, None, Ok, Err, ok_or}
use Rattle.table_slots.proofs.Finding.{Standing, seek-done, seek-at}
use Rattle.table_slots.specs.Verdicts.{Fit, Checks, Judged}
use Rattle.table_slots.specs.Verdicts.Checks.{unsound, fits}
use Rattle.table_slots.specs.Verdicts.Judged.{stuck, over, split}

module _ (l : List ℕ) where
  -- the table that the slots hold
  abbrev t : Table
  t = decode by_factor l

  -- a sum is answered for sound tables alone
  pub checked : {r : Option ℕ} → is_table_size (length l) ≡ true → r ≡ summed l → Checks l (ok_or r Unsound)
  unfolding summed
  checked h e = rw e (go (is_sound l) refl)
    where
      go : (b : Bool) → is_sound l ≡ b → Checks l (ok_or (cond b (Some (degree_sum t.factors)) None) Unsound)
      go true k = fits (record { sound = k; sum = refl })
      go false k = unsound h k

  module _ {sum : ℕ} (g : Fit l sum) where
    -- what the slots hold is valid
    valid : Valid known (limit_by l) t
    valid = sound-valid by_factor-lawful known (limit_by l) l g.sound

    -- it has its slots, and so a head
    pub head-there : head_slots ≤ length l
    head-there = omega (arith, sound-size l g.sound)

    -- the sum is at most the limit
    pub sum-small : sum ≤ limit
    sum-small = omega (arith, limit-most (length l), g.sum, valid.sum)

    module _ {h : Head} (k : Heads l h) {f : Option ℕ} (e : f ≡ sought_in h.cutoff l) where
      -- at the cutoff of the slots
      sought : f ≡ sought_in (cutoff_of l) l
      sought = e ∙ ap (λ c. sought_in c l) k.cutoff

      -- nothing to split
      pub judge-over : f ≡ None → Judged l (Ok None)
      judge-over n = over g.sound (seek-done l g.sound sought n)

      module _ {at : ℕ} (a : f ≡ Some at) where
        -- the factor to split stands there
        spot : Standing l g.sound sought at
        spot = seek-at l g.sound sought a

        -- the place is one of the slots
        pub place-within : at < length l
        place-within = spot.within

        -- the table is not done
        open-still : is_done t ≡ false
        unfolding slots_done
        open-still = spot.more

        -- refusal 9, by the test that the code makes
        nine : (b : Bool) → splitting.stuck t ≡ b → slots_stuck by_factor l ≡ b
        unfolding slots_stuck
        nine b q = q

        -- the limit of the steps
        limit_is : h.m * (sum / suc h.cutoff) ≡ limit_of t
        unfolding decode
        limit_is = rw (k.width, k.cutoff, g.sum) refl

        -- its level is m
        pub judge-level : {i : ℕ} → i ≡ level_at l at → h.m ≤ i → Judged l (Err Stuck)
        unfolding decode
        judge-level i m =
            let j : t.width ≤ (first_factor t).0 = omega (arith, spot.level, i, k.width) in
            stuck g.sound (nine true (stuck-order valid ∙ rw (open-still, le-leb t.width (first_factor t).0 j)))

        -- the steps are at their limit
        pub judge-steps : {i : ℕ} → i ≡ level_at l at → i < h.m → h.m * (sum / suc h.cutoff) ≤ h.steps → Judged l (Err Stuck)
        unfolding decode
        judge-steps i m n =
            let x : (first_factor t).0 < t.width = omega (arith, spot.level, i, k.width) in
            let j : limit_of t ≤ t.taken = omega (arith, limit_is, k.taken) in
            stuck g.sound (nine true (stuck-order valid ∙ rw (open-still, lt-leb t.width (first_factor t).0 x, le-leb (limit_of t) t.taken j)))

        -- neither: it is split
        pub judge-split : {i : ℕ} → i ≡ level_at l at → i < h.m → h.steps < h.m * (sum / suc h.cutoff) → Judged l (Ok (Some at))
        unfolding decode
        judge-split i m n =
            let x : (first_factor t).0 < t.width = omega (arith, spot.level, i, k.width) in
            let j : t.taken < limit_of t = omega (arith, limit_is, k.taken) in
            split (record {
              sound = g.sound;
              free = nine false (stuck-order valid ∙ rw (open-still, lt-leb t.width (first_factor t).0 x, lt-leb (limit_of t) t.taken j));
              more = spot.more;
              at = spot.here;
            })

-- what a check that finds nothing tells
pub fit_of : {l : List ℕ} {s : ℕ} → Checks l (Ok s) → Fit l s
fit_of (fits g) = g
