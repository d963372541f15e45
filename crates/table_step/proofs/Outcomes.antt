-- From the verdict to the promise of a step.
--   step-passes               no test of a step holds
--   step-refused, step-over   a step that writes nothing;  chosen_of, step-taken  a step that is taken
-- Assumes nothing.
use mathlib.Core.Path.{◌≡◌, sym, ap, ◌∙◌}
use mathlib.Core.Bool.{Bool, true, false, not, cond}
use mathlib.Core.List.{List, [], ◌∷◌}
use Prim.Native.Nat.{ℕ}
use lib.ListN.{length}
use Rattle.refusals.specs.Numbers.{number_of}
use Rattle.refusals.specs.Order.{Given, Passed}
use Rattle.refusals.specs.Order.Passed.{none}
use Rattle.refusals.specs.declared.Refusal.{Refusal}
use Rattle.refusals.proofs.Order.{holds, fails, passes}
use Rattle.refusals.proofs.Order as order
use Rattle.table_rules.specs.Layout.{by_factor}
use Rattle.table_rules.specs.Splitting.{slots_done, slots_stuck, slots_stepped}
use Rattle.table_rules.specs.Sizes.{is_table_size, is_sound}
use Rattle.table_rules.proofs.Sizes.{size-exactly, sound-size}
use Rattle.table_step.specs.Calls.{step_tests, step_outcome, step_memory, stepped_values}
use Rattle.table_slots.specs.Verdicts.{Checks, Chosen, Judged}
use Rattle.table_slots.specs.Verdicts.Checks.{short, unsound}
use Rattle.table_slots.specs.Verdicts.Judged.{unfit, stuck, over, split}
use Rattle.table_step.specs.declared.Stepped.{Stepped}
use Rattle.table_step.specs.declared.Stepped.TheVariants.{Taken, Done}
use Rattle.refusals.specs.Admitting.{told}
use Rattle.std.specs.Prelude.{Result, Some, None, Ok, Err}

-- what a step promises of its answer and of the slots that it leaves
abbrev Promise : List ℕ → Result Stepped Refusal → List ℕ → Type 0
Promise l r l' = (told stepped_values r ≡ step_outcome l) × (l' ≡ step_memory l)

-- a step that passes its tests, by whether the table is done
passed-memory : (l : List ℕ) (b : Bool) → slots_done by_factor l ≡ b → cond (slots_done by_factor l) l (slots_stepped by_factor l) ≡ cond b l (slots_stepped by_factor l)
passed-memory l b d = ap (λ x. cond x l (slots_stepped by_factor l)) d

-- ---- the tests of a step, by the verdict

module _ (l : List ℕ) where
  -- a sound table passes 7 and 8
  sound-first : is_sound l ≡ true → not (is_table_size (length l)) ≡ false
  sound-first s = ap not ((size-exactly (length l)).1 (sound-size l s))

  -- the test that a check found to hold
  check-given : {k : Refusal} → Checks l (Err k) → Given (number_of k) (step_tests l)
  check-given (short n) = holds (ap not n)
  check-given (unsound e u) = fails (ap not e) (holds (ap not u))

  -- no test holds
  step-passes : is_sound l ≡ true → slots_stuck by_factor l ≡ false → Passed (step_tests l)
  step-passes s f = passes (sound-first s) (passes (ap not s) (passes f none))

  -- a done table is not stuck
  done-free : slots_done by_factor l ≡ true → slots_stuck by_factor l ≡ false
  unfolding slots_done slots_stuck
  done-free d = rw d

-- a refusal
refused-by : {l : List ℕ} {k : Refusal} → Judged l (Err k) → Given (number_of k) (step_tests l)
refused-by {l} (unfit c) = check-given l c
refused-by {l} (stuck s f) = fails (sound-first l s) (fails (ap not s) (holds f))

-- it writes nothing
pub step-refused : {l : List ℕ} {k : Refusal} → Judged l (Err k) → Promise l (Err k) l
step-refused {l} j = (
  sym (order.refused (cond (slots_done by_factor l) 1 0 ∷ []) (refused-by j)),
  sym (order.unwritten (cond (slots_done by_factor l) l (slots_stepped by_factor l)) l (refused-by j)),
)

-- nothing to split
pub step-over : {l : List ℕ} → Judged l (Ok None) → Promise l (Ok Done) l
step-over {l} (over s d) =
    let p = step-passes l s (done-free l d) in (
      sym (order.accepted (cond (slots_done by_factor l) 1 0 ∷ []) p ∙ ap (λ b. (0, cond b 1 0 ∷ [])) d),
      sym (order.written (cond (slots_done by_factor l) l (slots_stepped by_factor l)) l p ∙ passed-memory l true d),
    )

-- a verdict to split
pub chosen_of : {l : List ℕ} {o : ℕ} → Judged l (Ok (Some o)) → Chosen l o
chosen_of (split c) = c

-- a step that is taken
pub step-taken : {l l' : List ℕ} {o : ℕ} → Chosen l o → l' ≡ slots_stepped by_factor l → Promise l (Ok Taken) l'
step-taken {l} c e =
    let p = step-passes l c.sound c.free in (
      sym (order.accepted (cond (slots_done by_factor l) 1 0 ∷ []) p ∙ ap (λ b. (0, cond b 1 0 ∷ [])) c.more),
      e ∙ sym (order.written (cond (slots_done by_factor l) l (slots_stepped by_factor l)) l p ∙ passed-memory l false c.more),
    )
