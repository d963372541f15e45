-- Two outcomes that the contract of a step admits coincide: the answer is told by its number and value, and the table
-- by a function.
--   stepped-back       the value tells the answer
--   stepped-told    two answers with one number and value are one
--   step-coincide   so for the call
-- Assumes nothing.
use mathlib.Core.Path.{◌≡◌, refl}
use mathlib.Core.List.{List}
use mathlib.Core.Bool.{cond}
use Prim.Native.Nat.{ℕ}
use lib.Dec.{eqb}
use lib.ListN.{get_or}
use Rattle.std.specs.Prelude.{Result}
use Rattle.refusals.specs.Admitting.{told}
use Rattle.refusals.specs.declared.Refusal.{Refusal}
use Rattle.refusals.proofs.Told.{told-one, told-coincide}
use Rattle.table_step.specs.Calls.{stepped_values, step_outcome, step_memory, Steps}
use Rattle.table_step.specs.declared.Stepped.{Stepped}
use Rattle.table_step.specs.declared.Stepped.TheVariants.{Taken, Done}

-- a value of 1 is "done"
stepped_by : List ℕ → Stepped
stepped_by l = cond (eqb (get_or l 0 0) 1) Done Taken

-- of either answer
stepped-back : (s : Stepped) → stepped_by (stepped_values s) ≡ s
unfolding stepped_by
stepped-back Taken = refl
stepped-back Done = refl

-- two answers with one number and value are one
pub stepped-told : (r s : Result Stepped Refusal) → told stepped_values r ≡ told stepped_values s → r ≡ s
stepped-told = told-one stepped_values stepped_by stepped-back

-- the answer and the lent table
pub step-coincide : (table : List ℕ) (r s : Result Stepped Refusal) (x y : List ℕ) → Steps table r x → Steps table s y → (r ≡ s) × (x ≡ y)
step-coincide table = told-coincide stepped_values stepped_by stepped-back (step_outcome table) (step_memory table)
