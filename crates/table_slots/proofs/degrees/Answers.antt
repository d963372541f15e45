-- `table_slots::degrees` meets its contract: each test that fails denies that the table is sound, and where none does
-- it is.
-- Assumes nothing.
use mathlib.Core.Path.{◌∙◌}
use native.Mathlib.Omega.{arith}
use Rattle.table_slots.proofs.Summing.{walk-asks, deny-field, deny-low, deny-high, deny-walk, deny-steps, few, accept}
use Rattle.table_slots.proofs.degrees.Goals as goal
use Rattle.table_slots.proofs.degrees.Goals.{then-c-lt1-via-then-c-lt1, then-c-lt1-via-else-c-lt1+then-c-gt-HIGHEST_CUTOFF}

pub returns-in_err-row : goal.returns-in_err-row
returns-in_err-row c = c.from_residual.ensures ∙ deny-field _ c.row_of.ensures c.in_err-row.was

pub returns-then-c-lt1 : goal.returns-then-c-lt1
returns-then-c-lt1 c =
    elim c.then-c-lt1.branch [
      | then-c-lt1-via-then-c-lt1 w ↦ deny-low c.args.table.now w.if-c-lt1.true
      | then-c-lt1-via-else-c-lt1+then-c-gt-HIGHEST_CUTOFF w ↦ deny-high c.args.table.now w.if-c-gt-HIGHEST_CUTOFF.true
    ]

pub walk-requires : goal.walk-requires
walk-requires c = walk-asks c.args.table.now c.row_of.ensures c.in_ok-row.was c.limit_for-limit.ensures c.requires

pub returns-in_err-sum : goal.returns-in_err-sum
returns-in_err-sum c =
    c.from_residual-in_err-sum.ensures ∙ deny-walk _ c.row_of.ensures c.in_ok-row.was c.limit_for-limit.ensures c.walk.ensures c.in_err-sum.was

pub step_limit-requires : goal.step_limit-requires
step_limit-requires c = few c.args.table.now c.row_of.ensures c.in_ok-row.was c.limit_for-limit.ensures c.walk.ensures c.in_ok-sum.was

pub returns-then-step_limit-taken : goal.returns-then-step_limit-taken
returns-then-step_limit-taken c =
    deny-steps _ c.row_of.ensures c.in_ok-row.was c.limit_for-limit.ensures c.walk.ensures c.in_ok-sum.was
    (omega (arith, c.step_limit.ensures, c.if-step_limit-taken.true))

pub returns : goal.returns
returns c =
    accept _ c.row_of.ensures c.in_ok-row.was c.limit_for-limit.ensures c.walk.ensures c.in_ok-sum.was c.requires (omega arith) (omega arith)
    (omega (arith, c.step_limit.ensures, c.if-step_limit-taken.false))
