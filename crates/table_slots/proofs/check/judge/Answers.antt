-- `table_slots::check::judge` meets its contract: the check's refusal, or the verdict on a sound table.
-- Assumes nothing.
use native.Mathlib.Omega.{arith}
use Rattle.std.proofs.lemmas.Result.{err_from_is_err_and}
use Rattle.table_slots.specs.Verdicts.Judged.{unfit}
use Rattle.table_slots.proofs.Judging.{fit_of, head-there, sum-small, place-within, judge-over, judge-level, judge-steps, judge-split}
use Rattle.table_slots.proofs.check.judge.Goals as goal
use Rattle.table_slots.proofs.check.judge.Goals.{then-h-level_at-via-then-h-level_at, then-h-level_at-via-else-h-level_at+then-step_limit-h}

pub returns-in_err-sum : goal.returns-in_err-sum
returns-in_err-sum c =
    let p = err_from_is_err_and c.from_residual.result c.from_residual.ensures.1 in
    rw (p.1, p.2) (unfit c.in_err-sum.ensures)

pub head_of-h-requires : goal.head_of-h-requires
head_of-h-requires c = head-there _ (fit_of c.in_ok-sum.ensures)

pub first_above-requires : goal.first_above-requires
first_above-requires c = head-there _ (fit_of c.in_ok-sum.ensures)

pub returns-in_default : goal.returns-in_default
returns-in_default c = judge-over _ (fit_of c.in_ok-sum.ensures) c.head_of-h.ensures c.first_above.ensures c.in_default.is

pub level_at-requires : goal.level_at-requires
level_at-requires c = place-within _ (fit_of c.in_ok-sum.ensures) c.head_of-h.ensures c.first_above.ensures c.in-Some.is

pub step_limit-requires : goal.step_limit-requires
step_limit-requires c = sum-small _ (fit_of c.in_ok-sum.ensures)

pub returns-then-h-level_at : goal.returns-then-h-level_at
returns-then-h-level_at c =
    let g = fit_of c.in_ok-sum.ensures in
    elim c.then-h-level_at.branch [
      | then-h-level_at-via-then-h-level_at w ↦
          judge-level _ g c.head_of-h.ensures c.first_above.ensures c.in-Some.is c.level_at.ensures w.if-h-level_at.true
      | then-h-level_at-via-else-h-level_at+then-step_limit-h w ↦
          judge-steps _ g c.head_of-h.ensures c.first_above.ensures c.in-Some.is c.level_at.ensures w.if-h-level_at.false
          (omega (arith, w.step_limit.ensures, w.if-step_limit-h.true))
    ]

pub returns : goal.returns
returns c =
    judge-split _ (fit_of c.in_ok-sum.ensures) c.head_of-h.ensures c.first_above.ensures c.in-Some.is c.level_at.ensures c.if-h-level_at.false
    (omega (arith, c.step_limit.ensures, c.if-step_limit-h.false))
