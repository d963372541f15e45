-- `field_elements::admit_pair` meets its contract: each return shows which test was the first to hold.
-- Assumes nothing.
use mathlib.Core.Logic.{inl, inr}
use Rattle.refusals.proofs.Order.{holds}
use Rattle.refusals.proofs.Admitting.{passed-on}
use Rattle.field.proofs.Known.{row-in, row-out}
use Rattle.field_elements.proofs.Admitting.{pair-outside, pair-in}
use Rattle.field_elements.proofs.admit_pair.Goals as goal

pub returns-in_err-row : goal.returns-in_err-row
returns-in_err-row c =
    let o = row-out _ _ c.row_of.ensures c.ok_or.ensures.value c.in_err-row.was in
    rw (passed-on _ c.from_residual.ensures.1, o.1) (holds o.0)

pub returns-then-row-a : goal.returns-then-row-a
returns-then-row-a c = pair-outside (row-in _ _ c.row_of.ensures c.ok_or.ensures.value c.in_ok-row.was) (inl c.if-row-a.true)

pub returns-then-row-b : goal.returns-then-row-b
returns-then-row-b c = pair-outside (row-in _ _ c.row_of.ensures c.ok_or.ensures.value c.in_ok-row.was) (inr (c.if-row-a.false, c.if-row-b.true))

pub returns : goal.returns
returns c =
    let i = row-in _ _ c.row_of.ensures c.ok_or.ensures.value c.in_ok-row.was in
    (pair-in i c.if-row-a.false c.if-row-b.false, i)
