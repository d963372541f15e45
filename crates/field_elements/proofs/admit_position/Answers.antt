-- `field_elements::admit_position` meets its contract: by the convention, and where it is none, by the field.
-- Assumes nothing.
use Rattle.refusals.proofs.Order.{holds}
use Rattle.refusals.proofs.Admitting.{passed-on}
use Rattle.field.proofs.Known.{row-in, row-out}
use Rattle.field_elements.proofs.Admitting.{place-tests, place-unnamed}
use Rattle.field_elements.proofs.admit_position.Goals as goal

pub returns-then-convention-le1 : goal.returns-then-convention-le1
returns-then-convention-le1 c = let s = c.args in place-tests s.m s.r c.admit_nonzero.result c.if-convention-le1.true c.admit_nonzero.ensures

pub returns-in_err-ok_or : goal.returns-in_err-ok_or
returns-in_err-ok_or c =
    let o = row-out _ _ c.row_of.ensures c.ok_or.ensures.value c.in_err-ok_or.was in
    rw (passed-on _ c.from_residual.ensures.1, o.1) (holds o.0)

pub returns : goal.returns
returns c = place-unnamed c.args.r (row-in _ _ c.row_of.ensures c.ok_or.ensures.value c.in_ok-ok_or.was) c.if-convention-le1.false
