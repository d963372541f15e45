-- `input::admit_values` meets its contract: each return shows which test was the first to hold.
-- Assumes nothing.
use Rattle.refusals.proofs.Order.{holds}
use Rattle.refusals.proofs.Admitting.{passed-on}
use Rattle.field.proofs.Known.{row-in, row-out}
use Rattle.input.proofs.PolynomialTests.{empty-given, long-given, element-given, zero-given, values-in}
use Rattle.input.proofs.admit_values.Goals as goal

pub returns-in_err-row : goal.returns-in_err-row
returns-in_err-row c =
    let o = row-out _ _ c.row_of.ensures c.ok_or.ensures.value c.in_err-row.was in
    rw (passed-on _ c.from_residual.ensures.1, o.1) (holds o.0)

pub returns-then-n-eq0 : goal.returns-then-n-eq0
returns-then-n-eq0 c =
    let a = c.args in
    let row = row-in _ _ c.row_of.ensures c.ok_or.ensures.value c.in_ok-row.was in
    empty-given a.n a.top row c.if-n-eq0.true

pub returns-then-n-gt-COEFFICIENTS : goal.returns-then-n-gt-COEFFICIENTS
returns-then-n-gt-COEFFICIENTS c =
    let a = c.args in
    let row = row-in _ _ c.row_of.ensures c.ok_or.ensures.value c.in_ok-row.was in
    long-given a.n a.top row c.if-n-eq0.false c.if-n-gt-COEFFICIENTS.true

pub returns-then-row-top : goal.returns-then-row-top
returns-then-row-top c =
    let a = c.args in
    let row = row-in _ _ c.row_of.ensures c.ok_or.ensures.value c.in_ok-row.was in
    element-given a.n a.top row c.if-n-eq0.false c.if-n-gt-COEFFICIENTS.false c.if-row-top.true

pub returns-then-top-eq0 : goal.returns-then-top-eq0
returns-then-top-eq0 c =
    let a = c.args in
    let row = row-in _ _ c.row_of.ensures c.ok_or.ensures.value c.in_ok-row.was in
    zero-given a.n a.top row c.if-n-eq0.false c.if-n-gt-COEFFICIENTS.false c.if-row-top.false c.if-top-eq0.true

pub returns : goal.returns
returns c =
    let a = c.args in
    let row = row-in _ _ c.row_of.ensures c.ok_or.ensures.value c.in_ok-row.was in
    values-in a.n a.top row c.if-n-eq0.false c.if-n-gt-COEFFICIENTS.false c.if-row-top.false c.if-top-eq0.false
