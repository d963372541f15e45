-- `find_affine::admit` meets its contract: each return shows which test was the first to hold.
-- Assumes nothing.
use Rattle.refusals.proofs.Admitting.{passed-on}
use Rattle.refusals.proofs.Order.{holds}
use Rattle.field.proofs.Known.{row-in, row-out}
use Rattle.find_affine.proofs.Admitting.{count-given, element-given, constant-given, room-given, all_in}
use Rattle.find_affine.proofs.admit.Goals as goal

pub returns-in_err-row : goal.returns-in_err-row
returns-in_err-row c =
    let o = row-out _ _ c.row_of.ensures c.ok_or.ensures.value c.in_err-row.was in
    rw (passed-on _ c.from_residual.ensures.1, o.1) (holds o.0)

pub returns-then-coeffs-m : goal.returns-then-coeffs-m
returns-then-coeffs-m c =
    let a = c.args in
    count-given a.coeffs.now a.constant a.room (row-in _ _ c.row_of.ensures c.ok_or.ensures.value c.in_ok-row.was) c.if-coeffs-m.true

pub returns-then-not-all_below : goal.returns-then-not-all_below
returns-then-not-all_below c =
    let a = c.args in
    element-given a.coeffs.now a.constant a.room (row-in _ _ c.row_of.ensures c.ok_or.ensures.value c.in_ok-row.was) c.if-coeffs-m.false c.all_below.ensures
    c.if-not-all_below.true

pub returns-then-row-constant : goal.returns-then-row-constant
returns-then-row-constant c =
    let a = c.args in
    constant-given a.coeffs.now a.constant a.room (row-in _ _ c.row_of.ensures c.ok_or.ensures.value c.in_ok-row.was) c.if-coeffs-m.false c.all_below.ensures
    c.if-not-all_below.false c.if-row-constant.true

pub returns-then-room-row : goal.returns-then-room-row
returns-then-room-row c =
    let a = c.args in
    room-given a.coeffs.now a.constant a.room (row-in _ _ c.row_of.ensures c.ok_or.ensures.value c.in_ok-row.was) c.if-coeffs-m.false c.all_below.ensures
    c.if-not-all_below.false c.if-row-constant.false c.if-room-row.true

pub returns : goal.returns
returns c =
    let a = c.args in
    all_in a.coeffs.now a.constant a.room (row-in _ _ c.row_of.ensures c.ok_or.ensures.value c.in_ok-row.was) c.if-coeffs-m.false c.all_below.ensures
    c.if-not-all_below.false c.if-row-constant.false c.if-room-row.false
