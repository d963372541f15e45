-- `job_writer::admit` meets its contract: each return shows which test was the first to hold.
-- Assumes nothing.
use mathlib.Core.Path.{ap}
use mathlib.Core.Bool.{not}
use Rattle.refusals.proofs.Order.{holds}
use Rattle.field.proofs.Known.{row-in, row-out}
use Rattle.refusals.proofs.Admitting.{passed-on}
use Rattle.job_writer.proofs.Admitting.{long-given, element-given, order-given, cutoff-given}
use Rattle.job_writer.proofs.Admitting.{room-given, all_in}
use native.Mathlib.Omega.{arith}
use Rattle.job_writer.proofs.admit.Goals as goal

pub returns-in_err-row : goal.returns-in_err-row
returns-in_err-row c =
    let o = row-out _ _ c.row_of.ensures c.ok_or.ensures.value c.in_err-row.was in
    rw (passed-on _ c.from_residual.ensures.1, o.1) (holds o.0)

pub returns-then-roots-gt-LIMIT : goal.returns-then-roots-gt-LIMIT
returns-then-roots-gt-LIMIT c =
    let a = c.args in
    long-given a.cutoff a.roots.now a.room (row-in _ _ c.row_of.ensures c.ok_or.ensures.value c.in_ok-row.was) c.if-roots-gt-LIMIT.true

pub returns-then-not-all_below : goal.returns-then-not-all_below
returns-then-not-all_below c =
    let a = c.args in
    element-given a.cutoff a.roots.now a.room (row-in _ _ c.row_of.ensures c.ok_or.ensures.value c.in_ok-row.was) c.if-roots-gt-LIMIT.false
    c.all_below.ensures (ap not c.if-not-all_below.true)

pub returns-then-not-ascending : goal.returns-then-not-ascending
returns-then-not-ascending c =
    let a = c.args in
    order-given a.cutoff a.roots.now a.room (row-in _ _ c.row_of.ensures c.ok_or.ensures.value c.in_ok-row.was) c.if-roots-gt-LIMIT.false
    c.all_below.ensures (ap not c.if-not-all_below.false) c.ascending.ensures (ap not c.if-not-ascending.true)

pub returns-then-cutoff-gt-HIGHEST_CUTOFF : goal.returns-then-cutoff-gt-HIGHEST_CUTOFF
returns-then-cutoff-gt-HIGHEST_CUTOFF c =
    let a = c.args in
    cutoff-given a.cutoff a.roots.now a.room (row-in _ _ c.row_of.ensures c.ok_or.ensures.value c.in_ok-row.was) c.if-roots-gt-LIMIT.false
    c.all_below.ensures (ap not c.if-not-all_below.false) c.ascending.ensures (ap not c.if-not-ascending.false)
    c.if-cutoff-gt-HIGHEST_CUTOFF.true

pub returns-then-room-roots : goal.returns-then-room-roots
returns-then-room-roots c =
    let a = c.args in
    room-given a.cutoff a.roots.now a.room (row-in _ _ c.row_of.ensures c.ok_or.ensures.value c.in_ok-row.was) c.if-roots-gt-LIMIT.false
    c.all_below.ensures (ap not c.if-not-all_below.false) c.ascending.ensures (ap not c.if-not-ascending.false)
    c.if-cutoff-gt-HIGHEST_CUTOFF.false (omega arith)

pub returns : goal.returns
returns c =
    let a = c.args in
    all_in a.cutoff a.roots.now a.room (row-in _ _ c.row_of.ensures c.ok_or.ensures.value c.in_ok-row.was) c.if-roots-gt-LIMIT.false
    c.all_below.ensures (ap not c.if-not-all_below.false) c.ascending.ensures (ap not c.if-not-ascending.false)
    c.if-cutoff-gt-HIGHEST_CUTOFF.false (omega arith)
