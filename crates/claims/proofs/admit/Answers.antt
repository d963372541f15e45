-- `claims::admit` meets its contract: each return shows which test was the first to hold.
-- Assumes nothing.
use Rattle.refusals.proofs.Admitting.{passed-on}
use Rattle.refusals.proofs.Order.{holds}
use Rattle.field.proofs.Known.{row-in, row-out}
use Rattle.claims.specs.Calls.{said}
use Rattle.claims.proofs.Asking.{ask-empty, ask-long, ask-large, ask-zero, ask_in}
use Rattle.claims.proofs.admit.Goals as goal

pub returns-in_err-row : goal.returns-in_err-row
returns-in_err-row c =
    let o = row-out _ _ c.row_of.ensures c.ok_or.ensures.value c.in_err-row.was in
    rw (passed-on _ c.from_residual.ensures.1, o.1) (holds o.0)

pub returns-then-some_empty : goal.returns-then-some_empty
returns-then-some_empty c = ask-empty _ (said c.args.claim.now) (row-in _ _ c.row_of.ensures c.ok_or.ensures.value c.in_ok-row.was) c.some_empty.ensures c.if-some_empty.true

pub returns-then-some_long : goal.returns-then-some_long
returns-then-some_long c =
    ask-long _ (said c.args.claim.now) (row-in _ _ c.row_of.ensures c.ok_or.ensures.value c.in_ok-row.was) c.some_empty.ensures c.if-some_empty.false c.some_long.ensures c.if-some_long.true

pub returns-then-some_large : goal.returns-then-some_large
returns-then-some_large c =
    ask-large _ (said c.args.claim.now) (row-in _ _ c.row_of.ensures c.ok_or.ensures.value c.in_ok-row.was) c.some_empty.ensures c.if-some_empty.false c.some_long.ensures c.if-some_long.false
    c.some_large.ensures c.if-some_large.true

pub returns-then-all_zero : goal.returns-then-all_zero
returns-then-all_zero c =
    ask-zero _ (said c.args.claim.now) (row-in _ _ c.row_of.ensures c.ok_or.ensures.value c.in_ok-row.was) c.some_empty.ensures c.if-some_empty.false c.some_long.ensures c.if-some_long.false
    c.some_large.ensures c.if-some_large.false c.all_zero.ensures c.if-all_zero.true

pub returns : goal.returns
returns c =
    ask_in _ (said c.args.claim.now) (row-in _ _ c.row_of.ensures c.ok_or.ensures.value c.in_ok-row.was) c.some_empty.ensures c.if-some_empty.false c.some_long.ensures c.if-some_long.false
    c.some_large.ensures c.if-some_large.false c.all_zero.ensures c.if-all_zero.false
