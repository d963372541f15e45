-- `table_finish::admit` meets its contract: each return shows which test was the first to hold, or that none does.
-- Assumes nothing.
use Rattle.refusals.proofs.Admitting.{passed-on}
use Rattle.table_slots.proofs.Judging.{fit_of, head-there}
use Rattle.table_finish.proofs.FinishTests.{admit-room, admit-unfit, admit-more, admit-done}
use Rattle.table_finish.proofs.admit.Goals as goal

pub returns-then-roots-lt-LIMIT : goal.returns-then-roots-lt-LIMIT
returns-then-roots-lt-LIMIT c = admit-room c.args.table.now c.args.roots.now c.if-roots-lt-LIMIT.true

pub returns-in_err-check : goal.returns-in_err-check
returns-in_err-check c =
    rw (passed-on _ c.from_residual.ensures.1) (admit-unfit c.args.table.now c.args.roots.now c.if-roots-lt-LIMIT.false c.in_err-check.ensures)

pub head_of-h-requires : goal.head_of-h-requires
head_of-h-requires c = head-there _ (fit_of c.in_ok-check.ensures)

pub first_above-requires : goal.first_above-requires
first_above-requires c = head-there _ (fit_of c.in_ok-check.ensures)

pub returns-in-Some : goal.returns-in-Some
returns-in-Some c =
    admit-more c.args.table.now c.args.roots.now c.if-roots-lt-LIMIT.false (fit_of c.in_ok-check.ensures) c.head_of-h.ensures c.first_above.ensures c.in-Some.is

pub returns-in-None : goal.returns-in-None
returns-in-None c =
    admit-done c.args.table.now c.args.roots.now c.if-roots-lt-LIMIT.false (fit_of c.in_ok-check.ensures) c.head_of-h.ensures c.first_above.ensures c.in-None.is
