-- `table_finish::finish` meets its contract: a refusal writes nothing, and else the list is made.
-- Assumes nothing.
use Rattle.refusals.proofs.Admitting.{turned-away, passed-on}
use Rattle.table_finish.proofs.FinishTests.{refused-is, done-asks, listed-is}
use Rattle.table_finish.proofs.Merging.{head-there, named, listable}
use Rattle.table_finish.proofs.finish.Goals as goal

pub returns-in_err-admit : goal.returns-in_err-admit
returns-in_err-admit c =
    rw (passed-on _ c.from_residual.ensures.1) (refused-is c.args.table.now c.args.roots.now (turned-away c.admit.ensures c.in_err-admit.was))

pub head_of-m-requires : goal.head_of-m-requires
head_of-m-requires c = head-there (done-asks _ _ c.in_ok-admit.ensures)

pub tables_of-requires : goal.tables_of-requires
tables_of-requires c = named (done-asks _ _ c.in_ok-admit.ensures) c.head_of-m.ensures

pub halves_of-requires : goal.halves_of-requires
halves_of-requires c = named (done-asks _ _ c.in_ok-admit.ensures) c.head_of-m.ensures

pub finish_lent-k-requires : goal.finish_lent-k-requires
finish_lent-k-requires c =
    listable (done-asks _ _ c.in_ok-admit.ensures) c.head_of-m.ensures c.tables_of.ensures c.halves_of.ensures

pub returns : goal.returns
returns c = listed-is c.args.table.now c.args.roots.now c.in_ok-admit.ensures c.finish_lent-k.ensures
