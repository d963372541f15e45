-- `table_finish::finish_lent` meets its contract. The loop's invariant: some numbers have been merged, and what lies
-- ahead has the others.
-- Assumes nothing.
use Rattle.table_finish.proofs.Merging.{head-there, finish-from, front-stands, turn-asks, finish-on, finish-end}
use borrow.Author.Rules.{rules}
use Rattle.table_finish.proofs.finish_lent.Goals as goal

pub head_of-h-requires : goal.head_of-h-requires
head_of-h-requires c = head-there c.requires.given

pub loop-init : goal.loop-init
loop-init c = finish-from c.requires c.head_of-h.ensures.count

pub low_at-p-requires : goal.low_at-p-requires
low_at-p-requires c = front-stands c.requires c.loop.invariant c.loop-test.true

pub merge_roots-k-requires : goal.merge_roots-k-requires
merge_roots-k-requires c = turn-asks c.requires c.loop.invariant c.loop-test.true c.low_at-p.ensures

pub next_at-at-requires : goal.next_at-at-requires
next_at-at-requires c = front-stands c.requires c.loop.invariant c.loop-test.true

pub loop-preserved : goal.loop-preserved
loop-preserved c =
    finish-on c.requires c.loop.invariant c.loop-test.true c.low_at-p.ensures c.merge_roots-k.ensures (search rules)
    c.next_at-at.ensures

pub returns : goal.returns
returns c = finish-end c.requires c.loop.invariant c.loop-test.false
