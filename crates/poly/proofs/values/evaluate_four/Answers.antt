-- `poly::values::evaluate_four` meets its contract. The loop's invariant: each chain is the value of the coefficients
-- from k on.
-- Assumes nothing.
use native.Mathlib.Omega.{arith}
use Rattle.poly.proofs.Horner.{value-logs, value-fits}
use Rattle.poly.proofs.HornerFour.{four-from, four-on, four-end}
use Rattle.poly.proofs.values.evaluate_four.Goals as goal

pub loop-k-init : goal.loop-k-init
loop-k-init c = four-from _ c.args.tables.now.lent c.requires.0 c.requires.1 c.requires.2

pub bounds-f-k : goal.bounds-f-k
bounds-f-k c = let h = c.loop-k.invariant.first.within in omega arith

pub next_value-a-requires : goal.next_value-a-requires
next_value-a-requires c = (value-logs c.loop-k.invariant.first, value-fits c.loop-k.invariant.first)

pub next_value-b-requires : goal.next_value-b-requires
next_value-b-requires c = (value-logs c.loop-k.invariant.second, value-fits c.loop-k.invariant.second)

pub next_value-c-requires : goal.next_value-c-requires
next_value-c-requires c = (value-logs c.loop-k.invariant.third, value-fits c.loop-k.invariant.third)

pub next_value-d-requires : goal.next_value-d-requires
next_value-d-requires c = (value-logs c.loop-k.invariant.fourth, value-fits c.loop-k.invariant.fourth)

pub loop-k-preserved : goal.loop-k-preserved
loop-k-preserved c = four-on c.loop-k.invariant (omega arith) c.next_value-a.ensures c.next_value-b.ensures c.next_value-c.ensures c.next_value-d.ensures

pub returns : goal.returns
returns c = four-end c.loop-k.invariant (omega arith)
