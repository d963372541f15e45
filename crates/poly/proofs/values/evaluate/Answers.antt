-- `poly::values::evaluate` meets its contract. The loop's invariant: v is the value of the coefficients from k on.
-- Assumes nothing.
use native.Mathlib.Omega.{arith}
use Rattle.poly.proofs.Horner.{value_none, value-zero, value-from, value-logs, value-fits, value_on, value-end}
use Rattle.poly.proofs.values.evaluate.Goals as goal

pub returns-in-empty : goal.returns-in-empty
returns-in-empty c = value_none _ _ _ (omega arith)

pub returns-in-len1-up : goal.returns-in-len1-up
returns-in-len1-up c = value-zero _ c.args.tables.now.lent (omega arith) c.if-x-eq0.true

pub loop-k-init : goal.loop-k-init
loop-k-init c = value-from _ c.args.tables.now.lent c.requires.0 (omega arith) c.requires.1

pub bounds-logs-v : goal.bounds-logs-v
bounds-logs-v c = value-logs c.loop-k.invariant

pub bounds-antilogs-s : goal.bounds-antilogs-s
bounds-antilogs-s c = value-fits c.loop-k.invariant

pub loop-k-preserved : goal.loop-k-preserved
loop-k-preserved c = value_on c.loop-k.invariant (omega arith)

pub returns : goal.returns
returns c = value-end c.loop-k.invariant (omega arith)
