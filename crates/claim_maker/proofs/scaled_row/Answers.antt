-- `claim_maker::scaled_row` meets its contract. The loop's invariant: the first i logs are written.
-- Assumes nothing.
use native.Mathlib.Omega.{arith}
use Rattle.poly.proofs.Logs.{logs-fit}
use Rattle.claim_maker.proofs.Uniting.{multiply-from, multiply-logs, multiply-fits, multiply-inside, multiply-on, multiply-end}
use Rattle.claim_maker.proofs.scaled_row.Goals as goal

pub bounds-logs-c : goal.bounds-logs-c
bounds-logs-c c = logs-fit c.args.tables.now.lent c.requires.0.element

pub loop-i-init : goal.loop-i-init
loop-i-init c = multiply-from c.args.tables.now.lent c.requires.0 c.requires.1

pub bounds-logs-p : goal.bounds-logs-p
bounds-logs-p c = multiply-logs c.loop-i.invariant (omega arith)

pub bounds-antilogs-s : goal.bounds-antilogs-s
bounds-antilogs-s c = multiply-fits c.loop-i.invariant (omega arith)

pub bounds-logs-x : goal.bounds-logs-x
bounds-logs-x c = multiply-inside c.loop-i.invariant (omega arith)

pub loop-i-preserved : goal.loop-i-preserved
loop-i-preserved c = multiply-on c.loop-i.invariant (omega arith)

pub returns : goal.returns
returns c = multiply-end c.loop-i.invariant (omega arith)
