-- `job_text::decimal` meets its contract: below ten one digit is written; else those of a tenth are, and one more
-- behind them.
-- Assumes nothing.
use native.Mathlib.Omega.{arith}
use Rattle.job_text.proofs.Lending.{small-long, large-long, wrote-small, wrote-large}
use Rattle.job_text.proofs.+decimal.Goals as goal

pub put_byte-requires : goal.put_byte-requires
put_byte-requires t c = omega (arith, c.requires, small-long c.args.x c.if-x-lt10.true)

pub returns-then-x-lt10 : goal.returns-then-x-lt10
returns-then-x-lt10 t c = wrote-small c.if-x-lt10.true c.put_byte.ensures

pub decimal-end-requires : goal.decimal-end-requires
decimal-end-requires t c = (omega (arith, c.decreases), omega (arith, c.requires, large-long c.args.x c.if-x-lt10.false))

pub put_byte-requires-2 : goal.put_byte-requires-2
put_byte-requires-2 t c = omega (arith, c.requires, large-long c.args.x c.if-x-lt10.false, c.decimal-end.ensures.ended, c.decimal-end.auto.out)

pub returns : goal.returns
returns t c = wrote-large c.if-x-lt10.false (omega (arith, c.requires)) c.decimal-end.ensures c.put_byte-2.ensures
