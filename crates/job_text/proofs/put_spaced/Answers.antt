-- `job_text::put_spaced` meets its contract: a space, and the digits behind it.
-- Assumes nothing.
use native.Mathlib.Omega.{arith}
use Rattle.job_text.proofs.Lending.{wrote-spaced}
use Rattle.job_text.proofs.put_spaced.Goals as goal

pub decimal-requires : goal.decimal-requires
decimal-requires c = omega (arith, c.put_byte-behind.ensures.ended, c.put_byte-behind.auto.out)

pub returns : goal.returns
returns c = wrote-spaced c.args.x (omega arith) c.put_byte-behind.ensures c.decimal.ensures
