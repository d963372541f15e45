-- `claim_maker::quotient_into` meets its contract: a division, and what stands behind the remainder.
-- Assumes nothing.
use mathlib.Core.Path.{refl}
use Rattle.claim_maker.proofs.Splitting.{quotient-divides, quotient_is}
use Rattle.claim_maker.proofs.quotient_into.Goals as goal

pub divide-requires : goal.divide-requires
divide-requires c = quotient-divides c.args.tables.now.lent c.requires

pub returns : goal.returns
returns c = quotient_is c.args.tables.now.lent c.requires refl c.divide.ensures c.copy.ensures
