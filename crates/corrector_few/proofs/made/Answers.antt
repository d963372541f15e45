-- `corrector_few::made` meets its contract.
-- Assumes nothing.
use mathlib.Core.Path.{refl}
use native.Mathlib.Omega.{arith}
use Rattle.corrector_few.proofs.made.Goals as goal

pub returns : goal.returns
returns c = record { long = refl; small = (omega arith, (omega arith, (omega arith, (omega arith, (omega arith, tt))))); first = refl }
