-- `find_direct::linear_root` meets its contract: the quotient is written.
-- Assumes nothing.
use mathlib.Core.Path.{refl}
use native.Mathlib.Omega.{arith}
use Rattle.find_direct.proofs.Writing.{written_one}
use Rattle.find_direct.proofs.Leads.{coefficient, leading-positive, linear-is}
use Rattle.find_direct.proofs.linear_root.Goals as goal

pub quotient11-requires : goal.quotient11-requires
quotient11-requires c =
    let g = c.requires.0 in
    (coefficient g 0 (omega arith), leading-positive g 1 refl, coefficient g 1 (omega arith))

pub returns : goal.returns
returns c =
    let p = c.requires in
    written_one _ p.1 (linear-is p.0 refl refl c.quotient11.ensures)
