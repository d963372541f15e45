-- `find_direct::write_roots` meets its contract, by how many roots there are.
-- Assumes nothing.
use native.Mathlib.Omega.{arith}
use Rattle.find_direct.proofs.Writing.{listed-none, listed-one, listed-two}
use Rattle.find_direct.proofs.write_roots.Goals as goal

pub returns-in-NoRoot : goal.returns-in-NoRoot
returns-in-NoRoot c = listed-none c.roots11.ensures c.in-NoRoot.is

pub returns-in-Double : goal.returns-in-Double
returns-in-Double c = listed-one _ (let p = c.requires.2 in omega arith) c.roots11.ensures c.in-Double.is

pub returns-in-Two : goal.returns-in-Two
returns-in-Two c = listed-two _ _ c.requires.2 c.roots11.ensures c.in-Two.is
