-- `corrector::places_of` meets its contract: the places of the roots, unless there are too many.
-- Assumes nothing.
use native.Mathlib.Omega.{arith}
use Rattle.corrector.proofs.Calling.{count-places, roots-front, named-front}
use Rattle.corrector.proofs.places_of.Goals as goal

pub returns-then-n-t : goal.returns-then-n-t
returns-then-n-t c = let n = count-places c.args.locator c.roots_of-n.ensures in omega arith

pub put_places-requires : goal.put_places-requires
put_places-requires c = roots-front c.args.locator c.requires.1 c.roots_of-n.ensures

pub returns : goal.returns
returns c = named-front c.args.locator c.roots_of-n.ensures c.put_places.ensures (omega arith)
