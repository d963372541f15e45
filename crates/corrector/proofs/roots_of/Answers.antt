-- `corrector::roots_of` meets its contract: each engine leaves the roots in front.
-- Assumes nothing.
use Rattle.corrector.proofs.Finding.{front-listed, front-copied}
use Rattle.corrector.proofs.roots_of.Goals as goal

pub returns-in-Some : goal.returns-in-Some
returns-in-Some c = front-listed (c.direct_roots.ensures.found _ c.in-Some.is)

pub returns : goal.returns
returns c = let v = c.find_in.ensures in front-copied _ v.count v.slots
