-- `poly_small::low::quadratic_roots` meets its contract: the values of the solver's answer are written.
-- Assumes nothing.
use Rattle.poly_small.proofs.LowDegrees.{quadratic-asks, quadratic-list, quadratic-one-root, quadratic-two-roots, front-none}
use Rattle.poly_small.proofs.low.quadratic_roots.Goals as goal

pub quadratic-requires : goal.quadratic-requires
quadratic-requires c = quadratic-asks c.requires c.known_row.ensures

pub returns-in-NoRoot : goal.returns-in-NoRoot
returns-in-NoRoot c = front-none _ (quadratic-list _ _ _ c.known_row.ensures c.quadratic.ensures.roots c.in-NoRoot.is)

pub returns-in-Double : goal.returns-in-Double
returns-in-Double c = quadratic-one-root _ c.requires (quadratic-list _ _ _ c.known_row.ensures c.quadratic.ensures.roots c.in-Double.is)

pub returns-in-Two : goal.returns-in-Two
returns-in-Two c = quadratic-two-roots _ _ c.requires (quadratic-list _ _ _ c.known_row.ensures c.quadratic.ensures.roots c.in-Two.is)
