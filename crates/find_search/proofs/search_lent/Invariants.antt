-- `find_search::search_lent` meets its contract: the elements of the blocks so far were tried.
-- Assumes nothing.
use Prim.Native.Nat.{◌*◌}
use Rattle.find_search.specs.Searching.{Tried}
use Rattle.find_search.proofs.search_lent.Given as goal

abbrev pub invariant-loop-block : goal.invariant-loop-block
invariant-loop-block l = Tried l.tables.degree l.f l.initial.roots (l.block * 4) l.k l.roots
