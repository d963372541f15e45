-- `find_search::try_first` meets its contract: the elements below x were tried.
-- Assumes nothing.
use Rattle.find_search.specs.Searching.{Tried}
use Rattle.find_search.proofs.try_first.Given as goal

abbrev pub invariant-loop-x : goal.invariant-loop-x
invariant-loop-x l = Tried l.tables.degree l.f l.initial.roots l.x l.k l.roots
