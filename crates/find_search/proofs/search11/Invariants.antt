-- `find_search::search11` meets its contract: the elements of the first w words are tried.
-- Assumes nothing.
use Prim.Native.Nat.{◌*◌}
use Rattle.find_search.specs.Searching.{Tried}
use Rattle.find_search.proofs.search11.Given as goal

abbrev pub invariant-loop-w : goal.invariant-loop-w
invariant-loop-w l = Tried 11 l.f l.initial.roots (l.w * 64) l.k l.roots
