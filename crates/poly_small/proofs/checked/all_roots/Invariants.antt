-- `poly_small::checked::all_roots` meets its contract. The loop's invariant: the numbers passed are roots, ascending.
-- Assumes nothing.
use Rattle.poly_small.proofs.Trials.{Trying}
use Rattle.poly_small.proofs.checked.all_roots.Given as goal

abbrev pub invariant-loop-i : goal.invariant-loop-i
invariant-loop-i l = Trying l.tables.degree l.f l.xs l.bound l.i
