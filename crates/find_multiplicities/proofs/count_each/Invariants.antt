-- `find_multiplicities::count_each` meets its contract. The loop's invariant: the first i roots are counted.
-- Assumes nothing.
use Rattle.find_multiplicities.proofs.Counting.{Counting}
use Rattle.find_multiplicities.proofs.count_each.Given as goal

abbrev pub invariant-loop-i : goal.invariant-loop-i
invariant-loop-i l = Counting l.tables.degree l.roots l.tables.logs.now l.tables.antilogs.now l.initial.f l.initial.mults l.f l.mults l.at l.i
