-- `find_search::note_word` meets its contract: the digits read so far are noted.
-- Assumes nothing.
use Rattle.find_search.proofs.Words.{Reading}
use Rattle.find_search.proofs.note_word.Given as goal

abbrev pub invariant-loop-rest : goal.invariant-loop-rest
invariant-loop-rest l = Reading l.f l.initial.roots l.free l.x l.rest l.at l.n l.roots

abbrev pub decreases-loop-rest : goal.decreases-loop-rest
decreases-loop-rest l = l.rest
