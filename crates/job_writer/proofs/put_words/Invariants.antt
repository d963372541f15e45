-- `job_writer::put_words` meets its contract: at each turn the bytes of the first j words stand in the room.
-- Assumes nothing.
use Rattle.job_writer.proofs.Turns.{Spelling}
use Rattle.job_writer.proofs.put_words.Given as goal

abbrev pub invariant-loop-w : goal.invariant-loop-w
invariant-loop-w l = Spelling l.words l.at l.initial.room l.room l.end l.w-index
