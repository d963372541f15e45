-- `corrector_encoder::add_bytes`: the bytes from the index on are still to be added to.
use Rattle.corrector_encoder.proofs.Loops.{Adding}
use Rattle.corrector_encoder.proofs.add_bytes.Given as goal

abbrev pub invariant-loop-byte : goal.invariant-loop-byte
invariant-loop-byte l = Adding l.initial.part l.x l.part l.rest l.byte-index
