-- `corrector_stream::take_out` meets its contract.
-- Assumes nothing.
use mathlib.Core.Path.{refl}
use Rattle.corrector_stream.specs.Parts.TakesOut.{strange}
use Rattle.corrector_stream.proofs.Holding.{held-carries, held-nothing, taken_out}
use Rattle.corrector_stream.proofs.take_out.Goals as goal

pub returns-in_err-held : goal.returns-in_err-held
returns-in_err-held c = rw c.from_residual.ensures (strange (held-nothing c.held_in.ensures c.in_err-held.was))

pub returns : goal.returns
returns c =
    let w = held-carries c.requires.0 c.requires.1 c.held_in.ensures c.in_ok-held.was in
    taken_out w c.data_start-start.ensures refl c.copy_from_slice.ensures.after
