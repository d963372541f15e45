-- `corrector_stream::end_of` meets its contract: what the last byte that is not 0 tells.
-- Assumes nothing.
use Rattle.corrector_stream.proofs.Ends.{ending-found, ending-other, ending-none}
use Rattle.corrector_stream.proofs.end_of.Goals as goal

pub returns-in_err-k : goal.returns-in_err-k
returns-in_err-k c = rw c.from_residual.ensures (ending-none c.in_err-k.ensures)

pub returns-then-b-k : goal.returns-then-b-k
returns-then-b-k c = ending-other _ c.in_ok-k.ensures.0 c.if-b-k.true c.in_ok-k.ensures.1

pub returns : goal.returns
returns c = ending-found c.in_ok-k.ensures.0 c.if-b-k.false
