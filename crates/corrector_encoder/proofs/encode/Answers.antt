-- `corrector_encoder::encode` meets its contract.
-- Assumes nothing.
use native.Mathlib.Omega.{arith}
use Rattle.refusals.proofs.Admitting.{passed-on}
use Rattle.corrector.proofs.Outcomes.{admitted}
use Rattle.corrector_encoder.proofs.Adding.{refused-block, encoded-block}
use Rattle.corrector_encoder.proofs.Loops.{added-front}
use Rattle.corrector_encoder.proofs.encode.Goals as goal

pub returns-in_err-admit_block : goal.returns-in_err-admit_block
returns-in_err-admit_block c =
    rw (passed-on _ c.from_residual.ensures.1) (refused-block c.admit_block.ensures c.in_err-admit_block.was)

pub returns : goal.returns
returns c =
    let b = admitted c.admit_block.ensures c.in_ok-admit_block.was in
    let n = b.0.long in
    encoded-block b.0 b.1 c.remainder_of-r.ensures
    (added-front 11 c.remainder_of-r.result c.args.word.now (omega arith) c.add_bytes.ensures)
