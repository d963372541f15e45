-- `corrector_stream::fill` meets its contract.
-- Assumes nothing.
use native.Mathlib.Omega.{arith}
use Rattle.corrector_stream.proofs.Contents.{start-most, fits-short}
use Rattle.corrector_stream.proofs.Filling.{laid_out, filled-full, filled-last}
use Rattle.corrector_stream.proofs.fill.Goals as goal

pub returns-then-last : goal.returns-then-last
returns-then-last c =
    let p = c.requires in
    filled-last p.0 p.1 c.if-last.true c.data_start-start.ensures
    (laid_out c.data_start-start.result c.args.piece.now c.args.word.now p.2 (c.fill.ensures.after (λ y e. e)) c.copy_from_slice.ensures.after
    (omega arith) (omega (arith, c.data_start-start.ensures, start-most p.0, fits-short _ p.1)))

pub returns-else-last : goal.returns-else-last
returns-else-last c =
    let p = c.requires in
    filled-full p.0 p.1 c.if-last.false c.data_start-start.ensures
    (laid_out c.data_start-start.result c.args.piece.now c.args.word.now p.2 (c.fill.ensures.after (λ y e. e)) c.copy_from_slice.ensures.after
    (omega arith) (omega (arith, c.data_start-start.ensures, start-most p.0, fits-short _ p.1)))
