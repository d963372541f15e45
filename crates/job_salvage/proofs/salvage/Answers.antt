-- `job_salvage::salvage` meets its contract: at each turn the records before the place are in the room.
-- Assumes nothing.
use mathlib.Core.Path.{sym, ◌∙◌}
use native.Mathlib.Omega.{arith}
use Rattle.job_salvage.proofs.Pieces.{next-gap}
use Rattle.job_salvage.proofs.Turns.{keep-from, keep-fits, keep_one, keep-none, keep-end, told-room}
use borrow.Author.Rules.{rules}
use Rattle.job_salvage.proofs.salvage.Goals as goal

pub returns-then-room-file : goal.returns-then-room-file
returns-then-room-file c = let a = c.args in told-room a.file.now a.room.now c.if-room-file.true

pub loop-at-init : goal.loop-at-init
loop-at-init c = keep-from _ _ (search rules)

pub slice_bounds-record-end : goal.slice_bounds-record-end
slice_bounds-record-end c = let g = next-gap (omega arith) c.next_kept-next.ensures in omega (arith, g.behind, g.within)

pub put_bytes-bytes-requires : goal.put_bytes-bytes-requires
put_bytes-bytes-requires c = keep-fits c.loop-at.invariant (next-gap (omega arith) c.next_kept-next.ensures)

pub loop-at-preserved-then-not-is_empty : goal.loop-at-preserved-then-not-is_empty
loop-at-preserved-then-not-is_empty c =
    keep_one c.loop-at.invariant (next-gap (omega arith) c.next_kept-next.ensures) (sym c.is_empty.ensures ∙ c.if-not-is_empty.true) c.put_bytes-bytes.ensures

pub loop-at-preserved : goal.loop-at-preserved
loop-at-preserved c =
    keep-none c.loop-at.invariant (next-gap (omega arith) c.next_kept-next.ensures) (sym c.is_empty.ensures ∙ c.if-not-is_empty.false) c.put_bytes-bytes.ensures

pub returns : goal.returns
returns c = keep-end c.loop-at.invariant (omega arith)
