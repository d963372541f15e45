-- `job_salvage::next_kept` meets its contract: at each turn none is kept before the place.
-- Assumes nothing.
use native.Mathlib.Omega.{arith}
use Rattle.job_salvage.proofs.Turns.{seek-from, seek-on, seek_found, seek-end}
use Rattle.job_salvage.proofs.next_kept.Goals as goal

pub loop-start-init : goal.loop-start-init
loop-start-init c = seek-from _ _

pub returns-in-Record : goal.returns-in-Record
returns-in-Record c =
    let r = c in
    seek_found r.read_record.result c.in-Record.job r.loop-start.invariant (omega arith) r.read_record.ensures c.in-Record.is

pub loop-start-preserved : goal.loop-start-preserved
loop-start-preserved c =
    let r = c in
    seek-on r.read_record.result r.loop-start.invariant r.read_record.ensures c.in_default.not-Record

pub returns : goal.returns
returns c = seek-end c.loop-start.invariant (omega arith)
