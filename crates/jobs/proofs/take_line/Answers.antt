-- `take_line` lends what was written of the record, which is no longer than its room.
use Rattle.std.proofs.Common.{rules, ◌≤◌, length}
use native.Mathlib.Omega.{arith}
use mathlib.Core.Path.{sym}
use lib.Seq.{length-take-le}
use Rattle.job_lists.proofs.Contract.{record-fits}
use Rattle.jobs.proofs.take_line.Goals as goal

pub slice_bounds-room-end : goal.slice_bounds-room-end
slice_bounds-room-end c = let l = c.record_at-line in omega (arith, record-fits l.ensures.lists_at c.in-Answer.is c.in-Ok.is, l.auto.room)

pub slice_bounds-print_record-end : goal.slice_bounds-print_record-end
slice_bounds-print_record-end c =
    let l = c.record_at-line in
    sym (length-take-le _ _ (omega (arith, record-fits l.ensures.lists_at c.in-Answer.is c.in-Ok.is, l.auto.room)))
