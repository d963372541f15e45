-- `job_sheet::sheet_of` meets its contract: at each turn the lines tell the figures of the entries before the place.
-- Assumes nothing.
use Rattle.std.proofs.Common.{◌-◌, length}
use Rattle.job_sheet.proofs.Turns.{Sheeting}
use Rattle.job_sheet.proofs.sheet_of.Given as goal

abbrev pub invariant-loop-lines : goal.invariant-loop-lines
invariant-loop-lines l = Sheeting l.file l.lines l.unknown l.at l.k

abbrev pub decreases-loop-lines : goal.decreases-loop-lines
decreases-loop-lines l = length l.file - l.at
