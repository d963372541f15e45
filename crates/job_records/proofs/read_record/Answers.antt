-- `job_records::read_record` meets its contract: past the end nothing is left, and else the rest is read.
-- Assumes nothing.
use Prim.Native.Nat.{◌-◌}
use native.Mathlib.Omega.{arith}
use mathlib.Core.Path.{sym, ap, ◌∙◌}
use lib.ListN.{length, drop, length-drop, drop_of_length-le}
use lib.Seq.{take_all}
use Rattle.job_records.specs.Reading.{read_here}
use Rattle.job_records.proofs.read_record.Goals as goal

pub returns-then-file-at : goal.returns-then-file-at
unfolding read_here
returns-then-file-at c =
    let a = c.args in
    sym (ap (read_here a.at) (drop_of_length-le a.file.now c.if-file-at.true))

pub returns : goal.returns
returns c =
    let a = c.args in
    c.read_here.ensures
    ∙ ap (read_here a.at) (take_all (length a.file.now - a.at) (drop a.at a.file.now) (omega (arith, length-drop a.at a.file.now)))
