-- `job_lines::take_turn` meets its contract: by what was read.
-- Assumes nothing.
use mathlib.Core.Path.{refl, sym, ap, ◌∙◌}
use Rattle.job_records.specs.Reading.{told_read, bytes_of}
use Rattle.job_solve.proofs.Solving.{job-accepted}
use Rattle.job_lines.proofs.Turning.{turn-over, turn-stop, turn-refuse, turn-record}
use Rattle.job_lines.proofs.take_turn.Goals as goal

pub put_solved-requires : goal.put_solved-requires
put_solved-requires c =
    let f = c.in-Record.is in
    let s = c.requires in
    (c.new.ensures, job-accepted s.file s.at (ap told_read (sym f) ∙ s.read) (s.lent ∙ ap (bytes_of s.file) f))

pub returns-in-End : goal.returns-in-End
returns-in-End c file at e b = turn-over _ e c.in-End.is c.new.ensures refl

pub returns-in-Stopped : goal.returns-in-Stopped
returns-in-Stopped c file at e b = turn-stop _ e c.in-Stopped.is c.put_turned.ensures refl

pub returns-in-Refused : goal.returns-in-Refused
returns-in-Refused c file at e b = turn-refuse _ e c.in-Refused.is c.put_turned-in-Refused.ensures refl

pub returns-in-Record : goal.returns-in-Record
returns-in-Record c file at e b =
    let f = c.in-Record.is in
    turn-record _ e f (b ∙ ap (bytes_of file) f) c.put_solved.ensures refl
