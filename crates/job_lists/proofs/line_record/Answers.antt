-- `job_lists::line_record` meets its contract, by how many numbers the line has.
-- Assumes nothing.
use mathlib.Core.Path.{sym, ◌∙◌}
use native.Mathlib.Omega.{arith}
use Rattle.job_lists.specs.Calls.Lists.{illegible}
use Rattle.job_lists.proofs.Asking.{list-none, list-one, list-more}
use Rattle.job_lists.proofs.line_record.Goals as goal

pub returns-then-not-legible : goal.returns-then-not-legible
returns-then-not-legible c = illegible (sym c.legible.ensures ∙ c.if-not-legible.true)

pub returns-in-empty : goal.returns-in-empty
returns-in-empty c = list-none (sym c.legible.ensures ∙ c.if-not-legible.false) (c.as_slice.ensures.value ∙ c.numbers-list.ensures) (omega arith)

pub returns-in-len1 : goal.returns-in-len1
returns-in-len1 c = list-one (sym c.legible.ensures ∙ c.if-not-legible.false) (c.as_slice.ensures.value ∙ c.numbers-list.ensures) (omega arith)

pub returns-in-len2-up : goal.returns-in-len2-up
returns-in-len2-up c = list-more {room = c.args.room.now} (sym c.legible.ensures ∙ c.if-not-legible.false) (c.as_slice.ensures.value ∙ c.numbers-list.ensures) {after = c.write.new.room} c.in-len2-up.len_at_least c.write.ensures
