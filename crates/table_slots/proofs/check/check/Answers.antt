-- `table_slots::check::check` meets its contract: each return names the test that holds.
-- Assumes nothing.
use mathlib.Core.Path.{sym, ◌∙◌}
use Rattle.table_rules.proofs.Sizes.{size-exactly}
use Rattle.table_slots.specs.Verdicts.Checks.{short}
use Rattle.table_slots.proofs.Judging.{checked}
use Rattle.table_slots.proofs.check.check.Goals as goal

pub returns-then-not-is_table_size : goal.returns-then-not-is_table_size
returns-then-not-is_table_size c = short (sym c.is_table_size.ensures ∙ c.if-not-is_table_size.true)

pub degrees-requires : goal.degrees-requires
degrees-requires c = (size-exactly _).0 (sym c.is_table_size.ensures ∙ c.if-not-is_table_size.false)

pub returns : goal.returns
returns c = rw c.ok_or.ensures.value (checked c.args.table.now (sym c.is_table_size.ensures ∙ c.if-not-is_table_size.false) c.degrees.ensures)
