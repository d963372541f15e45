-- `table_slots::is_table_size` meets its contract.
-- Assumes nothing.
use borrow.Author.Tests.{eq-eqb, ne_eqb}
use Rattle.table_rules.specs.Sizes.{stored_slots, is_table_size}
use Rattle.table_slots.proofs.is_table_size.Goals as goal

pub returns-then-n-eq-STORED_SLOTS : goal.returns-then-n-eq-STORED_SLOTS
unfolding is_table_size
returns-then-n-eq-STORED_SLOTS c = rw (eq-eqb c.args.n stored_slots c.if-n-eq-STORED_SLOTS.true)

pub returns-else-n-eq-STORED_SLOTS : goal.returns-else-n-eq-STORED_SLOTS
unfolding is_table_size
returns-else-n-eq-STORED_SLOTS c = rw (ne_eqb c.args.n stored_slots c.if-n-eq-STORED_SLOTS.false)
