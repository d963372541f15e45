-- `table_slots::limit_for` meets its contract.
-- Assumes nothing.
use mathlib.Core.Path.{sym, ap}
use mathlib.Core.Bool.{cond}
use borrow.Author.Tests.{eq-eqb, ne_eqb}
use Rattle.input.specs.Limit.{limit}
use Rattle.table_rules.specs.Sizes.{stored_limit, stored_slots, limit_for}
use Rattle.table_slots.proofs.limit_for.Goals as goal

pub returns-then-n-eq-STORED_SLOTS : goal.returns-then-n-eq-STORED_SLOTS
unfolding limit_for
returns-then-n-eq-STORED_SLOTS c = sym (ap (λ b. cond b stored_limit limit) (eq-eqb _ stored_slots c.if-n-eq-STORED_SLOTS.true))

pub returns-else-n-eq-STORED_SLOTS : goal.returns-else-n-eq-STORED_SLOTS
unfolding limit_for
returns-else-n-eq-STORED_SLOTS c = sym (ap (λ b. cond b stored_limit limit) (ne_eqb _ stored_slots c.if-n-eq-STORED_SLOTS.false))
