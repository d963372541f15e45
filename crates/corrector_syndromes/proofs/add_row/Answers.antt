-- `corrector_syndromes::add_row` meets its contract: one test over the table.
-- Assumes nothing.
use borrow.Author.Rules.{rules}
use native.Mathlib.Omega.{arith}
use Rattle.field.specs.Rows.{poly_in}
use Rattle.corrector_syndromes.specs.declared.powers.TheConstants.{ODD_POWERS}
use Rattle.corrector_syndromes.proofs.Adding.{row_from, row_on, row-end}
use Rattle.corrector_syndromes.proofs.Entries.{rows_test, rows_at}
use Rattle.corrector_syndromes.proofs.add_row.Goals as goal

pub loop-k-init : goal.loop-k-init
loop-k-init c = row_from _ _ (search rules)

pub loop-k-preserved : goal.loop-k-preserved
unfolding poly_in rows_test
loop-k-preserved c = row_on (rows_at ODD_POWERS tt _ _ _ c.requires (omega arith)) c.loop-k.invariant (omega arith)

pub returns : goal.returns
returns c = row-end c.loop-k.invariant (omega arith)
