-- `corrector_syndromes::add_values` meets its contract.
-- Assumes nothing.
use borrow.Author.Rules.{rules}
use mathlib.Core.Logic.{inl, inr}
use mathlib.Core.Path.{sym, subst}
use native.Mathlib.Omega.{arith}
use Rattle.corrector_syndromes.specs.Syndromes.{RowAdded}
use Rattle.corrector_syndromes.proofs.Adding.{add-digits-from, add-digits-on, add-digits-end, place-fits}
use Rattle.corrector_syndromes.proofs.add_values.Goals as goal
use Rattle.corrector_syndromes.proofs.add_values.Goals.{then-x-eq1, else-x-eq1}

pub loop-x-init : goal.loop-x-init
loop-x-init c = add-digits-from _ _ _ (search rules) c.requires

pub add_row-requires : goal.add_row-requires
add_row-requires c = place-fits _ _ (omega arith) c.loop-x.invariant.fits

pub overflow_add-i : goal.overflow_add-i
overflow_add-i c = let h = place-fits _ _ (omega arith) c.loop-x.invariant.fits in omega arith

pub loop-x-preserved : goal.loop-x-preserved
loop-x-preserved c =
    add-digits-on c.loop-x.invariant
    (elim c.if-x-eq1.branch [
      | then-x-eq1 w ↦ inl (subst (RowAdded c.loop-x.s c.loop-x.i) (sym w.s-is) w.add_row.ensures, w.if-x-eq1.true)
      | else-x-eq1 w ↦ inr (w.s-is, omega arith)
    ])

pub returns : goal.returns
returns c = add-digits-end c.loop-x.invariant (omega arith)
