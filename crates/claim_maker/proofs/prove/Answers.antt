-- `claim_maker::prove` meets its contract: the tests decide, and of what was let in the claim is made.
-- Assumes nothing.
use mathlib.Core.Path.{refl}
use Rattle.refusals.proofs.Admitting.{passed-on, turned-away}
use Rattle.claim_maker.proofs.Making.{prove-told}
use Rattle.claim_maker.proofs.prove.Goals as goal

pub tables_of-requires : goal.tables_of-requires
tables_of-requires c = (prove-told _ _ _ c.in_ok-admit.ensures).polynomial.field

pub make-requires : goal.make-requires
make-requires c = rw c.tables_of.ensures (prove-told _ _ _ c.in_ok-admit.ensures)

pub returns-in_err-admit : goal.returns-in_err-admit
returns-in_err-admit c = rw (passed-on _ c.from_residual.ensures.1) (turned-away c.admit.ensures c.in_err-admit.was, refl)
