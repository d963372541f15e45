-- `field_elements::inverse` meets its contract: the tests decide, and the value is that of the field type.
-- Assumes nothing.
use mathlib.Core.Path.{sym, ap, ◌∙◌}
use mathlib.Core.List.{[], ◌∷◌}
use Prim.Native.Nat.{ℕ}
use Rattle.refusals.proofs.Told.{told-refused}
use Rattle.refusals.proofs.Order.{accepted}
use Rattle.field_elements.proofs.Admitting.{let-in, turned-away, one_told}
use Rattle.field_elements.proofs.inverse.Goals as goal

pub returns-in_err-admit_nonzero : goal.returns-in_err-admit_nonzero
returns-in_err-admit_nonzero c = told-refused _ _ _ _ c.from_residual.ensures.1 (turned-away _ c.admit_nonzero.ensures c.in_err-admit_nonzero.was)

pub inverse_in-requires : goal.inverse_in-requires
inverse_in-requires c =
    let t = one_told (let-in c.admit_nonzero.ensures c.in_ok-admit_nonzero.was).0 in
    (t.field, t.positive, t.below)

pub returns : goal.returns
returns c =
    let h = let-in c.admit_nonzero.ensures c.in_ok-admit_nonzero.was in
    ap (λ (v : ℕ). (0, v ∷ [])) c.inverse_in.ensures ∙ sym (accepted _ h.0)
