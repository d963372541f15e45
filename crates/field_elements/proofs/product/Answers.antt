-- `field_elements::product` meets its contract: the tests decide, and the value is that of the field type.
-- Assumes nothing.
use mathlib.Core.Path.{sym, ap, ◌∙◌}
use mathlib.Core.List.{[], ◌∷◌}
use Prim.Native.Nat.{ℕ}
use Rattle.refusals.proofs.Told.{told-refused}
use Rattle.refusals.proofs.Order.{accepted}
use Rattle.field_elements.proofs.Admitting.{let-in, turned-away, pair-told}
use Rattle.field_elements.proofs.product.Goals as goal

pub returns-in_err-admit_pair : goal.returns-in_err-admit_pair
returns-in_err-admit_pair c = told-refused _ _ _ _ c.from_residual.ensures.1 (turned-away _ c.admit_pair.ensures c.in_err-admit_pair.was)

pub product_in-requires : goal.product_in-requires
product_in-requires c =
    let t = pair-told (let-in c.admit_pair.ensures c.in_ok-admit_pair.was).0 in
    (t.field, t.second)

pub returns : goal.returns
returns c =
    let h = let-in c.admit_pair.ensures c.in_ok-admit_pair.was in
    ap (λ (v : ℕ). (0, v ∷ [])) c.product_in.ensures ∙ sym (accepted _ h.0)
