-- `field_elements::quadratic` meets its contract: the tests decide, and the value is that of the field type.
-- Assumes nothing.
use mathlib.Core.Path.{sym, ap, ap₂, ◌∙◌}
use mathlib.Core.List.{List, ◌∷◌}
use Prim.Native.Nat.{ℕ}
use Rattle.field.specs.Quadratics.{doubles}
use Rattle.refusals.proofs.Told.{told-refused}
use Rattle.refusals.proofs.Order.{accepted}
use Rattle.field_elements.proofs.Admitting.{let-in, turned-away, pair-told}
use Rattle.field_elements.proofs.quadratic.Goals as goal

pub returns-in_err-admit_pair : goal.returns-in_err-admit_pair
returns-in_err-admit_pair c = told-refused _ _ _ _ c.from_residual.ensures.1 (turned-away _ c.admit_pair.ensures c.in_err-admit_pair.was)

pub roots_in-requires : goal.roots_in-requires
roots_in-requires c =
    let t = pair-told (let-in c.admit_pair.ensures c.in_ok-admit_pair.was).0 in
    (t.field, t.first, t.second)

pub returns : goal.returns
returns c =
    let h = let-in c.admit_pair.ensures c.in_ok-admit_pair.was in
    let o = c.roots_in.ensures in
    ap₂ (λ (d : ℕ) (l : List ℕ). (0, d ∷ l)) (ap doubles o.times) o.roots ∙ sym (accepted _ h.0)
