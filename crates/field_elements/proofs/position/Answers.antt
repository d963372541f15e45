-- `field_elements::position` meets its contract: the tests decide, and the value is the log table's, or its mirror
-- image.
-- Assumes nothing.
use mathlib.Core.Path.{◌≡◌}
use Prim.Native.Nat.{ℕ}
use native.Mathlib.Omega.{arith}
use Rattle.std.specs.Prelude.{Result, Ok}
use Rattle.refusals.proofs.Told.{told-refused}
use Rattle.refusals.specs.declared.Refusal.{Refusal}
use Rattle.field.specs.declared.rows.Row.{Row}
use Rattle.field.specs.Field.{field_at, position}
use Rattle.field_elements.specs.Calls.{AdmitsRow, position_tests}
use Rattle.field_elements.proofs.Admitting.{let-in, turned-away, place-told}
use Rattle.field_elements.proofs.Placing.{ExponentKnown, exponent-known, goppa-outcome, recorder-outcome}
use Rattle.field_elements.proofs.position.Goals as goal

-- all tests passed, and the exponent is taken
its : {m r v j : ℕ} {row : Row} {a : Result Row Refusal} → AdmitsRow (position_tests m r v) m a → a ≡ Ok row
    → j ≡ position (field_at m) r → ExponentKnown m r v j
its {m} {r} {v} h e x = exponent-known m r v (let-in h e).0 x

pub returns-in_err-row : goal.returns-in_err-row
returns-in_err-row c = told-refused _ _ _ _ c.from_residual.ensures.1 (turned-away _ c.admit_position.ensures c.in_err-row.was)

pub position_in-j-requires : goal.position_in-j-requires
position_in-j-requires c =
    let t = place-told c.args.convention (let-in c.admit_position.ensures c.in_ok-row.was).0 in
    (t.field, t.positive, t.below)

pub returns-then-convention-eq0 : goal.returns-then-convention-eq0
returns-then-convention-eq0 c = goppa-outcome (its c.admit_position.ensures c.in_ok-row.was c.position_in-j.ensures) c.if-convention-eq0.true

pub overflow_sub-order : goal.overflow_sub-order
overflow_sub-order c =
    let w = (its c.admit_position.ensures c.in_ok-row.was c.position_in-j.ensures).within in
    let e = (let-in c.admit_position.ensures c.in_ok-row.was).1.size in
    omega arith

pub overflow_sub-result : goal.overflow_sub-result
overflow_sub-result c =
    let w = (its c.admit_position.ensures c.in_ok-row.was c.position_in-j.ensures).within in
    let e = (let-in c.admit_position.ensures c.in_ok-row.was).1.size in
    omega arith

pub nonzero_rem-result : goal.nonzero_rem-result
nonzero_rem-result c =
    let w = (its c.admit_position.ensures c.in_ok-row.was c.position_in-j.ensures).within in
    let e = (let-in c.admit_position.ensures c.in_ok-row.was).1.size in
    omega arith

pub returns : goal.returns
returns c =
    let i = let-in c.admit_position.ensures c.in_ok-row.was in
    recorder-outcome (its c.admit_position.ensures c.in_ok-row.was c.position_in-j.ensures) i.1.size c.if-convention-eq0.false
