-- What the position call knows where it is let in, and that what it answers is the outcome.
--   ExponentKnown, exponent-known     the exponent that it computes with
--   goppa-outcome, recorder-outcome   what it answers under each convention
--   half-log-place                    the position under the recorders' convention, by half the log
-- Assumes nothing.
use mathlib.Core.Path.{◌≡◌, sym, ap, ap₂, ◌∙◌}
use mathlib.Core.List.{[], ◌∷◌}
use Prim.Native.Nat.{ℕ, ◌-◌, ◌/◌, ◌%◌, ◌^◌, ◌<◌}
use native.Mathlib.Omega.{arith}
use Rattle.refusals.specs.Order.{Passed}
use Rattle.refusals.proofs.Order.{accepted}
use Rattle.field.specs.Field.{field_at, position}
use Rattle.field.specs.Tables.{log_of}
use Rattle.field.proofs.Known.{listed}
use Rattle.field.proofs.Generator.{generated, position-is}
use Rattle.field.proofs.Logarithms.{log-half}
use Rattle.field_elements.specs.Calls.{position_tests, position_under, position_outcome}
use Rattle.field_elements.proofs.Admitting.{place-told}
use Rattle.field_elements.proofs.Mirror.{goppa, recorder}

-- what the call knows where it is let in: j is the exponent of r, below the order
pub record ExponentKnown (m r v j : ℕ) : Type 0 where
  pub passed : Passed (position_tests m r v)
  pub exponent : j ≡ position (field_at m) r
  pub within : j < 2 ^ m - 1

pub exponent-known : (m r v : ℕ) {j : ℕ} → Passed (position_tests m r v) → j ≡ position (field_at m) r → ExponentKnown m r v j
exponent-known m r v {j} passed e =
    let o = place-told v passed in
    let p = (position-is (field_at m) (generated (listed m o.field)) r o.positive o.below).0 in
    record { passed = passed; exponent = e; within = omega arith }

-- what it answers under each convention is the outcome
pub goppa-outcome : {m r v j : ℕ} → ExponentKnown m r v j → v ≡ 0 → (0, j ∷ []) ≡ position_outcome m r v
goppa-outcome {m} {r} {v} p h =
    ap (λ (n : ℕ). (0, n ∷ [])) (p.exponent ∙ sym (goppa (field_at m) r v h)) ∙ sym (accepted _ p.passed)

pub recorder-outcome : {m r v j n : ℕ} → ExponentKnown m r v j → n ≡ 2 ^ m → (v ≡ 0 → ⊥) → (0, (n - 1 - j) % (n - 1) ∷ []) ≡ position_outcome m r v
recorder-outcome {m} {r} {v} p e h =
    let mirrored = ap₂ (λ (n k : ℕ). (n - 1 - k) % (n - 1)) e p.exponent in
    ap (λ (n : ℕ). (0, n ∷ [])) (mirrored ∙ sym (recorder (field_at m) r v h)) ∙ sym (accepted _ p.passed)

-- in field 11, by half the log
pub half-log-place : (r : ℕ) {l : ℕ} → 0 < r → l ≡ log_of (field_at 11) r → (2047 - l / 2) % 2047 ≡ position_under 1 (field_at 11) r
unfolding position_under
half-log-place r p e = ap (λ (i : ℕ). (2047 - i) % 2047) (ap (λ (l : ℕ). l / 2) e ∙ log-half (field_at 11) r p)
