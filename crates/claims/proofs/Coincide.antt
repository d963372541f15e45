-- Two answers that the contract of the check admits are one.
--   exclusive        no claim is refused and let in
--   checked-told     two answers with one number and value are one
--   check-outcome    an answer tells the outcome that the tests decide
--   CHECK-COINCIDE   two answers that the contract admits are one
-- Assumes nothing.
use mathlib.Core.Path.{◌≡◌, refl, sym, ◌∙◌}
use mathlib.Core.Bool.{Bool, true, false}
use mathlib.Core.List.{List, [], ◌∷◌}
use Prim.Native.Nat.{ℕ, zero, suc}
use native.Mathlib.Omega.{arith}
use Rattle.std.specs.Prelude.{Result, Ok, Err}
use Rattle.refusals.specs.Admitting.{told}
use Rattle.refusals.specs.declared.Refusal.{Refusal}
use Rattle.refusals.specs.Order.{Given, Passed, outcome}
use Rattle.refusals.proofs.Order.{accepted, given-decides, passed-decides, refused}
use Rattle.refusals.proofs.Told.{told-one}
use Rattle.claim_rules.specs.Claims.{Claim}
use Rattle.claim_rules.specs.Admitting.{claim_tests}
use Rattle.claims.specs.Calls.{Checks, checked_values}

-- no claim is refused and let in
pub exclusive : {ts : List (ℕ × Bool)} {k : ℕ} → Passed ts → Given k ts → ⊥
exclusive p g = let z : ◌≡◌ {A = ℕ} 0 1 = sym (passed-decides (λ k. 1) 0 p) ∙ given-decides (λ k. 1) 0 g in omega arith

-- the answer that a value stands for
checked_of : List ℕ → Bool
checked_of [] = false
checked_of (zero ∷ more) = false
checked_of (suc n ∷ more) = true

-- it takes the value back
checked-back : (b : Bool) → checked_of (checked_values b) ≡ b
unfolding checked_of
checked-back true = refl
checked-back false = refl

pub checked-told : (r s : Result Bool Refusal) → told checked_values r ≡ told checked_values s → r ≡ s
checked-told = told-one checked_values checked_of checked-back

module _ (m : ℕ) (f : List ℕ) (c : Claim) where
  -- an answer tells the outcome that the tests decide, with its own value
  pub check-outcome : (r : Result Bool Refusal) → Checks m f c r → told checked_values r ≡ outcome (claim_tests m f c) (told checked_values r).1
  check-outcome (Ok true) h = sym (accepted (1 ∷ []) h.0)
  check-outcome (Ok false) h = sym (accepted (0 ∷ []) h.0)
  check-outcome (Err k) h = sym (refused [] h)

  -- CHECK-COINCIDE: two answers that the contract admits are one
  pub check-coincide : (r s : Result Bool Refusal) → Checks m f c r → Checks m f c s → r ≡ s
  check-coincide (Ok true) (Ok true) h k = refl
  check-coincide (Ok true) (Ok false) h k = absurd (k.1 h.1)
  check-coincide (Ok true) (Err j) h k = absurd (exclusive h.0 k)
  check-coincide (Ok false) (Ok true) h k = absurd (h.1 k.1)
  check-coincide (Ok false) (Ok false) h k = refl
  check-coincide (Ok false) (Err j) h k = absurd (exclusive h.0 k)
  check-coincide (Err i) (Ok true) h k = absurd (exclusive k.0 h)
  check-coincide (Err i) (Ok false) h k = absurd (exclusive k.0 h)
  check-coincide (Err i) (Err j) h k = checked-told (Err i) (Err j) (sym (refused [] h) ∙ refused [] k)
