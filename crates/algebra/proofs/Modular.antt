-- Squares and traces modulo a monic polynomial, as the code computes them: each stays congruent to the full
-- polynomial.
--   frobenius-mod  repeated squares
--   trace-mod      f + f^2 + f^4 + ..
--   trace-run      gcd(P, Tr(b z)) from the trace sum modulo P, for any P
--   field-run      gcd(P, z^(2^m) + z) from the power modulo P, for any P
-- Assumes nothing.
use mathlib.Core.Path.{◌∙◌, ◌≡◌, subst, sym}
use mathlib.Core.List.{List, [], ◌∷◌}
use Prim.Native.Nat.{suc, zero, ℕ}
use Rattle.algebra.specs.Field.{Laws, Ops}
use Rattle.algebra.specs.Polynomial.{Divides, add, coef, field_poly, frobenius, linear, mul, trace_of, trace_poly}
use Rattle.algebra.specs.Routines.{frobenius_mod, gcd, monic, rem, square, trace_mod}
use Rattle.algebra.proofs.Coefficients.{coef-mul, coef-square}
use Rattle.algebra.proofs.Congruence.{Cong, cong-add, cong-mul, cong-refl, cong-trans}
use Rattle.algebra.proofs.Division.{rem-cong}
use Rattle.algebra.proofs.Euclid.{gcd-reduced}
use Rattle.algebra.proofs.Signs.{signs}

module _ {K : Type 0} {F : Ops K} (L : Laws F) where
  open signs F use {0#, ◌⊞◌}

  -- a reduced square of a remainder is the square, modulo p
  cong-step : (p f w : List K) → Cong F (monic F p) f w → Cong F (monic F p) (mul F f f) (rem F p (square F w))
  cong-step p f w h =
      cong-trans L (mul F f f) (mul F w w) (rem F p (square F w)) (cong-mul L f w f w h h)
      (subst (λ u. Divides F (monic F p) (u ⊞ coef F (rem F p (square F w)))) (coef-square L w ∙ sym (coef-mul L w w)) (rem-cong L p (square F w)))

  pub frobenius-mod : (p : List K) (j : ℕ) (f w : List K) → Cong F (monic F p) f w → Cong F (monic F p) (frobenius F j f) (frobenius_mod F p j w)
  unfolding frobenius frobenius_mod
  frobenius-mod p zero f w h = h
  frobenius-mod p (suc j) f w h = frobenius-mod p j (mul F f f) (rem F p (square F w)) (cong-step p f w h)

  pub trace-mod : (p : List K) (j : ℕ) (f w : List K) → Cong F (monic F p) f w → Cong F (monic F p) (trace_poly F j f) (trace_mod F p j w)
  unfolding trace_poly trace_mod
  trace-mod p zero f w h = cong-refl L (monic F p) []
  trace-mod p (suc j) f w h =
      cong-add L f w (trace_poly F j (mul F f f)) (trace_mod F p j (rem F p (square F w))) h
      (trace-mod p j (mul F f f) (rem F p (square F w)) (cong-step p f w h))

  -- gcd(P, Tr(b z)) from the trace sum modulo P, for any P
  pub trace-run : (m : ℕ) (b : K) (p : List K) → gcd F p (trace_of F m b) ≡ gcd F p (trace_mod F p m (rem F p (0# ∷ b ∷ [])))
  trace-run m b p =
      gcd-reduced L p (trace_of F m b) (trace_mod F p m (rem F p (0# ∷ b ∷ []))) (trace-mod p m (0# ∷ b ∷ []) (rem F p (0# ∷ b ∷ [])) (rem-cong L p (0# ∷ b ∷ [])))

  -- gcd(P, z^(2^m) + z) from the power modulo P, for any P
  pub field-run : (m : ℕ) (p : List K) → let z : List K = rem F p (linear F 0#) in gcd F p (field_poly F m) ≡ gcd F p (add F (frobenius_mod F p m z) z)
  field-run m p =
      let z : List K = rem F p (linear F 0#) in
      let c : Cong F (monic F p) (linear F 0#) z = rem-cong L p (linear F 0#) in
      gcd-reduced L p (field_poly F m) (add F (frobenius_mod F p m z) z)
      (cong-add L (frobenius F m (linear F 0#)) (frobenius_mod F p m z) (linear F 0#) z (frobenius-mod p m (linear F 0#) z c) c)
