-- Bezout's identity: the greatest common divisor is a combination of the two polynomials.
--   Combines   p u + t w = f for some polynomials u and w
--   bezout     so it is with f = gcd(p, t)
-- Assumes nothing.
use mathlib.Core.Path.{◌∙◌, ◌≡◌, ap, ap₂, sym}
use mathlib.Core.Option.{Option, Option-elim}
use mathlib.Core.List.{List, [], ◌∷◌}
use Prim.Native.Nat.{◌≤◌, suc, zero, ℕ}
use native.Mathlib.Omega.{arith}
use lib.ListN.{get_or-eq_default, length}
use Rattle.algebra.specs.Field.{Laws, Ops}
use Rattle.algebra.specs.Polynomial.{add, coef, mul}
use Rattle.algebra.specs.Routines.{euclid, gcd, monic, norm, quo, rem}
use Rattle.algebra.proofs.Series.{Series, nought, nought-plus, plus, plus-back, plus_comm, plus-times, scale, scale_back, times, times-assoc, times-nought, times-plus, times-unit}
use Rattle.algebra.proofs.Coefficients.{coef-add, coef-cons, coef-mul, times-constant}
use Rattle.algebra.proofs.Lengths.{length-rem}
use Rattle.algebra.proofs.Division.{division, plus-rotate}
use Rattle.algebra.proofs.MakingMonic.{Normed, led, normed, vanished}
use Rattle.algebra.proofs.Signs.{signs}

-- p u + t w = f for some polynomials u and w
pub record Combines {K : Type 0} (F : Ops K) (p t f : Series K) : Type 0 where
  pub left : List K
  pub right : List K
  pub sum : plus F (times F p (coef F left)) (times F t (coef F right)) ≡ f

module _ {K : Type 0} {F : Ops K} (L : Laws F) where
  open signs F use {0#, 1#, ◌⊞◌, ◌⊠◌}

  combines-left : (p t : Series K) → Combines F p t p
  combines-left p t = record {
    left = 1# ∷ [];
    right = [];
    sum = ap₂ ◌⊞◌ (ap (λ w. p ⊠ w) (coef-cons L 1# []) ∙ times-unit L p) (times-nought L t) ∙ plus_comm L p (nought F) ∙ nought-plus L p;
  }

  -- from s and p, where s is (f + p q) times a number, to p and f
  combines-step : (p f g s q : List K) (c : K) → scale F c (coef F f ⊞ coef F p ⊠ coef F q) ≡ coef F s → Combines F (coef F s) (coef F p) (coef F g)
      → Combines F (coef F p) (coef F f) (coef F g)
  combines-step p f g s q c e b =
      let w : List K = mul F (c ∷ []) b.left in
      let m : Series K = coef F f ⊞ coef F p ⊠ coef F q in
      let x : Series K = coef F p ⊠ (coef F q ⊠ coef F w) in
      let y : Series K = coef F p ⊠ coef F b.right in
      let z : Series K = coef F f ⊠ coef F w in
      let first : coef F s ⊠ coef F b.left ≡ z ⊞ x =
      ap (λ h. h ⊠ coef F b.left) (sym e ∙ sym (times-constant L c m)) ∙ times-assoc L m (coef F (c ∷ [])) (coef F b.left)
      ∙ ap (λ h. m ⊠ h) (sym (coef-mul L (c ∷ []) b.left)) ∙ plus-times L (coef F f) (coef F p ⊠ coef F q) (coef F w)
      ∙ ap (λ h. z ⊞ h) (times-assoc L (coef F p) (coef F q) (coef F w)) in
      record {
        left = add F (mul F q w) b.right;
        right = w;
        sum = ap (λ h. coef F p ⊠ h ⊞ z) (coef-add L (mul F q w) b.right ∙ ap (λ h. h ⊞ coef F b.right) (coef-mul L q w))
            ∙ ap (λ h. h ⊞ z) (times-plus L (coef F p) (coef F q ⊠ coef F w) (coef F b.right))
            ∙ plus-rotate L x y z ∙ ap (λ h. h ⊞ y) (plus_comm L x z ∙ sym first) ∙ b.sum;
      }

  euclid-combines : (n : ℕ) (p f : List K) → length p ≤ n → Combines F (coef F (monic F p)) (coef F f) (coef F (monic F (euclid F n p f)))
  unfolding euclid
  euclid-combines zero p f l = combines-left (coef F (monic F p)) (coef F f)
  euclid-combines (suc n) p f l =
      go (norm F (length p) (rem F p f))
      (normed L (length p) (rem F p f) (λ j h. get_or-eq_default (rem F p f) 0# (omega (arith, length-rem F p f)))) (euclid-combines n)
    where
      go : (o : Option (List K)) → Normed F (coef F (rem F p f)) (length p) o
          → ((s g : List K) → length s ≤ n → Combines F (coef F (monic F s)) (coef F g) (coef F (monic F (euclid F n s g))))
          → Combines F (coef F (monic F p)) (coef F f) (coef F (monic F (Option-elim o p (λ r. euclid F n r (monic F p)))))
      go o (vanished z) rec = combines-left (coef F (monic F p)) (coef F f)
      go o (led s c k h q) rec =
          combines-step (monic F p) f (monic F (euclid F n s (monic F p))) (monic F s) (quo F p f) (F.inv c)
          (ap (scale F (F.inv c)) (left_over ∙ q) ∙ scale_back L c (coef F (monic F s)) h) (rec s (monic F p) (omega arith))
        where
          left_over : coef F f ⊞ coef F (monic F p) ⊠ coef F (quo F p f) ≡ coef F (rem F p f)
          left_over =
              let m : Series K = coef F (monic F p) ⊠ coef F (quo F p f) in
              ap (λ w. w ⊞ m) (division L p f) ∙ plus_comm L (m ⊞ coef F (rem F p f)) m ∙ plus-back L m (coef F (rem F p f))

  -- so it is with f = gcd(p, t)
  pub bezout : (p f : List K) → Combines F (coef F (monic F p)) (coef F f) (coef F (monic F (gcd F p f)))
  unfolding gcd
  bezout p f = euclid-combines (length p) p f (omega arith)
