-- The splitting law: a polynomial t parts the product over distinct roots into the product over those where t is 0,
-- which is the greatest common divisor with t, and the product over the others, which is the quotient. No division and
-- no Bezout identity is needed.
--   split-product   the product over s is the product over what a test keeps times the product over what it leaves
--   gcd-split       THE SPLIT: the product over the roots in s at which t is 0 is a greatest common divisor of the
--                   product over s and t
--   split-gcd       so `gcd` gives it
--   split-cofactor  and `cofactor` the product over the others
--   step-gcd        a step at level i, with b the i-th power of a: the roots r with Tr(b r) = 0
--   step-cofactor   and the others
-- Assumes nothing.
use mathlib.Core.Path.{◌∙◌, ◌≡◌, ap, fun_ext, subst, sym}
use mathlib.Core.Logic.{◌↔◌, ◌≢◌}
use mathlib.Core.Bool.{Bool, cond, false, not, true}
use mathlib.Core.List.{List, [], ◌∷◌}
use Prim.Native.Nat.{ℕ}
use lib.Dec.{T}
use Rattle.algebra.specs.Field.{Laws, Ops, trace}
use Rattle.algebra.specs.Trial.{Distinct, keep}
use Rattle.algebra.specs.Polynomial.{Divides, IsGcd, coef, eval, from_roots, is_root, linear, mul, trace_of}
use Rattle.algebra.specs.Routines.{cofactor, gcd, monic_roots}
use Rattle.algebra.proofs.Trial.{all_map, distinct-keep, keep-passed}
use Rattle.algebra.proofs.Elements.{zero-mul, zero-of-product}
use Rattle.algebra.proofs.Series.{Series, times, times-assoc, times-left-comm, times-unit, unit}
use Rattle.algebra.proofs.Coefficients.{coef-cons, coef-mul, one-times}
use Rattle.algebra.proofs.Evaluation.{eval-linear, eval_mul, eval-multiple, eval-trace_of}
use Rattle.algebra.proofs.Degree.{monic-cancel, monic-list}
use Rattle.algebra.proofs.Divisibility.{divides-trans, divides-multiple, quotient-exact}
use Rattle.algebra.proofs.Factors.{factor, monic-roots, roots-divide}
use Rattle.algebra.proofs.Euclid.{gcd-only}
use Rattle.algebra.proofs.Quotients.{cofactor-only}

module _ {K : Type 0} {F : Ops K} (L : Laws F) where
  infixl 70 ◌⊗◌
  infixl 70 ◌⊠◌
  infix 50 ◌∣◌
  open F use {zero as 0#, one as 1#, mul as ◌⊗◌}
  open L use {add-self, zero_test}

  abbrev ◌⊠◌ : Series K → Series K → Series K
  f ⊠ g = times F f g

  abbrev ◌∣◌ : List K → Series K → Type 0
  d ∣ f = Divides F d f

  -- the product over s is the product over what a test keeps times the product over what it leaves
  pub split-product : (t : K → Bool) (s : List K)
      → coef F (from_roots F s) ≡ coef F (from_roots F (keep t s)) ⊠ coef F (from_roots F (keep (λ r. not (t r)) s))
  unfolding from_roots
  split-product t [] = sym (ap (λ w. w ⊠ w) (coef-cons L 1# []) ∙ times-unit L (unit F) ∙ sym (coef-cons L 1# []))
  split-product t (r ∷ s) =
      coef-mul L (linear F r) (from_roots F s) ∙ ap (λ w. coef F (linear F r) ⊠ w) (split-product t s) ∙ sym (go (t r) (keep t s) (keep (λ x. not (t x)) s))
    where
      go : (b : Bool) (g h : List K) → coef F (from_roots F (cond b (r ∷ g) g)) ⊠ coef F (from_roots F (cond (not b) (r ∷ h) h))
          ≡ coef F (linear F r) ⊠ (coef F (from_roots F g) ⊠ coef F (from_roots F h))
      go true g h = ap (λ w. w ⊠ coef F (from_roots F h)) (coef-mul L (linear F r) (from_roots F g)) ∙ times-assoc L _ _ _
      go false g h = ap (λ w. coef F (from_roots F g) ⊠ w) (coef-mul L (linear F r) (from_roots F h)) ∙ times-left-comm L _ _ _

  -- a divisor d of t shares no factor z + r with t where t(r) is not 0
  drop-factor : (d t q : List K) (r : K) → d ∣ coef F t → eval F t r ≢ 0# → d ∣ coef F (linear F r) ⊠ coef F q → d ∣ coef F q
  drop-factor d t q r a n h = record { quotient = k.quotient; exact = coef-mul L d k.quotient ∙ same }
    where
      e : List K
      e = h.quotient

      -- d(r) e(r) = (r + r) q(r) = 0
      vanish : eval F d r ⊗ eval F e r ≡ 0#
      vanish =
          eval-multiple L d (mul F (linear F r) q) e r (quotient-exact L h ∙ sym (coef-mul L (linear F r) q)) ∙ eval_mul L (linear F r) q r
          ∙ ap (λ w. w ⊗ eval F q r) (eval-linear L r r ∙ add-self r) ∙ zero-mul L (eval F q r)

      nonzero : eval F d r ≢ 0#
      nonzero z = n (sym (eval-multiple L d t a.quotient r (quotient-exact L a)) ∙ ap (λ w. w ⊗ eval F a.quotient r) z ∙ zero-mul L (eval F a.quotient r))

      k : linear F r ∣ coef F e
      k = factor L r e (zero-of-product L (eval F d r) (eval F e r) nonzero vanish)

      same : coef F d ⊠ coef F k.quotient ≡ coef F q
      same =
          sym (coef-mul L d k.quotient)
          ∙ monic-cancel L (mul F d k.quotient) q (monic-list L (r ∷ []))
          (ap (λ w. coef F (linear F r) ⊠ w) (coef-mul L d k.quotient) ∙ times-left-comm L _ _ _ ∙ ap (λ w. coef F d ⊠ w) (quotient-exact L k) ∙ quotient-exact L h)

  -- so a common divisor of t and a product over roots divides the product over the common roots
  common : (d t s q : List K) → d ∣ coef F t → d ∣ coef F q ⊠ coef F (from_roots F s) → d ∣ coef F q ⊠ coef F (from_roots F (keep (is_root F t) s))
  unfolding from_roots
  common d t [] q a h = h
  common d t (r ∷ s) q a h = go (is_root F t r) (zero_test (eval F t r)) (λ p. common d t s p a)
    where
      whole : d ∣ coef F q ⊠ (coef F (linear F r) ⊠ coef F (from_roots F s))
      whole = rw (← coef-mul L (linear F r) (from_roots F s)) h

      go : (b : Bool) → T b ↔ (eval F t r ≡ 0#)
          → ((p : List K) → d ∣ coef F p ⊠ coef F (from_roots F s) → d ∣ coef F p ⊠ coef F (from_roots F (keep (is_root F t) s)))
          → d ∣ coef F q ⊠ coef F (from_roots F (cond b (r ∷ keep (is_root F t) s) (keep (is_root F t) s)))
      go true e rec =
          subst (λ w. d ∣ w)
          (ap (λ w. w ⊠ coef F (from_roots F (keep (is_root F t) s))) (coef-mul L q (linear F r))
          ∙ times-assoc L (coef F q) (coef F (linear F r)) (coef F (from_roots F (keep (is_root F t) s)))
          ∙ ap (λ w. coef F q ⊠ w) (sym (coef-mul L (linear F r) (from_roots F (keep (is_root F t) s)))))
          (rec (mul F q (linear F r))
          (subst (λ w. d ∣ w)
          (sym (times-assoc L (coef F q) (coef F (linear F r)) (coef F (from_roots F s)))
          ∙ ap (λ w. w ⊠ coef F (from_roots F s)) (sym (coef-mul L q (linear F r))))
          whole))
      go false e rec =
          rec q
          (subst (λ w. d ∣ w) (coef-mul L q (from_roots F s))
          (drop-factor d t (mul F q (from_roots F s)) r a e.1
          (subst (λ w. d ∣ w)
          (times-left-comm L (coef F q) (coef F (linear F r)) (coef F (from_roots F s))
          ∙ ap (λ w. coef F (linear F r) ⊠ w) (sym (coef-mul L q (from_roots F s))))
          whole)))

  -- THE SPLIT: the product over the roots in s at which t is 0 is a greatest common divisor of the product over s and
  -- t
  pub gcd-split : (s t : List K) → Distinct s → IsGcd F (coef F (from_roots F s)) (coef F t) (coef F (from_roots F (keep (is_root F t) s)))
  gcd-split s t u d =
      let g : List K = from_roots F (keep (is_root F t) s) in
      let h : List K = from_roots F (keep (λ r. not (is_root F t r)) s) in
      let in-s : g ∣ coef F (from_roots F s) = rw (split-product (is_root F t) s) (divides-multiple L g h) in
      let in-t : g ∣ coef F t =
      roots-divide L (keep (is_root F t) s) t (distinct-keep (is_root F t) s u)
      (all_map (λ r. (zero_test (eval F t r)).0) (keep (is_root F t) s) (keep-passed (is_root F t) s)) in (
        λ a. (divides-trans L g a in-s, divides-trans L g a in-t),
        λ b. subst (λ w. d ∣ w) (one-times L (coef F g)) (common d t s (1# ∷ []) b.1 (rw (one-times L (coef F (from_roots F s))) b.0)),
      )

  -- so `gcd` gives it
  pub split-gcd : (s t : List K) → Distinct s → gcd F (monic_roots F s) t ≡ monic_roots F (keep (is_root F t) s)
  split-gcd s t d =
      sym (gcd-only L (monic_roots F s) t (monic_roots F (keep (is_root F t) s))
      (rw (monic-roots L s, monic-roots L (keep (is_root F t) s)) (gcd-split s t d)))

  -- and `cofactor` the product over the others
  pub split-cofactor : (s t : List K) → Distinct s
      → cofactor F (monic_roots F s) (gcd F (monic_roots F s) t) ≡ monic_roots F (keep (λ r. not (is_root F t r)) s)
  split-cofactor s t d =
      sym (cofactor-only L (monic_roots F s) (gcd F (monic_roots F s) t) (monic_roots F (keep (λ r. not (is_root F t r)) s))
      (rw (split-gcd s t d, monic-roots L s, monic-roots L (keep (is_root F t) s), monic-roots L (keep (λ r. not (is_root F t r)) s)) (split-product (is_root F t) s)))

  pub keep-trace : (m : ℕ) (b : K) (s : List K) → keep (is_root F (trace_of F m b)) s ≡ keep (λ r. F.is_zero (trace F m (F.mul b r))) s
  keep-trace m b s = ap (λ t. keep t s) (fun_ext λ r. ap F.is_zero (eval-trace_of L m b r))

  -- a step at level i, with b the i-th power of a: the roots r with Tr(b r) = 0
  pub step-gcd : (m : ℕ) (b : K) (s : List K) → Distinct s
      → gcd F (monic_roots F s) (trace_of F m b) ≡ monic_roots F (keep (λ r. F.is_zero (trace F m (F.mul b r))) s)
  step-gcd m b s d = split-gcd s (trace_of F m b) d ∙ ap (monic_roots F) (keep-trace m b s)

  -- and the others
  pub step-cofactor : (m : ℕ) (b : K) (s : List K) → Distinct s
      → cofactor F (monic_roots F s) (gcd F (monic_roots F s) (trace_of F m b)) ≡ monic_roots F (keep (λ r. not (F.is_zero (trace F m (F.mul b r)))) s)
  step-cofactor m b s d =
      split-cofactor s (trace_of F m b) d ∙ ap (λ t. monic_roots F (keep t s)) (fun_ext λ r. ap (λ x. not (F.is_zero x)) (eval-trace_of L m b r))
