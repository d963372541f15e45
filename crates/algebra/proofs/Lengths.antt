-- Lengths: what the definitions of polynomials make as long as what. No law of the field is used, so these serve
-- numbers and elements alike.
--   length-add, length-add-left      the longer of the two
--   length-square                    twice as long
--   length-rem                       as long as the divisor
--   length-quo                       as long as the dividend
--   length-from_roots                 one more than there are roots
--   length-monic_roots                as many as there are roots
--   length-frobenius_mod, length-trace_mod  as long as the modulus, where the start is
--   norm-shorter                     what is made monic has a lower degree than the place count
--   length-gcd                       at most as long as the first polynomial
--   length-cofactor                  the difference
--   length-parts                     a gcd and its cofactor together are as long as the polynomial
--   gcd-unroll                       Euclid, one division at a time
-- Assumes nothing.
use mathlib.Core.Path.{◌∙◌, ◌≡◌, ap, refl}
use mathlib.Core.Bool.{Bool, cond, false, true}
use mathlib.Core.Option.{Option, Option-elim, none, some}
use mathlib.Core.List.{List, [], ◌∷◌, map}
use Prim.Native.Nat.{◌+◌, ◌-◌, ◌<◌, ◌≤◌, suc, zero, ℕ}
use native.Mathlib.Nat.{le_of_suc-le-suc, not-suc-le-zero}
use native.Mathlib.Omega.{arith}
use lib.ListN.{get_or, length, length-append, length-map, length-replicate, length-take, take}
use lib.Seq.{length-take-le}
use Rattle.algebra.specs.Field.{Ops}
use Rattle.algebra.specs.Polynomial.{add, from_roots, linear, mul}
use Rattle.algebra.specs.Routines.{cofactor, quotient_digit, euclid, frobenius_mod, gcd, monic, monic_roots, norm, quo, rem, shift_in, square, trace_mod}

module _ {K : Type 0} (F : Ops K) where
  pub length-add : (p q : List K) → length p ≤ length q → length (add F p q) ≡ length q
  unfolding add
  length-add [] q e = refl
  length-add (c ∷ p) [] e = absurd (not-suc-le-zero e)
  length-add (c ∷ p) (d ∷ q) e = ap suc (length-add p q (le_of_suc-le-suc e))

  pub length-add-left : (p q : List K) → length q ≤ length p → length (add F p q) ≡ length p
  unfolding add
  length-add-left [] [] e = refl
  length-add-left [] (d ∷ q) e = absurd (not-suc-le-zero e)
  length-add-left (c ∷ p) [] e = refl
  length-add-left (c ∷ p) (d ∷ q) e = ap suc (length-add-left p q (le_of_suc-le-suc e))

  pub length-shift_in : (p : List K) (c : K) (r : List K) → length r ≡ length p → length (shift_in F p c r) ≡ length p
  unfolding shift_in
  length-shift_in p c r e =
      length-add (take (length p) (c ∷ r)) (map (F.mul (quotient_digit F p c r)) p) (omega (arith, length-take (length p) (c ∷ r), length-map p (F.mul (quotient_digit F p c r))))
      ∙ length-map p (F.mul (quotient_digit F p c r))

  pub length-rem : (p f : List K) → length (rem F p f) ≡ length p
  unfolding rem
  length-rem p [] = length-replicate (length p) F.zero
  length-rem p (c ∷ f) = length-shift_in p c (rem F p f) (length-rem p f)

  pub length-quo : (p f : List K) → length (quo F p f) ≡ length f
  unfolding quo
  length-quo p [] = refl
  length-quo p (c ∷ f) = ap suc (length-quo p f)

  pub length-linear : (r : K) (q : List K) → 0 < length q → length (mul F (linear F r) q) ≡ suc (length q)
  unfolding mul
  length-linear r q h =
      let one : List K = add F (map (F.mul F.one) q) (F.zero ∷ []) in
      let e : length one ≡ length q =
      length-add-left (map (F.mul F.one) q) (F.zero ∷ []) (omega (arith, length-map q (F.mul F.one))) ∙ length-map q (F.mul F.one) in
      length-add (map (F.mul r) q) (F.zero ∷ one) (omega (arith, e, length-map q (F.mul r))) ∙ ap suc e

  pub length-from_roots : (s : List K) → length (from_roots F s) ≡ suc (length s)
  unfolding from_roots
  length-from_roots [] = refl
  length-from_roots (r ∷ s) = length-linear r (from_roots F s) (omega (arith, length-from_roots s)) ∙ ap suc (length-from_roots s)

  pub length-square : (f : List K) → length (square F f) ≡ length f + length f
  unfolding square
  length-square [] = refl
  length-square (c ∷ f) = omega (arith, length-square f)

  pub length-monic : (p : List K) → length (monic F p) ≡ suc (length p)
  length-monic p = length-append p _ ∙ omega arith

  pub length-monic_roots : (s : List K) → length (monic_roots F s) ≡ length s
  unfolding monic_roots
  length-monic_roots s = length-take-le (length s) (from_roots F s) (omega (arith, length-from_roots s))

  pub length-frobenius_mod : (p : List K) (j : ℕ) (w : List K) → length w ≡ length p → length (frobenius_mod F p j w) ≡ length p
  unfolding frobenius_mod
  length-frobenius_mod p zero w h = h
  length-frobenius_mod p (suc j) w h = length-frobenius_mod p j (rem F p (square F w)) (length-rem p (square F w))

  pub length-trace_mod : (p : List K) (j : ℕ) (w : List K) → length w ≡ length p → length (trace_mod F p (suc j) w) ≡ length p
  unfolding trace_mod
  length-trace_mod p zero w h = length-add-left w [] (omega arith) ∙ h
  length-trace_mod p (suc j) w h =
      let e : length (trace_mod F p (suc j) (rem F p (square F w))) ≡ length p = length-trace_mod p j (rem F p (square F w)) (length-rem p (square F w)) in
      length-add w (trace_mod F p (suc j) (rem F p (square F w))) (omega arith) ∙ e

  abbrev pub Shorter : ℕ → Option (List K) → Type 0
  Shorter k none = Unit {0}
  Shorter k (some s) = length s < k

  pub norm-shorter : (k : ℕ) (r : List K) → Shorter k (norm F k r)
  unfolding norm
  norm-shorter zero r = tt
  norm-shorter (suc k) r = go (F.is_zero (get_or r k F.zero)) (F.inv (get_or r k F.zero)) (norm F k r) (norm-shorter k r)
    where
      go : (b : Bool) (x : K) (o : Option (List K)) → Shorter k o → Shorter (suc k) (cond b o (some (map (F.mul x) (take k r))))
      go true x none h = tt
      go true x (some s) h = omega arith
      go false x o h = omega (arith, length-map (take k r) (F.mul x), length-take k r)

  -- more divisions than p has coefficients change nothing
  euclid-enough : (n m : ℕ) (p f : List K) → length p ≤ n → length p ≤ m → euclid F n p f ≡ euclid F m p f
  unfolding euclid norm
  euclid-enough zero zero p f a b = refl
  euclid-enough zero (suc m) [] f a b = refl
  euclid-enough zero (suc m) (c ∷ p) f a b = absurd (not-suc-le-zero a)
  euclid-enough (suc n) zero [] f a b = refl
  euclid-enough (suc n) zero (c ∷ p) f a b = absurd (not-suc-le-zero b)
  euclid-enough (suc n) (suc m) p f a b = go (norm F (length p) (rem F p f)) (norm-shorter (length p) (rem F p f)) (euclid-enough n m)
    where
      go : (o : Option (List K)) → Shorter (length p) o → ((r g : List K) → length r ≤ n → length r ≤ m → euclid F n r g ≡ euclid F m r g)
          → Option-elim o p (λ r. euclid F n r (monic F p)) ≡ Option-elim o p (λ r. euclid F m r (monic F p))
      go none h rec = refl
      go (some r) h rec = rec r (monic F p) (omega arith) (omega arith)

  pub gcd-unroll : (p f : List K) → gcd F p f ≡ Option-elim (norm F (length p) (rem F p f)) p (λ r. gcd F r (monic F p))
  unfolding gcd euclid
  gcd-unroll p f = euclid-enough (length p) (suc (length p)) p f (omega arith) (omega arith) ∙ go (norm F (length p) (rem F p f)) (norm-shorter (length p) (rem F p f))
    where
      go : (o : Option (List K)) → Shorter (length p) o
          → Option-elim o p (λ r. euclid F (length p) r (monic F p)) ≡ Option-elim o p (λ r. euclid F (length r) r (monic F p))
      go none h = refl
      go (some r) h = euclid-enough (length p) (length r) r (monic F p) (omega arith) (omega arith)

  length-euclid : (n : ℕ) (p f : List K) → length (euclid F n p f) ≤ length p
  unfolding euclid
  length-euclid zero p f = omega arith
  length-euclid (suc n) p f = go (norm F (length p) (rem F p f)) (norm-shorter (length p) (rem F p f)) (length-euclid n)
    where
      go : (o : Option (List K)) → Shorter (length p) o → ((r g : List K) → length (euclid F n r g) ≤ length r)
          → length (Option-elim o p (λ r. euclid F n r (monic F p))) ≤ length p
      go none h rec = omega arith
      go (some r) h rec = omega (arith, rec r (monic F p))

  pub length-gcd : (p f : List K) → length (gcd F p f) ≤ length p
  unfolding gcd
  length-gcd p f = length-euclid (length p) p f

  pub length-cofactor : (p g : List K) → length (cofactor F p g) ≡ length p - length g
  unfolding cofactor
  length-cofactor p g = length-take-le _ _ (simp length-quo (omega (arith, length-monic p)))

  pub length-parts : (p t : List K) → length (gcd F p t) + length (cofactor F p (gcd F p t)) ≡ length p
  length-parts p t = omega (arith, length-gcd p t, length-cofactor p (gcd F p t))
