-- The gcd of a cubic with another polynomial, as the code comes to it.
--   power-asks              what a remainder by the cubic asks
--   with-z                  z^(2^m) + z, modulo the cubic: 1 is added at place 1
--   split-asks, split-is    the gcd with z^(2^m) + z
--   part-asks, part-is      the gcd with Tr(bz)
-- Assumes nothing.
use mathlib.Core.Path.{◌≡◌, sym, ap, ap₂, ◌∙◌, subst}
use mathlib.Core.List.{List, [], ◌∷◌}
use Prim.Native.Nat.{ℕ, ◌-◌, ◌^◌, ◌<◌}
use native.Mathlib.Omega.{arith}
use lib.Bits.{bit_xor, xor_zero_r}
use lib.ListN.{length, get_or, set, replicate, length-set}
use Rattle.algebra.specs.Field.{OnNumbers}
use Rattle.algebra.specs.Polynomial.{Below, add, field_poly, trace_of}
use Rattle.algebra.specs.Routines.{gcd, rem, frobenius_mod, trace_mod}
use Rattle.algebra.proofs.Lengths.{length-rem, length-frobenius_mod}
use Rattle.algebra.proofs.StaysBelow.{add-below, rem_below, frobenius_mod-below, trace_mod-below}
use Rattle.algebra.proofs.NumberSteps.{field-run, trace-run}
use Rattle.field.specs.Field.{G}
use Rattle.poly.specs.Lent.{Lent}
use Rattle.poly_powers.specs.Asking.{Startable}
use Rattle.poly_gcd.specs.Asking.{Commonable}
use Rattle.poly_gcd.specs.Euclid.{GcdIs}
use Rattle.poly.proofs.Logs.{numbers_of}
use Rattle.poly.proofs.Divisions.{rem-short}
use Rattle.poly_small.specs.Parting.{Cubic, GcdOf}

-- 1 added at place 1
add-z : (m : ℕ) (w : List ℕ) → length w ≡ 3 → set w 1 (bit_xor (get_or w 1 0) 1) ≡ add (G m) w (0 ∷ 1 ∷ 0 ∷ [])
unfolding add
add-z m [] e = absurd (omega arith)
add-z m (x ∷ []) e = absurd (omega arith)
add-z m (x ∷ y ∷ []) e = absurd (omega arith)
add-z m (x ∷ y ∷ z ∷ []) e = ap₂ (λ u v. u ∷ bit_xor y 1 ∷ v ∷ []) (sym (xor_zero_r x)) (sym (xor_zero_r z))
add-z m (x ∷ y ∷ z ∷ t ∷ w) e = absurd (omega arith)

module _ {m : ℕ} {ls ts p g : List ℕ} (l : Lent m ls ts) (c : Cubic m p g) where
  -- the field's laws
  N : OnNumbers (G m) (2 ^ m)
  N = numbers_of l

  -- what the gcd asks
  gcd-asks : {t : List ℕ} → length t ≡ 3 → Below (2 ^ m) t → Commonable m p t g
  gcd-asks long h = let three = c.three in
      record { small-p = c.small; small-t = h; few-p = omega arith; few-t = omega arith; room = omega (arith, c.room) }

  -- what it leaves
  gcd-out : {u t g' : List ℕ} {n : ℕ} → gcd (G m) p u ≡ gcd (G m) p t → GcdIs m p u n g' → GcdOf m p t n g'
  gcd-out s i = record { count = omega (arith, i.count, c.three); low = i.low ∙ s }

  -- ---- the part that splits

  -- z, modulo the cubic
  abbrev z : List ℕ
  z = rem (G m) p (0 ∷ 1 ∷ [])

  -- it is shorter than the cubic
  z-is : z ≡ 0 ∷ 1 ∷ 0 ∷ []
  z-is = rem-short l p (0 ∷ 1 ∷ []) (omega (arith, c.three)) ∙ ap (λ n. 0 ∷ 1 ∷ replicate (n - 2) 0) c.three

  -- its coefficients are elements
  z-below : Below (2 ^ m) z
  z-below = rem_below N p (0 ∷ 1 ∷ []) c.small (N.zero-below, (N.one_below, tt))

  -- z^(2^m), modulo the cubic, is as long as the cubic
  power-long : {w : List ℕ} → w ≡ frobenius_mod (G m) p m z → length w ≡ 3
  power-long e = ap length e ∙ length-frobenius_mod (G m) p m z (length-rem (G m) p (0 ∷ 1 ∷ [])) ∙ c.three

  -- z is added
  with-z : {w : List ℕ} → w ≡ frobenius_mod (G m) p m z → set w 1 (bit_xor (get_or w 1 0) 1) ≡ add (G m) (frobenius_mod (G m) p m z) z
  with-z {w} e = add-z m w (power-long e) ∙ ap₂ (add (G m)) e (sym z-is)

  -- what the gcd with z^(2^m) + z asks
  pub split-asks : {w : List ℕ} → w ≡ frobenius_mod (G m) p m z → Commonable m p (set w 1 (bit_xor (get_or w 1 0) 1)) g
  split-asks {w} k =
      gcd-asks (length-set w 1 _ ∙ power-long k)
      (subst (Below (2 ^ m)) (sym (with-z k)) (add-below N (frobenius_mod (G m) p m z) z (frobenius_mod-below N p m z c.small z-below) z-below))

  -- and what it is
  pub split-is : {w g' : List ℕ} {n : ℕ} → w ≡ frobenius_mod (G m) p m z → GcdIs m p (set w 1 (bit_xor (get_or w 1 0) 1)) n g' → GcdOf m p (field_poly (G m) m) n g'
  split-is k i = gcd-out (ap (gcd (G m) p) (with-z k) ∙ sym (field-run N m p c.small)) i

  -- what a remainder by the cubic asks
  pub power-asks : {w : List ℕ} → length w ≡ 3 → Startable m p w
  power-asks long = let three = c.three in record { small = c.small; few = omega arith; room = omega arith }

  -- ---- the part at a level

  module _ {b : ℕ} {t : List ℕ} (h : b < 2 ^ m) (k : t ≡ trace_mod (G m) p m (rem (G m) p (0 ∷ b ∷ []))) where
    -- what the gcd with Tr(bz) asks
    pub part-asks : length t ≡ 3 → Commonable m p t g
    part-asks long =
        gcd-asks long
        (subst (Below (2 ^ m)) (sym k)
        (trace_mod-below N p m (rem (G m) p (0 ∷ b ∷ [])) c.small (rem_below N p (0 ∷ b ∷ []) c.small (N.zero-below, (h, tt)))))

    -- and what it is
    pub part-is : {g' : List ℕ} {n : ℕ} → GcdIs m p t n g' → GcdOf m p (trace_of (G m) m b) n g'
    part-is i = gcd-out (ap (gcd (G m) p) k ∙ sym (trace-run N m b h p c.small)) i
