-- The multiplicity of a root, over an abstract field.
--   turn-root, turn-none   one division more, and none
--   quotient_by-divides          where f(r) = 0, f = (z + r) (quotient_by r f)
--   multiplicity-right   how many times z + r can be taken out is the largest e for which (z + r)^e divides f
--   multiplicity-only    there is one such e
--   multiplicity-root    it is at least 1 exactly at the roots
--   multiplicity-same    it depends on the polynomial, and not on the list that holds it
--   multiplicity-scale   nor on a nonzero factor
--   multiplicity-other   taking out (z + r)^j does not change it at another element
--   left-exact           f = (z + r)^e (left f r), with e the multiplicity
--   left-root            and there it is no root
--   taken_out            the multiplicities may be counted one after the other, each taken out
--   factored             the product of (z + r)^e over distinct elements divides f, and none of them is a root of the cofactor
--   total_at_most        the multiplicities add up to at most the degree
--   all-simple           where there are as many distinct roots as the degree, all are 1
--   square-double        the root of z^2 + s^2 is double
-- Assumes nothing.
use mathlib.Core.Path.{◌∙◌, ◌≡◌, ap, ap₂, fun_ext, refl, subst, sym}
use mathlib.Core.Logic.{◌↔◌, ◌≢◌}
use mathlib.Core.Bool.{Bool, cond, false, true}
use mathlib.Core.List.{List, [], ◌++◌, ◌∷◌, map}
use Prim.Native.Nat.{◌+◌, ◌-◌, ◌<◌, ◌≤◌, suc, zero, ℕ}
use native.Mathlib.Nat.{le_of_suc-le-suc, not-suc-le-zero}
use native.Mathlib.Omega.{arith}
use lib.Dec.{T}
use lib.ListN.{length, length-append, length-map, length-replicate, length-take, replicate, take}
use Rattle.algebra.specs.Field.{Laws, Ops}
use Rattle.algebra.specs.Trial.{All, Distinct}
use Rattle.algebra.specs.Polynomial.{coef, eval, from_roots, is_root, linear, mul}
use Rattle.algebra.specs.Routines.{quo, quotient_digit, rem}
use Rattle.algebra.specs.Multiplicity.{IsMultiplicity, left, left_in, linear_power, multiplicities_in, multiplicity, quotient_by, spread, times_out, total}
use Rattle.algebra.proofs.Elements.{equal-of-sum, mul-zero, zero-of-product}
use Rattle.algebra.proofs.Series.{nought, nought-plus, plus_comm, scale, scale_back, starting_with, starting_with-square, times-assoc, times-comm, times-left-comm, times-nought, times-unit, unit}
use Rattle.algebra.proofs.Coefficients.{coef-cons, coef-mul, coef-one, coef-scale, coef-top, coef-zeros, one-times}
use Rattle.algebra.proofs.Evaluation.{eval-linear, eval-multiple}
use Rattle.algebra.proofs.Degree.{Monic, Top, monic-cancel, monic-list, quotient-top}
use Rattle.algebra.proofs.Lengths.{length-quo}
use Rattle.algebra.proofs.Divisibility.{divides-product, divides-scale, divides-self, divides-times, divides-trans, one-divides, quotient-exact}
use Rattle.algebra.proofs.Division.{division-unique}
use Rattle.algebra.proofs.Factors.{factor, factor-root, from_roots-monic}
use Rattle.algebra.proofs.Signs.{signs}

-- ---- lists of numbers

-- numbers from 1 on that add up to no more than there are of them
ones : (l : List ℕ) → All (λ n. 1 ≤ n) l → total l ≤ length l → l ≡ replicate (length l) 1
unfolding total
ones [] h b = refl
ones (n ∷ l) h b =
    let least : length l ≤ total l = many l h.1 in
    let one : n ≡ 1 = omega (arith, h.0) in
    ap₂ (λ (x : ℕ) (y : List ℕ). x ∷ y) one (ones l h.1 (omega (arith, h.0)))
  where
    many : (l : List ℕ) → All (λ n. 1 ≤ n) l → length l ≤ total l
    many [] h = omega arith
    many (n ∷ l) h = omega (arith, h.0, many l h.1)

length-spread : {K : Type 0} (e : K → ℕ) (s : List K) → length (spread e s) ≡ total (map e s)
unfolding spread total
length-spread e [] = refl
length-spread e (r ∷ s) =
    length-append (replicate (e r) r) (spread e s) ∙ ap₂ ◌+◌ (length-replicate (e r) r) (length-spread e s)

-- functions that agree on a list
map-agree : {K : Type 0} (a b : K → ℕ) (s : List K) → All (λ x. a x ≡ b x) s → map a s ≡ map b s
map-agree a b [] h = refl
map-agree a b (x ∷ s) h = ap₂ (λ (n : ℕ) (l : List ℕ). n ∷ l) h.0 (map-agree a b s h.1)

spread-agree : {K : Type 0} (a b : K → ℕ) (s : List K) → All (λ x. a x ≡ b x) s → spread a s ≡ spread b s
unfolding spread
spread-agree a b [] h = refl
spread-agree {K} a b (x ∷ s) h = ap₂ (λ (n : ℕ) (l : List K). replicate n x ++ l) h.0 (spread-agree a b s h.1)

-- what follows of each
each : {K : Type 0} (P Q : K → Type 0) (s : List K) → ((x : K) → P x → Q x) → All P s → All Q s
each P Q [] f h = tt
each P Q (x ∷ s) f h = (f x h.0, each P Q s f h.1)

-- ---- one division, by the definitions alone

module _ {K : Type 0} (F : Ops K) where
  pub length-quotient_by : (r : K) (f : List K) → length (quotient_by F r f) ≡ length f - 1
  unfolding quotient_by
  length-quotient_by r f = simp (length-take, length-quo F) (omega arith)

  -- where r is a root, z + r is taken out once more
  pub turn-root : (f : List K) (r : K) → 0 < length f → is_root F f r ≡ true
      → (multiplicity F f r ≡ suc (multiplicity F (quotient_by F r f) r)) × (left F f r ≡ left F (quotient_by F r f) r)
  unfolding times_out left_in
  turn-root [] r l e = absurd (not-suc-le-zero l)
  turn-root (c ∷ f) r l e =
      let g : List K = quotient_by F r (c ∷ f) in
      let n : length f ≡ length g = omega (arith, length-quotient_by r (c ∷ f)) in (
        ap (λ b. cond b (suc (times_out F (length f) g r)) 0) e ∙ ap (λ k. suc (times_out F k g r)) n,
        ap (λ b. cond b (left_in F (length f) g r) (c ∷ f)) e ∙ ap (λ k. left_in F k g r) n,
      )

  -- where it is none, nothing is
  pub turn-none : (f : List K) (r : K) → is_root F f r ≡ false → (multiplicity F f r ≡ 0) × (left F f r ≡ f)
  unfolding times_out left_in
  turn-none [] r e = (refl, refl)
  turn-none (c ∷ f) r e =
      let g : List K = quotient_by F r (c ∷ f) in
      (ap (λ b. cond b (suc (times_out F (length f) g r)) 0) e, ap (λ b. cond b (left_in F (length f) g r) (c ∷ f)) e)

module _ {K : Type 0} {F : Ops K} (L : Laws F) where
  open signs F use {0#, 1#, ◌⊕◌, ◌⊗◌, ◌⊞◌, ◌⊠◌, ◌∣◌}
  open L use {zero_test}

  -- ---- the quotient by z + r

  -- the digit at the top is 0
  last-digit : (r c : K) (f : List K) → quo F (r ∷ []) (c ∷ f) ≡ take (length f) (quo F (r ∷ []) (c ∷ f)) ++ 0# ∷ []
  unfolding quo rem quotient_digit
  last-digit r c [] = refl
  last-digit r c (d ∷ f) = ap (λ l. quotient_digit F (r ∷ []) c (rem F (r ∷ []) (d ∷ f)) ∷ l) (last-digit r d f)

  shorter : (r : K) (f : List K) → coef F (quotient_by F r f) ≡ coef F (quo F (r ∷ []) f)
  unfolding quotient_by quo
  shorter r [] = refl
  shorter r (c ∷ f) =
      let n : suc (length f) - 1 ≡ length f = omega arith in
      ap (λ k. coef F (take k (quo F (r ∷ []) (c ∷ f)))) n ∙ sym (ap (coef F) (last-digit r c f) ∙ coef-top L (take (length f) (quo F (r ∷ []) (c ∷ f))) 1)

  -- where f(r) = 0, f = (z + r) (quotient_by r f)
  pub quotient_by-divides : (r : K) (f : List K) → eval F f r ≡ 0# → coef F (linear F r) ⊠ coef F (quotient_by F r f) ≡ coef F f
  quotient_by-divides r f z =
      let h : linear F r ∣ coef F f = factor L r f z in
      let whole : coef F f ≡ coef F (linear F r) ⊠ coef F h.quotient ⊞ coef F (0# ∷ []) =
      sym (ap (λ w. coef F (linear F r) ⊠ coef F h.quotient ⊞ w) (coef-zeros L 1) ∙ plus_comm L _ _ ∙ nought-plus L _ ∙ quotient-exact L h) in
      let same : coef F h.quotient ≡ coef F (quo F (r ∷ []) f) = (division-unique L (r ∷ []) f h.quotient (0# ∷ []) refl whole).0 in
      ap (λ w. coef F (linear F r) ⊠ w) (shorter r f ∙ sym same) ∙ quotient-exact L h

  -- ---- powers of z + r

  power-monic : (r : K) (k : ℕ) → Monic F (coef F (linear_power F r k)) k
  power-monic r k = subst (λ n. Monic F (coef F (linear_power F r k)) n) (length-replicate k r) (from_roots-monic L (replicate k r))

  -- (z + r)^(k + 1) divides (z + r) g exactly where (z + r)^k divides g
  power-step : (r : K) (k : ℕ) (f g : List K) → coef F (linear F r) ⊠ coef F g ≡ coef F f
      → (linear_power F r (suc k) ∣ coef F f) ↔ (linear_power F r k ∣ coef F g)
  unfolding from_roots
  power-step r k f g e = (down, up)
    where
      p : List K
      p = linear_power F r k

      down : mul F (linear F r) p ∣ coef F f → p ∣ coef F g
      down h = record {
        quotient = h.quotient;
        exact = monic-cancel L (mul F p h.quotient) g (monic-list L (r ∷ []))
            (ap (λ w. coef F (linear F r) ⊠ w) (coef-mul L p h.quotient) ∙ sym (times-assoc L (coef F (linear F r)) (coef F p) (coef F h.quotient))
            ∙ ap (λ w. w ⊠ coef F h.quotient) (sym (coef-mul L (linear F r) p)) ∙ quotient-exact L h ∙ sym e);
      }

      up : p ∣ coef F g → mul F (linear F r) p ∣ coef F f
      up h = divides-product L (linear F r) p (record { quotient = g; exact = coef-mul L (linear F r) g ∙ e }) h

  -- z + r divides what its power divides
  power-root : (r : K) (k : ℕ) (f : List K) → linear_power F r (suc k) ∣ coef F f → eval F f r ≡ 0#
  unfolding from_roots
  power-root r k f h =
      factor-root L r f (divides-trans L (mul F (linear F r) (linear_power F r k))
      (record { quotient = linear_power F r k; exact = refl }) h)

  none-divides : (r : K) (f : List K) → linear_power F r 0 ∣ coef F f
  unfolding from_roots
  none-divides r f = one-divides L f

  -- ---- it is the multiplicity

  -- at most n are tried
  tried-right : (n : ℕ) (f : List K) (r : K) → length f ≤ n → coef F f ≢ nought F → IsMultiplicity F f r (times_out F n f r)
  unfolding times_out
  tried-right zero [] r l z = absurd (z refl)
  tried-right zero (c ∷ f) r l z = absurd (not-suc-le-zero l)
  tried-right (suc n) f r l z = go (F.is_zero (eval F f r)) (zero_test (eval F f r)) (tried-right n (quotient_by F r f) r (omega (arith, length-quotient_by F r f)))
    where
      g : List K
      g = quotient_by F r f

      go : (b : Bool) → T b ↔ (eval F f r ≡ 0#) → (coef F g ≢ nought F → IsMultiplicity F g r (times_out F n g r))
          → IsMultiplicity F f r (cond b (suc (times_out F n g r)) 0)
      go false t rec zero = (λ h. omega arith, λ h. none-divides r f)
      go false t rec (suc k) = (λ h. absurd (t.1 (power-root r k f h)), λ h. absurd (not-suc-le-zero h))
      go true t rec zero = (λ h. omega arith, λ h. none-divides r f)
      go true t rec (suc k) =
          let e : coef F (linear F r) ⊠ coef F g ≡ coef F f = quotient_by-divides r f (t.0 tt) in
          let i = rec (λ y. z (sym e ∙ ap (λ w. coef F (linear F r) ⊠ w) y ∙ times-nought L (coef F (linear F r)))) k in
          let s = power-step r k f g e in
          (λ h. let b : k ≤ times_out F n g r = i.0 (s.0 h) in omega arith, λ h. s.1 (i.1 (le_of_suc-le-suc h)))

  -- how many times z + r can be taken out is the largest e for which (z + r)^e divides f
  pub multiplicity-right : (f : List K) (r : K) → coef F f ≢ nought F → IsMultiplicity F f r (multiplicity F f r)
  multiplicity-right f r z = tried-right (length f) f r (omega arith) z

  -- there is one such e
  pub multiplicity-only : (f : List K) (r : K) {e d : ℕ} → IsMultiplicity F f r e → IsMultiplicity F f r d → e ≡ d
  multiplicity-only f r {e} {d} a b =
      let up : e ≤ d = (b e).0 ((a e).1 (omega arith)) in
      let down : d ≤ e = (a d).0 ((b d).1 (omega arith)) in
      omega arith

  -- it is at least 1 exactly at the roots
  pub multiplicity-root : (f : List K) (r : K) {e : ℕ} → IsMultiplicity F f r e → (1 ≤ e) ↔ (eval F f r ≡ 0#)
  multiplicity-root f r {e} a = (
    λ h. power-root r 0 f ((a 1).1 h),
    λ z. let g : List K = quotient_by F r f in (a 1).0 ((power-step r 0 f g (quotient_by-divides r f z)).1 (none-divides r g)),
  )

  -- it depends on the polynomial, and not on the list that holds it
  pub multiplicity-same : (f g : List K) (r : K) {e : ℕ} → coef F f ≡ coef F g → IsMultiplicity F f r e → IsMultiplicity F g r e
  multiplicity-same f g r {e} s a k = subst (λ w. (linear_power F r k ∣ w) ↔ (k ≤ e)) s (a k)

  -- nor on a nonzero factor
  pub multiplicity-scale : (c : K) (f : List K) (r : K) {e : ℕ} → c ≢ 0# → IsMultiplicity F f r e → IsMultiplicity F (map (F.mul c) f) r e
  multiplicity-scale c f r {e} n a k =
      subst (λ w. (linear_power F r k ∣ w) ↔ (k ≤ e)) (sym (coef-scale L c f))
      (λ h. (a k).0 (subst (λ w. linear_power F r k ∣ w) (scale_back L c (coef F f) n) (divides-scale L (F.inv c) h)), λ h. divides-scale L c ((a k).1 h))

  -- which does not make it 0
  pub scaled-nonzero : (c : K) (f : List K) → c ≢ 0# → coef F f ≢ nought F → coef F (map (F.mul c) f) ≢ nought F
  unfolding scale
  scaled-nonzero c f n z y =
      z (sym (scale_back L c (coef F f) n) ∙ ap (scale F (F.inv c)) (sym (coef-scale L c f) ∙ y) ∙ fun_ext λ k. mul-zero L (F.inv c))

  -- ---- what is left

  -- the same for at most n
  tried-exact : (n : ℕ) (f : List K) (r : K) → coef F (linear_power F r (times_out F n f r)) ⊠ coef F (left_in F n f r) ≡ coef F f
  unfolding times_out left_in from_roots
  tried-exact zero f r = one-times L (coef F f)
  tried-exact (suc n) f r = go (F.is_zero (eval F f r)) (zero_test (eval F f r)) (tried-exact n (quotient_by F r f) r)
    where
      g : List K
      g = quotient_by F r f

      go : (b : Bool) → T b ↔ (eval F f r ≡ 0#) → coef F (linear_power F r (times_out F n g r)) ⊠ coef F (left_in F n g r) ≡ coef F g
          → coef F (linear_power F r (cond b (suc (times_out F n g r)) 0)) ⊠ coef F (cond b (left_in F n g r) f) ≡ coef F f
      go false t rec = one-times L (coef F f)
      go true t rec =
          ap (λ w. w ⊠ coef F (left_in F n g r)) (coef-mul L (linear F r) (linear_power F r (times_out F n g r)))
          ∙ times-assoc L (coef F (linear F r)) (coef F (linear_power F r (times_out F n g r))) (coef F (left_in F n g r))
          ∙ ap (λ w. coef F (linear F r) ⊠ w) rec ∙ quotient_by-divides r f (t.0 tt)

  -- f = (z + r)^e (left f r), with e the multiplicity
  pub left-exact : (f : List K) (r : K) → coef F (linear_power F r (multiplicity F f r)) ⊠ coef F (left F f r) ≡ coef F f
  left-exact f r = tried-exact (length f) f r

  pub left-nonzero : (f : List K) (r : K) → coef F f ≢ nought F → coef F (left F f r) ≢ nought F
  left-nonzero f r z y = z (sym (left-exact f r) ∙ ap (λ w. coef F (linear_power F r (multiplicity F f r)) ⊠ w) y ∙ times-nought L _)

  -- and there it is no root
  pub left-root : (f : List K) (r : K) → coef F f ≢ nought F → eval F (left F f r) r ≢ 0#
  unfolding from_roots
  left-root f r n z =
      let e : ℕ = multiplicity F f r in
      let p : List K = linear_power F r e in
      let g : List K = quotient_by F r (left F f r) in
      let h : coef F (mul F (linear F r) p) ⊠ coef F g ≡ coef F f =
      ap (λ w. w ⊠ coef F g) (coef-mul L (linear F r) p) ∙ times-assoc L (coef F (linear F r)) (coef F p) (coef F g)
      ∙ times-left-comm L (coef F (linear F r)) (coef F p) (coef F g) ∙ ap (λ w. coef F p ⊠ w) (quotient_by-divides r (left F f r) z) ∙ left-exact f r in
      let more : suc e ≤ e = (multiplicity-right f r n (suc e)).0 (record { quotient = g; exact = coef-mul L (mul F (linear F r) p) g ∙ h }) in
      omega arith

  -- ---- at another element

  -- the other roots of (z + r) g are roots of g
  other-root : (r s : K) (f g : List K) → r ≢ s → coef F (linear F r) ⊠ coef F g ≡ coef F f → eval F f s ≡ 0# → eval F g s ≡ 0#
  other-root r s f g d e z =
      zero-of-product L (r ⊕ s) (eval F g s) (λ y. d (equal-of-sum L r s y))
      (ap (λ w. w ⊗ eval F g s) (sym (eval-linear L r s)) ∙ eval-multiple L (linear F r) f g s e ∙ z)

  -- (z + s)^k and z + r have no common factor
  other-divides : (r s : K) → r ≢ s → (k : ℕ) (f g : List K) → coef F (linear F r) ⊠ coef F g ≡ coef F f
      → linear_power F s k ∣ coef F f → linear_power F s k ∣ coef F g
  other-divides r s d zero f g e h = none-divides s g
  other-divides r s d (suc k) f g e h =
      let u : List K = quotient_by F s g in
      let v : List K = mul F (linear F r) u in
      let a : coef F (linear F s) ⊠ coef F u ≡ coef F g = quotient_by-divides s g (other-root r s f g d e (power-root s k f h)) in
      let b : coef F (linear F r) ⊠ coef F u ≡ coef F v = sym (coef-mul L (linear F r) u) in
      let c : coef F (linear F s) ⊠ coef F v ≡ coef F f =
      ap (λ w. coef F (linear F s) ⊠ w) (sym b) ∙ times-left-comm L (coef F (linear F s)) (coef F (linear F r)) (coef F u)
      ∙ ap (λ w. coef F (linear F r) ⊠ w) a ∙ e in
      (power-step s k g u a).1 (other-divides r s d k v u b ((power-step s k f v c).0 h))

  other_step : (r s : K) (f g : List K) {e : ℕ} → r ≢ s → coef F (linear F r) ⊠ coef F g ≡ coef F f → IsMultiplicity F g s e → IsMultiplicity F f s e
  other_step r s f g d e a k = (
    λ h. (a k).0 (other-divides r s d k f g e h),
    λ h. subst (λ w. linear_power F s k ∣ w) (times-comm L (coef F g) (coef F (linear F r)) ∙ e) (divides-times L (linear F r) ((a k).1 h)),
  )

  -- taking out (z + r)^j does not change it at another element
  pub multiplicity-other : (r s : K) (j : ℕ) (f g : List K) {e : ℕ} → r ≢ s → coef F (linear_power F r j) ⊠ coef F g ≡ coef F f
      → IsMultiplicity F g s e → IsMultiplicity F f s e
  unfolding from_roots
  multiplicity-other r s zero f g d e a = multiplicity-same g f s (sym (one-times L (coef F g)) ∙ e) a
  multiplicity-other r s (suc j) f g d e a =
      let p : List K = linear_power F r j in
      let u : List K = mul F p g in
      let b : coef F (linear F r) ⊠ coef F u ≡ coef F f =
      ap (λ w. coef F (linear F r) ⊠ w) (coef-mul L p g) ∙ sym (times-assoc L (coef F (linear F r)) (coef F p) (coef F g))
      ∙ ap (λ w. w ⊠ coef F g) (sym (coef-mul L (linear F r) p)) ∙ e in
      other_step r s f u d b (multiplicity-other r s j u g d (sym (coef-mul L p g)) a)

  -- so what is left has the same at every other element
  left_other : (f : List K) (r s : K) → coef F f ≢ nought F → r ≢ s → multiplicity F (left F f r) s ≡ multiplicity F f s
  left_other f r s n d =
      multiplicity-only f s
      (multiplicity-other r s (multiplicity F f r) f (left F f r) d (left-exact f r) (multiplicity-right (left F f r) s (left-nonzero f r n)))
      (multiplicity-right f s n)

  left-others : (f s : List K) (r : K) → coef F f ≢ nought F → All (λ x. r ≢ x) s → All (λ x. multiplicity F (left F f r) x ≡ multiplicity F f x) s
  left-others f s r n h = each (λ x. r ≢ x) (λ x. multiplicity F (left F f r) x ≡ multiplicity F f x) s (λ x d. left_other f r x n d) h

  -- ---- over distinct elements

  -- the multiplicities may be counted one after the other, each taken out
  pub taken_out : (s f : List K) → Distinct s → coef F f ≢ nought F → multiplicities_in F f s ≡ map (multiplicity F f) s
  unfolding multiplicities_in
  taken_out [] f d n = refl
  taken_out (r ∷ s) f d n =
      ap (λ (l : List ℕ). multiplicity F f r ∷ l)
      (taken_out s (left F f r) d.1 (left-nonzero f r n)
      ∙ map-agree (multiplicity F (left F f r)) (multiplicity F f) s (left-others f s r n d.0))

  -- a product over two lists
  pub from_roots-append : (s t : List K) → coef F (from_roots F (s ++ t)) ≡ coef F (from_roots F s) ⊠ coef F (from_roots F t)
  unfolding from_roots
  from_roots-append [] t = sym (one-times L (coef F (from_roots F t)))
  from_roots-append (r ∷ s) t =
      coef-mul L (linear F r) (from_roots F (s ++ t)) ∙ ap (λ w. coef F (linear F r) ⊠ w) (from_roots-append s t)
      ∙ sym (ap (λ w. w ⊠ coef F (from_roots F t)) (coef-mul L (linear F r) (from_roots F s))
      ∙ times-assoc L (coef F (linear F r)) (coef F (from_roots F s)) (coef F (from_roots F t)))

  -- the product of (z + r)^e over distinct elements divides f, and none of them is a root of the cofactor
  pub factored : (s f : List K) → Distinct s → coef F f ≢ nought F
      → (g : List K) × (coef F (from_roots F (spread (multiplicity F f) s)) ⊠ coef F g ≡ coef F f) × All (λ r. eval F g r ≢ 0#) s
  unfolding spread from_roots
  factored [] f d n = (f, one-times L (coef F f), tt)
  factored (r ∷ s) f d n =
      let u : List K = left F f r in
      let k = factored s u d.1 (left-nonzero f r n) in
      let g : List K = k.0 in
      let p : List K = linear_power F r (multiplicity F f r) in
      let t : List K = from_roots F (spread (multiplicity F f) s) in
      let e : coef F t ⊠ coef F g ≡ coef F u =
      ap (λ l. coef F (from_roots F l) ⊠ coef F g) (sym (spread-agree (multiplicity F u) (multiplicity F f) s (left-others f s r n d.0))) ∙ k.1 in (
        g,
        ap (λ w. w ⊠ coef F g) (from_roots-append (replicate (multiplicity F f r) r) (spread (multiplicity F f) s))
            ∙ times-assoc L (coef F p) (coef F t) (coef F g) ∙ ap (λ w. coef F p ⊠ w) e ∙ left-exact f r,
        ((λ z. left-root f r n (sym (eval-multiple L t u g r e) ∙ ap (λ w. eval F t r ⊗ w) z ∙ mul-zero L (eval F t r))), k.2),
      )

  -- the multiplicities add up to at most the degree
  pub total_at_most : (s f : List K) {n : ℕ} {c : K} → Distinct s → Top F (coef F f) n c → c ≢ 0# → total (map (multiplicity F f) s) ≤ n
  total_at_most s f {n} {c} d t z =
      let k = factored s f d (λ y. z (sym t.at ∙ ap (λ w. w n) y)) in
      let q = quotient-top L k.0 (from_roots-monic L (spread (multiplicity F f) s)) k.1 t z in
      omega (arith, q.1, length-spread (multiplicity F f) s)

  -- where there are as many distinct roots as the degree, all are 1
  pub all-simple : (s f : List K) {n : ℕ} {c : K} → Distinct s → All (λ r. eval F f r ≡ 0#) s → Top F (coef F f) n c → c ≢ 0# → length s ≡ n
      → map (multiplicity F f) s ≡ replicate (length s) 1
  all-simple s f {n} {c} d h t z e =
      let y : coef F f ≢ nought F = λ y. z (sym t.at ∙ ap (λ w. w n) y) in
      let m : length (map (multiplicity F f) s) ≡ length s = length-map s (multiplicity F f) in
      ones (map (multiplicity F f) s) (least s (each (λ r. eval F f r ≡ 0#) (λ r. 1 ≤ multiplicity F f r) s (λ r x. (multiplicity-root f r (multiplicity-right f r y)).1 x) h))
      (omega (arith, total_at_most s f d t z)) ∙ ap (λ k. replicate k 1) m
    where
      least : (s : List K) → All (λ r. 1 ≤ multiplicity F f r) s → All (λ k. 1 ≤ k) (map (multiplicity F f) s)
      least [] h = tt
      least (r ∷ s) h = (h.0, least s h.1)

  -- ---- z^2 + s^2

  square-coef : (s : K) → coef F (linear_power F s 2) ≡ coef F (s ⊗ s ∷ 0# ∷ 1# ∷ [])
  unfolding from_roots
  square-coef s =
      let lin : coef F (linear F s) ≡ starting_with s (unit F) = coef-cons L s (1# ∷ []) ∙ ap (starting_with s) (coef-one L) in
      coef-mul L (linear F s) (mul F (linear F s) (1# ∷ []))
      ∙ ap (λ w. coef F (linear F s) ⊠ w) (coef-mul L (linear F s) (1# ∷ []) ∙ ap (λ w. coef F (linear F s) ⊠ w) (coef-one L) ∙ times-unit L (coef F (linear F s)))
      ∙ ap (λ w. w ⊠ w) lin ∙ starting_with-square L s (unit F) ∙ ap (λ w. starting_with (s ⊗ s) (starting_with 0# w)) (times-unit L (unit F))
      ∙ sym (coef-cons L (s ⊗ s) (0# ∷ 1# ∷ []) ∙ ap (starting_with (s ⊗ s)) (coef-cons L 0# (1# ∷ []) ∙ ap (starting_with 0#) (coef-one L)))

  -- the root of z^2 + s^2 is double
  pub square-double : (s b : K) → s ⊗ s ≡ b → multiplicity F (b ∷ 0# ∷ 1# ∷ []) s ≡ 2
  unfolding total
  square-double s b e =
      let f : List K = b ∷ 0# ∷ 1# ∷ [] in
      let t : Monic F (coef F f) 2 = monic-list L (b ∷ 0# ∷ []) in
      let most : multiplicity F f s + 0 ≤ 2 = total_at_most (s ∷ []) f (tt, tt) t L.one≢zero in
      let least : 2 ≤ multiplicity F f s = (multiplicity-right f s (λ y. L.one≢zero (sym t.at ∙ ap (λ w. w 2) y)) 2).0
      (subst (λ w. linear_power F s 2 ∣ w) (square-coef s ∙ ap (λ c. coef F (c ∷ 0# ∷ 1# ∷ [])) e) (divides-self L (linear_power F s 2))) in
      omega arith
