-- Products of powers of z + r over several elements r, and a cofactor, over an abstract field.
--   spread-from, spread-to   the elements of a spread list are those that were spread, where each stands at least once
--   spread-length    its length is the sum of the numbers
--   spread-below     and elements stay elements
--   exact-power      where f = (z + r)^e g and g(r) is not 0, e is the multiplicity of r in f
--   product-root     where the cofactor has no root, the roots of the product are the elements
--   product-times    and the numbers beside them are their multiplicities
-- Assumes nothing.
use mathlib.Core.Path.{◌∙◌, ◌≡◌, ap, ap₂, refl, sym}
use mathlib.Core.Logic.{◌↔◌, ◌≢◌, ⊎_elim}
use mathlib.Core.List.Memᴰ
use mathlib.Core.List.{List, Memᴰ, [], ◌++◌, ◌∷◌, map}
use Prim.Native.Nat.{◌+◌, ◌≤◌, suc, zero, ℕ}
use native.Mathlib.Decide.{dec_le}
use native.Mathlib.Omega.{arith}
use lib.ListN.{length, length-append, length-replicate, replicate}
use Rattle.algebra.specs.Field.{Laws, Ops}
use Rattle.algebra.specs.Trial.{All, Distinct}
use Rattle.algebra.specs.Polynomial.{Below, coef, eval, from_roots, linear, mul}
use Rattle.algebra.specs.Multiplicity.{linear_power, multiplicity, total}
use Rattle.algebra.proofs.Elements.{zero-mul, zero-of-product}
use Rattle.algebra.proofs.Series.{nought, times-assoc, times-left-comm, times-nought}
use Rattle.algebra.proofs.Coefficients.{coef-mul}
use Rattle.algebra.proofs.Degree.{monic-cancel}
use Rattle.algebra.proofs.Divisibility.{quotient-exact}
use Rattle.algebra.proofs.Evaluation.{eval-multiple}
use Rattle.algebra.proofs.Factors.{factor-root, from_roots-monic, member-root, root-member}
use Rattle.algebra.proofs.Multiplicity.{from_roots-append, multiplicity-only, multiplicity-other, multiplicity-right}
use Rattle.algebra.proofs.Signs.{signs}
use Rattle.algebra.proofs.StaysBelow.{append-below, replicate-below}
use Rattle.algebra.proofs.Trial.{all-at}
use Rattle.claim_rules.specs.Claims.{spread_out}

-- ---- spread lists

-- what stands in a list of copies
copies : {K : Type 0} (n : ℕ) {x r : K} → Memᴰ x (replicate n r) → x ≡ r
copies zero m = absurd (Memᴰ.not-nil m)
copies (suc n) m = ⊎_elim (λ e. e) (λ i. copies n i) (Memᴰ.cases_cons m)

-- behind others
behind : {K : Type 0} (s : List K) {t : List K} {x : K} → Memᴰ x t → Memᴰ x (s ++ t)
behind [] m = m
behind (y ∷ s) m = Memᴰ.tail (behind s m)

-- whatever stands there was spread
pub spread-from : {K : Type 0} (s : List K) (es : List ℕ) {x : K} → Memᴰ x (spread_out s es) → Memᴰ x s
unfolding spread_out
spread-from [] es m = m
spread-from (r ∷ s) [] m = absurd (Memᴰ.not-nil m)
spread-from (r ∷ s) (e ∷ es) m =
    ⊎_elim (λ i. Memᴰ.head (copies e i)) (λ i. Memᴰ.tail (spread-from s es i)) (Memᴰ.append_cases (replicate e r) m)

-- whatever was spread stands there
pub spread-to : {K : Type 0} (s : List K) (es : List ℕ) {x : K} → length s ≡ length es → All (λ e. 1 ≤ e) es → Memᴰ x s → Memᴰ x (spread_out s es)
unfolding spread_out
spread-to [] es l h m = m
spread-to (r ∷ s) [] l h m = absurd (omega (arith, l))
spread-to (r ∷ s) (zero ∷ es) l h m = absurd (omega (arith, h.0))
spread-to (r ∷ s) (suc e ∷ es) l h m =
    ⊎_elim (λ i. Memᴰ.head i) (λ i. Memᴰ.tail (behind (replicate e r) (spread-to s es (omega (arith, l)) h.1 i))) (Memᴰ.cases_cons m)

-- as many as the numbers say
pub spread-length : {K : Type 0} (s : List K) (es : List ℕ) → length s ≡ length es → length (spread_out s es) ≡ total es
unfolding spread_out total
spread-length [] [] l = refl
spread-length [] (e ∷ es) l = absurd (omega (arith, l))
spread-length (r ∷ s) [] l = absurd (omega (arith, l))
spread-length (r ∷ s) (e ∷ es) l =
    length-append (replicate e r) (spread_out s es) ∙ ap₂ ◌+◌ (length-replicate e r) (spread-length s es (omega (arith, l)))

-- elements stay elements
pub spread-below : (q : ℕ) (s es : List ℕ) → Below q s → Below q (spread_out s es)
unfolding spread_out
spread-below q [] es h = tt
spread-below q (r ∷ s) [] h = tt
spread-below q (r ∷ s) (e ∷ es) h = append-below q (replicate e r) (spread_out s es) (replicate-below q e r h.0) (spread-below q s es h.1)

module _ {K : Type 0} {F : Ops K} (L : Laws F) where
  open signs F use {0#, ◌⊠◌, ◌⊗◌}

  -- ---- one power

  -- f = (z + r)^e g and g(r) is not 0: (z + r)^(e + 1) does not divide f
  pub exact-power : (f g : List K) (r : K) (e : ℕ) → coef F f ≢ nought F → coef F (linear_power F r e) ⊠ coef F g ≡ coef F f → eval F g r ≢ 0#
      → multiplicity F f r ≡ e
  unfolding from_roots
  exact-power f g r e n h z =
      let d : ℕ = multiplicity F f r in
      let p : List K = linear_power F r e in
      let right = multiplicity-right L f r n in
      let least : e ≤ d = (right e).0 (record { quotient = g; exact = coef-mul L p g ∙ h }) in
      elim (dec_le d e) [
        | yes l ↦ omega arith
        | no w ↦
            let i = (right (suc e)).1 (omega arith) in
            let q : List K = i.quotient in
            let whole : coef F p ⊠ coef F (mul F (linear F r) q) ≡ coef F p ⊠ coef F g =
            ap (λ w. coef F p ⊠ w) (coef-mul L (linear F r) q) ∙ times-left-comm L (coef F p) (coef F (linear F r)) (coef F q)
            ∙ sym (times-assoc L (coef F (linear F r)) (coef F p) (coef F q)) ∙ ap (λ w. w ⊠ coef F q) (sym (coef-mul L (linear F r) p))
            ∙ quotient-exact L i ∙ sym h in
            absurd (z (factor-root L r g (record { quotient = q; exact = monic-cancel L (mul F (linear F r) q) g (from_roots-monic L (replicate e r)) whole })))
      ]

  -- ---- a product over several elements, and a cofactor without roots

  module _ (h : List K) (rootless : (x : K) → eval F h x ≢ 0#) where
    -- where the product is 0, so is the part over the elements
    pub product-zero : (p f : List K) (x : K) → coef F p ⊠ coef F h ≡ coef F f → (eval F f x ≡ 0#) ↔ (eval F p x ≡ 0#)
    product-zero p f x e = (
      λ z. zero-of-product L (eval F h x) (eval F p x) (rootless x) (L.mul_comm (eval F h x) (eval F p x) ∙ eval-multiple L p f h x e ∙ z),
      λ z. sym (eval-multiple L p f h x e) ∙ ap (λ y. y ⊗ eval F h x) z ∙ zero-mul L (eval F h x),
    )

    -- the roots of the product are the elements
    pub product-root : (s f : List K) (es : List ℕ) → length s ≡ length es → All (λ e. 1 ≤ e) es
        → coef F (from_roots F (spread_out s es)) ⊠ coef F h ≡ coef F f → (x : K) → Memᴰ x s ↔ (eval F f x ≡ 0#)
    product-root s f es l least e x =
        let p : List K = from_roots F (spread_out s es) in (
          λ m. (product-zero p f x e).1 (root-member L (spread_out s es) x (spread-to s es l least m)),
          λ z. spread-from s es (member-root L (spread_out s es) x ((product-zero p f x e).0 z)),
        )

    -- the numbers beside them are their multiplicities
    pub product-times : (s f : List K) (es : List ℕ) → Distinct s → length s ≡ length es → coef F f ≢ nought F
        → coef F (from_roots F (spread_out s es)) ⊠ coef F h ≡ coef F f → es ≡ map (multiplicity F f) s
    unfolding spread_out
    product-times [] f [] d l n e = refl
    product-times [] f (k ∷ es) d l n e = absurd (omega (arith, l))
    product-times (r ∷ s) f [] d l n e = absurd (omega (arith, l))
    product-times (r ∷ s) f (k ∷ es) d l n e =
        let t : List K = from_roots F (spread_out s es) in
        let g : List K = mul F t h in
        let p : List K = linear_power F r k in
        let whole : coef F p ⊠ coef F g ≡ coef F f =
        ap (λ w. coef F p ⊠ w) (coef-mul L t h) ∙ sym (times-assoc L (coef F p) (coef F t) (coef F h))
        ∙ ap (λ w. w ⊠ coef F h) (sym (from_roots-append L (replicate k r) (spread_out s es))) ∙ e in
        let inner : coef F t ⊠ coef F h ≡ coef F g = sym (coef-mul L t h) in
        let some : coef F g ≢ nought F = λ y. n (sym whole ∙ ap (λ w. coef F p ⊠ w) y ∙ times-nought L (coef F p)) in
        let none : eval F g r ≢ 0# = λ z.
        all-at (λ y. r ≢ y) s d.0 (spread-from s es (member-root L (spread_out s es) r ((product-zero t g r inner).0 z))) refl in
        ap₂ (λ (a : ℕ) (b : List ℕ). a ∷ b) (sym (exact-power f g r k n whole none))
        (product-times s g es d.1 (omega (arith, l)) some inner ∙ others s g whole some d.0)
      where
        -- taking out the power of z + r does not change the others
        others : (s g : List K) → coef F (linear_power F r k) ⊠ coef F g ≡ coef F f → coef F g ≢ nought F → All (λ y. r ≢ y) s
            → map (multiplicity F g) s ≡ map (multiplicity F f) s
        others [] g w i a = refl
        others (x ∷ s) g w i a =
            ap₂ (λ (a : ℕ) (b : List ℕ). a ∷ b)
            (multiplicity-only L f x (multiplicity-other L r x k f g a.0 w (multiplicity-right L g x i)) (multiplicity-right L f x n))
            (others s g w i a.1)
