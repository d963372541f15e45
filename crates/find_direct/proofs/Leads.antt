-- A polynomial that was let in, divided by its leading coefficient.
--   leads         its lower coefficients are then divided by that one
--   coefficient   each is an element;  leading-positive  and the leading one is not 0
--   quadratic-is  of degree 2 it has the roots of z^2 + az + b;  linear-is  of degree 1 the quotient
-- Assumes nothing.
use mathlib.Core.Path.{◌≡◌, refl, sym, ap, ap₂, ◌∙◌}
use mathlib.Core.Logic.{◌≢◌}
use mathlib.Core.Option.{some}
use mathlib.Core.List.{List, [], ◌∷◌, map}
use Prim.Native.Nat.{ℕ, suc, ◌-◌, ◌^◌, ◌≤◌, ◌<◌}
use native.Mathlib.Nat.{not-suc-le-zero, le_of_suc-le-suc}
use native.Mathlib.Omega.{arith}
use lib.ListN.{length, get_or, take}
use Rattle.algebra.specs.Field.{OnNumbers}
use Rattle.algebra.specs.Routines.{norm}
use Rattle.algebra.proofs.StaysBelow.{below_at}
use Rattle.algebra.proofs.RootList.{roots_of-norm, roots_of-one}
use Rattle.field.specs.Field.{field_at, mul, inverse, G, roots_at}
use Rattle.field.specs.Quadratics.{roots_of_quadratic}
use Rattle.poly.proofs.Monics.{norm-skip, norm-lead}
use Rattle.input.proofs.Fields.{known-field}
use Rattle.find_direct.specs.Listing.{Leading}

-- the first one and two of a list
take-one : (f : List ℕ) → 1 ≤ length f → take 1 f ≡ get_or f 0 0 ∷ []
take-one [] h = absurd (not-suc-le-zero h)
take-one (x ∷ f) h = refl

take-two : (f : List ℕ) → 2 ≤ length f → take 2 f ≡ get_or f 0 0 ∷ get_or f 1 0 ∷ []
take-two [] h = absurd (not-suc-le-zero h)
take-two (x ∷ []) h = absurd (not-suc-le-zero (le_of_suc-le-suc h))
take-two (x ∷ y ∷ f) h = refl

module _ {n : ℕ} {f : List ℕ} (g : Leading n f) where
  N : OnNumbers (G 11) (2 ^ 11)
  N = (known-field 11 g.polynomial.field).numbers

  pub leads : (k : ℕ) → n ≡ suc k → norm (G 11) (length f) f ≡ some (map ((G 11).mul ((G 11).inv (get_or f k 0))) (take k f))
  leads k e =
      let nonzero = g.top.nonzero (omega arith) in
      norm-skip 11 f n (length f) g.top.within g.top.above ∙ ap (λ (i : ℕ). norm (G 11) i f) e
      ∙ norm-lead 11 k f (λ z. nonzero (ap (λ (i : ℕ). get_or f i 0) (let h : n - 1 ≡ k = omega arith in h) ∙ z))

  pub coefficient : (i : ℕ) → i < n → get_or f i 0 < 2048
  coefficient i h = below_at (2 ^ 11) f g.polynomial.small i (omega (arith, g.top.within))

  pub leading-positive : (k : ℕ) → n ≡ suc k → 0 < get_or f k 0
  leading-positive k e =
      let nonzero : get_or f k 0 ≢ 0 = λ z. g.top.nonzero (omega arith) (ap (λ (i : ℕ). get_or f i 0) (let h : n - 1 ≡ k = omega arith in h) ∙ z) in
      omega arith

  pub quadratic-is : n ≡ 3 → {v a b : ℕ} → v ≡ inverse (field_at 11) (get_or f 2 0) → a ≡ mul (field_at 11) v (get_or f 1 0)
      → b ≡ mul (field_at 11) v (get_or f 0 0) → roots_of_quadratic (field_at 11) a b ≡ roots_at 11 f
  quadratic-is e {v} {a} {b} ev ea eb =
      let w : ℕ = inverse (field_at 11) (get_or f 2 0) in
      let made : norm (G 11) (length f) f ≡ some (mul (field_at 11) w (get_or f 0 0) ∷ mul (field_at 11) w (get_or f 1 0) ∷ []) =
      leads 2 e ∙ ap (λ (l : List ℕ). some (map ((G 11).mul ((G 11).inv (get_or f 2 0))) l)) (take-two f (omega (arith, g.top.within))) in
      ap₂ (λ (x y : ℕ). roots_of_quadratic (field_at 11) x y) (ea ∙ ap (λ (t : ℕ). mul (field_at 11) t (get_or f 1 0)) ev)
      (eb ∙ ap (λ (t : ℕ). mul (field_at 11) t (get_or f 0 0)) ev)
      ∙ roots_of-norm N f g.polynomial.small made

  pub linear-is : n ≡ 2 → {v x : ℕ} → v ≡ inverse (field_at 11) (get_or f 1 0) → x ≡ mul (field_at 11) v (get_or f 0 0) → roots_at 11 f ≡ x ∷ []
  linear-is e {v} {x} ev ex =
      let w : ℕ = mul (field_at 11) (inverse (field_at 11) (get_or f 1 0)) (get_or f 0 0) in
      let made : norm (G 11) (length f) f ≡ some (w ∷ []) =
      leads 1 e ∙ ap (λ (l : List ℕ). some (map ((G 11).mul ((G 11).inv (get_or f 1 0))) l)) (take-one f (omega (arith, g.top.within))) in
      let below : w < 2 ^ 11 = N.mul-below (inverse (field_at 11) (get_or f 1 0)) (get_or f 0 0)
      (N.inv-below (get_or f 1 0) (coefficient 1 (omega arith))) (coefficient 0 (omega arith)) in
      sym (roots_of-norm N f g.polynomial.small made) ∙ roots_of-one N w below
      ∙ ap (λ (y : ℕ). y ∷ []) (sym (ex ∙ ap (λ (t : ℕ). mul (field_at 11) t (get_or f 0 0)) ev))
