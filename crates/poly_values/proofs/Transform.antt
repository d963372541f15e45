-- The transform's law: it gives the values at the points of the coset, in order.
--   take-add, take-map     sums and multiples of lists, taken apart
--   value-add, value-scaled   the value of a sum and of a multiple
--   transform-agree                  two functions that are equal where a map has one value, at the points of a coset
--   transform-values       the law: the transform of coefficients gives the values at the points, in order
-- Assumes nothing.
use mathlib.Core.Path.{◌≡◌, refl, sym, ap, ap₂, ◌∙◌}
use mathlib.Core.List.{List, [], ◌∷◌, ◌++◌, map, map-append}
use Prim.Native.Nat.{ℕ, zero, suc, ◌+◌, ◌^◌}
use native.Mathlib.Omega.{arith}
use native.Mathlib.Nat.{pow-suc}
use lib.ListN.{get_or, length, take, drop, length-take, length-drop, length-map}
use Rattle.algebra.specs.Field.{Ops, Laws}
use Rattle.algebra.specs.Polynomial.{add}
use Rattle.algebra.proofs.Elements as S
use Rattle.poly_values.specs.Transform.{Level, width, Additive, Vanishes, Levels, points, value, scaled, lower, transform, mults}

module _ {K : Type 0} {F : Ops K} (laws : Laws F) where
  infixl 60 ◌⊕◌
  infixl 70 ◌⊗◌
  open F use {zero as 0#, one as 1#, add as ◌⊕◌, mul as ◌⊗◌}
  open laws use {add_comm, add_assoc, zero-add, mul_comm, mul_assoc, one-mul, mul-add}

  -- ---- sums and multiples of lists, taken apart

  pub take-add : (n : ℕ) (a b : List K) → take n (add F a b) ≡ add F (take n a) (take n b)
  unfolding add
  take-add zero a b = refl
  take-add (suc n) [] b = refl
  take-add (suc n) (x ∷ a) [] = refl
  take-add (suc n) (x ∷ a) (y ∷ b) = ap (λ r. (x ⊕ y) ∷ r) (take-add n a b)

  pub drop-add : (n : ℕ) (a b : List K) → drop n (add F a b) ≡ add F (drop n a) (drop n b)
  unfolding add
  drop-add zero a b = refl
  drop-add (suc n) [] b = refl
  drop-add (suc n) (x ∷ a) [] = sym (add_none (drop n a))
    where
      add_none : (a : List K) → add F a [] ≡ a
      add_none [] = refl
      add_none (x ∷ a) = refl
  drop-add (suc n) (x ∷ a) (y ∷ b) = drop-add n a b

  pub take-map : {B : Type 0} (f : K → B) (n : ℕ) (a : List K) → take n (map f a) ≡ map f (take n a)
  take-map f zero a = refl
  take-map f (suc n) [] = refl
  take-map f (suc n) (x ∷ a) = ap (λ r. f x ∷ r) (take-map f n a)

  pub drop-map : {B : Type 0} (f : K → B) (n : ℕ) (a : List K) → drop n (map f a) ≡ map f (drop n a)
  drop-map f zero a = refl
  drop-map f (suc n) [] = refl
  drop-map f (suc n) (x ∷ a) = drop-map f n a

  -- ---- the value is linear in the coefficients

  pub value-add : (L : List (Level K)) (a b : List K) (x : K) → value F L (add F a b) x ≡ value F L a x ⊕ value F L b x
  unfolding value add
  value-add [] [] b x = sym (zero-add (get_or b 0 0#))
  value-add [] (y ∷ a) [] x = sym (S.add-zero laws y)
  value-add [] (y ∷ a) (z ∷ b) x = refl
  value-add (v ∷ L) a b x =
      ap₂ (λ s t. value F L s x ⊕ v.part x ⊗ value F L t x) (take-add (2 ^ length L) a b) (drop-add (2 ^ length L) a b)
      ∙ ap₂ (λ s t. s ⊕ v.part x ⊗ t) (value-add L (take (2 ^ length L) a) (take (2 ^ length L) b) x)
      (value-add L (drop (2 ^ length L) a) (drop (2 ^ length L) b) x)
      ∙ simp (mul-add, add_assoc, S.add_left_comm laws)

  pub value-scaled : (L : List (Level K)) (e : K) (a : List K) (x : K) → value F L (scaled F e a) x ≡ e ⊗ value F L a x
  unfolding value
  value-scaled [] e [] x = sym (S.mul-zero laws e)
  value-scaled [] e (y ∷ a) x = refl
  value-scaled (v ∷ L) e a x =
      ap₂ (λ s t. value F L s x ⊕ v.part x ⊗ value F L t x) (take-map (F.mul e) (2 ^ length L) a) (drop-map (F.mul e) (2 ^ length L) a)
      ∙ ap₂ (λ s t. s ⊕ v.part x ⊗ t) (value-scaled L e (take (2 ^ length L) a) x)
      (value-scaled L e (drop (2 ^ length L) a) x)
      ∙ simp (mul-add, S.mul_left_comm laws)

  -- ---- a map that vanishes at the steps has one value on all points

  pub transform-agree : {e : K → K} (L : List (Level K)) → Additive F e → Vanishes F e L → (f g : K → K) (c : K)
      → ((x : K) → e x ≡ e c → f x ≡ g x) → map f (points F L c) ≡ map g (points F L c)
  unfolding points
  transform-agree [] ad va f g c h = ap (λ y. y ∷ []) (h c refl)
  transform-agree {e} (v ∷ L) ad va f g c h =
      map-append f (points F L c) (points F L (c ⊕ v.step))
      ∙ ap₂ ◌++◌ (transform-agree L ad va.1 f g c h) (transform-agree L ad va.1 f g (c ⊕ v.step) (λ x p. h x (p ∙ same)))
      ∙ sym (map-append g (points F L c) (points F L (c ⊕ v.step)))
    where
      same : e (c ⊕ v.step) ≡ e c
      same = ad c v.step ∙ ap (λ y. e c ⊕ y) va.0 ∙ S.add-zero laws (e c)

  -- ---- the law

  pub width-mults : (L : List (Level K)) (c : K) → width (mults F L c) ≡ 2 ^ length L
  unfolding width mults
  width-mults [] c = refl
  width-mults (v ∷ L) c = ap₂ ◌+◌ (width-mults L c) (width-mults L c) ∙ omega (arith, pow-suc 2 (length L))

  length-add : (a b : List K) (n : ℕ) → length a ≡ n → length b ≡ n → length (add F a b) ≡ n
  unfolding add
  length-add [] b n p q = q
  length-add (x ∷ a) [] n p q = p
  length-add (x ∷ a) (y ∷ b) n p q = ap suc (length-add a b (length a) refl (omega arith)) ∙ p

  length-lower : (e : K) (h : ℕ) (a : List K) → length a ≡ h + h → length (lower F e h a) ≡ h
  unfolding lower
  length-lower e h a n =
      length-add (take h a) (scaled F e (drop h a)) h (simp length-take (omega arith)) (simp (length-map, length-drop) (omega arith))

  -- the values that the first and the second half of a butterfly's results have
  value-lower : (L : List (Level K)) (e : K) (a : List K) (x : K)
      → value F L (lower F e (2 ^ length L) a) x ≡ value F L (take (2 ^ length L) a) x ⊕ e ⊗ value F L (drop (2 ^ length L) a) x
  unfolding lower
  value-lower L e a x = simp (value-add, value-scaled)

  pub transform-values : (L : List (Level K)) → Levels F L → (c : K) (a : List K) → length a ≡ 2 ^ length L
      → transform F (mults F L c) a ≡ map (value F L a) (points F L c)
  unfolding transform mults points value
  transform-values [] good c [] n = absurd (omega arith)
  transform-values [] good c (y ∷ []) n = refl
  transform-values [] good c (y ∷ z ∷ a) n = absurd (omega arith)
  transform-values (v ∷ L) good c a n =
      ap (λ w. transform F (mults F L c) (lower F e w a) ++ transform F (mults F L (c ⊕ v.step)) (add F (lower F e w a) (drop w a)))
      (width-mults L c)
      ∙ ap₂ ◌++◌
      (transform-values L good.3 c u long ∙ transform-agree L good.0 good.2 (value F L u) (value F (v ∷ L) a) c first)
      (transform-values L good.3 (c ⊕ v.step) (add F u (drop h a)) (length-add u (drop h a) h long (simp length-drop (omega (arith, double))))
      ∙ transform-agree L good.0 good.2 (value F L (add F u (drop h a))) (value F (v ∷ L) a) (c ⊕ v.step) second)
      ∙ sym (map-append (value F (v ∷ L) a) (points F L c) (points F L (c ⊕ v.step)))
    where
      e : K
      e = v.part c

      h : ℕ
      h = 2 ^ length L

      u : List K
      u = lower F e h a

      double : length a ≡ h + h
      double = n ∙ omega (arith, pow-suc 2 (length L))

      long : length u ≡ h
      long = length-lower e h a double

      first : (x : K) → v.part x ≡ v.part c → value F L u x ≡ value F (v ∷ L) a x
      first x p = value-lower L e a x ∙ ap (λ y. value F L (take h a) x ⊕ y ⊗ value F L (drop h a) x) (sym p)

      second : (x : K) → v.part x ≡ v.part (c ⊕ v.step) → value F L (add F u (drop h a)) x ≡ value F (v ∷ L) a x
      second x p =
          value-add L u (drop h a) x ∙ ap (λ y. y ⊕ value F L (drop h a) x) (value-lower L e a x)
          ∙ add_assoc _ _ _
          ∙ ap (λ y. value F L (take h a) x ⊕ y)
          (ap (λ y. e ⊗ value F L (drop h a) x ⊕ y) (sym (one-mul _)) ∙ sym (S.add-mul laws e 1# _)
          ∙ ap (λ y. y ⊗ value F L (drop h a) x) (sym (p ∙ good.0 c v.step ∙ ap (λ y. e ⊕ y) good.1)))
