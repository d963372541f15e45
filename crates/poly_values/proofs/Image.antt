-- A map that respects sums and products respects the transform.
--   Respects          a map that respects sums and products where a property holds
--   all_take, all_drop, all_append, all-add, all-scaled, all-transform   what the operations keep
--   transform-image   the transform of the images is the image of the transform
-- Assumes nothing.
use mathlib.Core.Path.{◌≡◌, refl, sym, ap, ap₂, ◌∙◌}
use mathlib.Core.List.{List, [], ◌∷◌, ◌++◌, map, map-append}
use Prim.Native.Nat.{ℕ, zero, suc, ◌+◌}
use lib.ListN.{take, drop}
use Rattle.algebra.specs.Field.{Ops}
use Rattle.algebra.specs.Polynomial.{add}
use Rattle.algebra.specs.Trial.{All}
use Rattle.poly_values.specs.Transform.{Mults, leaf, node, width, scaled, lower, transform, map_mults}

-- φ respects sums and products of F's elements of which P holds, and F's operations keep P
pub record Respects {A B : Type 0} (F : Ops A) (G : Ops B) (P : A → Type 0) (φ : A → B) : Type 0 where
  pub sums : (x y : A) → P x → P y → φ (F.add x y) ≡ G.add (φ x) (φ y)
  pub products : (e x : A) → P x → φ (F.mul e x) ≡ G.mul (φ e) (φ x)
  pub kept-sum : (x y : A) → P x → P y → P (F.add x y)
  pub kept-product : (e x : A) → P x → P (F.mul e x)

pub all_take : {A : Type 0} (P : A → Type 0) (n : ℕ) (a : List A) → All P a → All P (take n a)
all_take P zero a h = tt
all_take P (suc n) [] h = tt
all_take P (suc n) (x ∷ a) h = (h.0, all_take P n a h.1)

pub all_drop : {A : Type 0} (P : A → Type 0) (n : ℕ) (a : List A) → All P a → All P (drop n a)
all_drop P zero a h = h
all_drop P (suc n) [] h = tt
all_drop P (suc n) (x ∷ a) h = all_drop P n a h.1

pub all_append : {A : Type 0} (P : A → Type 0) (s t : List A) → All P s → All P t → All P (s ++ t)
all_append P [] t h k = k
all_append P (x ∷ s) t h k = (h.0, all_append P s t h.1 k)

pub map-take : {A B : Type 0} (φ : A → B) (n : ℕ) (a : List A) → map φ (take n a) ≡ take n (map φ a)
map-take φ zero a = refl
map-take φ (suc n) [] = refl
map-take φ (suc n) (x ∷ a) = ap (λ r. φ x ∷ r) (map-take φ n a)

pub map-drop : {A B : Type 0} (φ : A → B) (n : ℕ) (a : List A) → map φ (drop n a) ≡ drop n (map φ a)
map-drop φ zero a = refl
map-drop φ (suc n) [] = refl
map-drop φ (suc n) (x ∷ a) = map-drop φ n a

module _ {A B : Type 0} {F : Ops A} {G : Ops B} {P : A → Type 0} {φ : A → B} (R : Respects F G P φ) where
  pub all-add : (a b : List A) → All P a → All P b → All P (add F a b)
  unfolding add
  all-add [] b h k = k
  all-add (x ∷ a) [] h k = h
  all-add (x ∷ a) (y ∷ b) h k = (R.kept-sum x y h.0 k.0, all-add a b h.1 k.1)

  pub all-scaled : (e : A) (a : List A) → All P a → All P (scaled F e a)
  all-scaled e [] h = tt
  all-scaled e (x ∷ a) h = (R.kept-product e x h.0, all-scaled e a h.1)

  map-add : (a b : List A) → All P a → All P b → map φ (add F a b) ≡ add G (map φ a) (map φ b)
  unfolding add
  map-add [] b h k = refl
  map-add (x ∷ a) [] h k = refl
  map-add (x ∷ a) (y ∷ b) h k = ap₂ ◌∷◌ (R.sums x y h.0 k.0) (map-add a b h.1 k.1)

  map-scaled : (e : A) (a : List A) → All P a → map φ (scaled F e a) ≡ scaled G (φ e) (map φ a)
  map-scaled e [] h = refl
  map-scaled e (x ∷ a) h = ap₂ ◌∷◌ (R.products e x h.0) (map-scaled e a h.1)

  pub all-lower : (e : A) (n : ℕ) (a : List A) → All P a → All P (lower F e n a)
  unfolding lower
  all-lower e n a h = all-add (take n a) (scaled F e (drop n a)) (all_take P n a h) (all-scaled e (drop n a) (all_drop P n a h))

  map-lower : (e : A) (n : ℕ) (a : List A) → All P a → map φ (lower F e n a) ≡ lower G (φ e) n (map φ a)
  unfolding lower
  map-lower e n a h =
      map-add (take n a) (scaled F e (drop n a)) (all_take P n a h) (all-scaled e (drop n a) (all_drop P n a h))
      ∙ ap₂ (add G) (map-take φ n a) (map-scaled e (drop n a) (all_drop P n a h) ∙ ap (scaled G (φ e)) (map-drop φ n a))

  width-map : (T : Mults A) → width (map_mults φ T) ≡ width T
  unfolding width map_mults
  width-map leaf = refl
  width-map (node e l r) = ap₂ ◌+◌ (width-map l) (width-map l)

  -- the transform of the images is the image of the transform
  pub transform-image : (T : Mults A) (a : List A) → All P a → map φ (transform F T a) ≡ transform G (map_mults φ T) (map φ a)
  unfolding transform map_mults
  transform-image leaf a h = refl
  transform-image (node e l r) a h =
      map-append φ (transform F l u) (transform F r (add F u (drop n a)))
      ∙ ap₂ ◌++◌
      (transform-image l u (all-lower e n a h) ∙ ap (transform G (map_mults φ l)) (map-lower e n a h))
      (transform-image r (add F u (drop n a)) (all-add u (drop n a) (all-lower e n a h) (all_drop P n a h))
      ∙ ap (transform G (map_mults φ r)) (map-add u (drop n a) (all-lower e n a h) (all_drop P n a h) ∙ ap₂ (add G) (map-lower e n a h) (map-drop φ n a)))
      ∙ ap (λ k. transform G (map_mults φ l) (lower G (φ e) k (map φ a)) ++ transform G (map_mults φ r) (add G (lower G (φ e) k (map φ a)) (drop k (map φ a))))
      (sym (width-map l))
    where
      n : ℕ
      n = width l

      u : List A
      u = lower F e n a

  -- what the operations keep, the transform keeps
  pub all-transform : (T : Mults A) (a : List A) → All P a → All P (transform F T a)
  unfolding transform
  all-transform leaf a h = h
  all-transform (node e l r) a h =
      all_append P (transform F l u) (transform F r (add F u (drop n a))) (all-transform l u (all-lower e n a h))
      (all-transform r (add F u (drop n a)) (all-add u (drop n a) (all-lower e n a h) (all_drop P n a h)))
    where
      n : ℕ
      n = width l

      u : List A
      u = lower F e n a
