-- The additive Fourier transform (Lin, Chung, Han 2014): the values of a polynomial at every element of a coset of an
-- F2-space.
--   Level      one more direction of the space: a step, and an additive map that is 1 at it and 0 at every step below
--   points     the elements c + (sum of some of the steps), in order
--   value      what a list of coefficients in the basis of the levels says at x
--   Mults      the multipliers of the butterflies, as a tree
--   transform  the butterflies: values out of coefficients
--   mults      the multipliers that belong to the coset of c
-- Nobody has to believe this file: it serves the inner contracts of this crate. What others cite is `Values` in
-- Tables.
-- Assumes nothing.
use Rattle.std.specs.Prelude.{◌≡◌, List, [], ◌∷◌, ◌++◌, map, ℕ, ◌+◌, ◌^◌, get_or, length, take, drop}
use Rattle.algebra.specs.Field.{Ops}
use Rattle.algebra.specs.Polynomial.{add}

-- one more direction of the space
pub record Level (K : Type 0) : Type 0 where
  pub step : K
  pub part : K → K

-- the multipliers of the butterflies: one for the whole list, then those of its two halves
pub data Mults (K : Type 0) : Type 0 where
  leaf : Mults K
  node : K → Mults K → Mults K → Mults K

-- how many values a tree of multipliers makes
unfoldable pub width : {K : Type 0} → Mults K → ℕ
width leaf = 1
width (node e l r) = width l + width l

module _ {K : Type 0} (F : Ops K) where
  -- e additive: the map respects sums
  abbrev pub Additive : (K → K) → Type 0
  Additive e = (x y : K) → e (F.add x y) ≡ F.add (e x) (e y)

  -- e is 0 at every step
  abbrev pub Vanishes : (K → K) → List (Level K) → Type 0
  Vanishes e [] = Unit {0}
  Vanishes e (v ∷ L) = (e v.step ≡ F.zero) × Vanishes e L

  -- levels, the highest first: each map is additive, 1 at its own step and 0 at the steps below
  abbrev pub Levels : List (Level K) → Type 0
  Levels [] = Unit {0}
  Levels (v ∷ L) = Additive v.part × (v.part v.step ≡ F.one) × Vanishes v.part L × Levels L

  -- c plus every sum of steps
  unfoldable pub points : List (Level K) → K → List K
  points [] c = c ∷ []
  points (v ∷ L) c = points L c ++ points L (F.add c v.step)

  -- the value at x of coefficients in the basis of the levels: (lower half) + part(x) (upper half)
  unfoldable pub value : List (Level K) → List K → K → K
  value [] a x = get_or a 0 F.zero
  value (v ∷ L) a x =
      F.add (value L (take (2 ^ length L) a) x) (F.mul (v.part x) (value L (drop (2 ^ length L) a) x))

  -- e times each
  abbrev pub scaled : K → List K → List K
  scaled e a = map (F.mul e) a

  -- the butterflies: (a, b) becomes (a + e b, a + e b + b)
  unfoldable pub lower : K → ℕ → List K → List K
  lower e h a = add F (take h a) (scaled e (drop h a))

  unfoldable pub transform : Mults K → List K → List K
  unfolding width lower
  transform leaf a = a
  transform (node e l r) a =
      transform l (lower e (width l) a) ++ transform r (add F (lower e (width l) a) (drop (width l) a))

  -- the multipliers for the coset of c
  unfoldable pub mults : List (Level K) → K → Mults K
  mults [] c = leaf
  mults (v ∷ L) c = node (v.part c) (mults L c) (mults L (F.add c v.step))

-- each multiplier by its image
unfoldable pub map_mults : {A B : Type 0} → (A → B) → Mults A → Mults B
map_mults φ leaf = leaf
map_mults φ (node e l r) = node (φ e) (map_mults φ l) (map_mults φ r)
