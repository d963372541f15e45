-- The multiplicity of a root: the largest e for which (z + r)^e divides the polynomial.
--   linear_power       (z + r)^e
--   IsMultiplicity    e is the multiplicity of r in f: (z + r)^k divides f exactly for the k up to e
--   IsMultiplicityBelow   the same of a list of numbers below q
--   quotient_by        the quotient of f by z + r
--   times_out          how many times z + r can be taken out of f, one after the other: at most n are tried
--   left_in            what is left of f then
--   multiplicity      how many times z + r can be taken out of f;  left  what is left then
--   multiplicities_of  the multiplicity of each of a list of elements
--   multiplicities_in  the same, each taken out before the next is counted
--   spread            a list with each element as many times as e says
--   total             the sum of a list of numbers
-- Assumes nothing.
use Rattle.std.specs.Prelude.{◌↔◌, cond, List, [], ◌∷◌, ◌++◌, map, ℕ, zero, suc, ◌+◌, ◌-◌, ◌≤◌, length, take, replicate}
use Rattle.algebra.specs.Field.{Ops}
use Rattle.algebra.specs.Polynomial.{coef, is_root, from_roots, Divides, DividesBelow}
use Rattle.algebra.specs.Routines.{quo}

-- each element as many times as e says
unfoldable pub spread : {K : Type 0} → (K → ℕ) → List K → List K
spread e [] = []
spread e (r ∷ s) = replicate (e r) r ++ spread e s

-- the sum of the numbers
unfoldable pub total : List ℕ → ℕ
total [] = 0
total (n ∷ l) = n + total l

module _ {K : Type 0} (F : Ops K) where
  -- (z + r)^e
  abbrev pub linear_power : K → ℕ → List K
  linear_power r e = from_roots F (replicate e r)

  -- without the 0 at its top, so that it is shorter by one
  unfoldable pub quotient_by : K → List K → List K
  quotient_by r f = take (length f - 1) (quo F (r ∷ []) f)

  -- f(r) tells whether z + r divides f
  unfoldable pub times_out : ℕ → List K → K → ℕ
  times_out zero f r = 0
  times_out (suc n) f r = cond (is_root F f r) (suc (times_out n (quotient_by r f) r)) 0

  -- by the same test
  unfoldable pub left_in : ℕ → List K → K → List K
  left_in zero f r = f
  left_in (suc n) f r = cond (is_root F f r) (left_in n (quotient_by r f) r) f

  -- as many are tried as f has coefficients
  abbrev pub multiplicity : List K → K → ℕ
  multiplicity f r = times_out (length f) f r

  -- as many
  abbrev pub left : List K → K → List K
  left f r = left_in (length f) f r

  -- each in f
  abbrev pub multiplicities_of : List K → List K → List ℕ
  multiplicities_of f s = map (multiplicity f) s

  -- each in what the elements before it left
  unfoldable pub multiplicities_in : List K → List K → List ℕ
  multiplicities_in f [] = []
  multiplicities_in f (r ∷ s) = multiplicity f r ∷ multiplicities_in (left f r) s

-- the largest e for which (z + r)^e divides f
abbrev pub IsMultiplicity : {K : Type 0} (F : Ops K) → List K → K → ℕ → Type 0
IsMultiplicity F f r e = (k : ℕ) → Divides F (linear_power F r k) (coef F f) ↔ (k ≤ e)

-- the largest e for which (z + r)^e divides f, with a quotient below q
abbrev pub IsMultiplicityBelow : (G : Ops ℕ) (q : ℕ) → List ℕ → ℕ → ℕ → Type 0
IsMultiplicityBelow G q f r e = (k : ℕ) → DividesBelow G q (linear_power G r k) f ↔ (k ≤ e)
