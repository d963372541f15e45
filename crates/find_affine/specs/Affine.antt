-- Affine polynomials (docs/RULES.md section 3.6): a coefficient c_i at z^(2^i) for each i below the field's degree m,
-- and a constant.
--   terms_at       the sum of the terms c_i x^(2^i)
--   value_at       the value at x: the constant and the terms
--   affine_roots   the elements at which it is 0, by trial, ascending
--   dense         the same polynomial as a list of coefficients: the constant, and c_i at place 2^i
--   dimension_of   the k with 2^k = n, by trial up to m
--   space_values   what the call tells of the roots: that there is none, or their number and its k
-- Assumes nothing.
use Rattle.std.specs.Prelude.{cond, List, [], ◌∷◌, ◌++◌, ℕ, suc, ◌+◌, ◌^◌, eqb, length, replicate}
use Rattle.std.specs.Int.Bits.{bit_xor}
use Rattle.algebra.specs.Trial.{up_from, keep, first_from}
use Rattle.field.specs.Field.{field_at, mul}

-- c_0 x, and the terms of the other coefficients at x^2
unfoldable pub terms_at : ℕ → List ℕ → ℕ → ℕ
terms_at m [] x = 0
terms_at m (c ∷ cs) x = bit_xor (mul (field_at m) c x) (terms_at m cs (mul (field_at m) x x))

abbrev pub value_at : ℕ → List ℕ → ℕ → ℕ → ℕ
value_at m cs constant x = bit_xor constant (terms_at m cs x)

unfoldable pub affine_roots : ℕ → List ℕ → ℕ → List ℕ
affine_roots m cs constant = keep (λ x. eqb (value_at m cs constant x) 0) (up_from 0 (2 ^ m))

-- a coefficient, n zeros, and the others with 2n + 1 zeros behind the next: the places of the coefficients double
unfoldable pub spread : ℕ → List ℕ → List ℕ
spread n [] = []
spread n (c ∷ cs) = c ∷ replicate n 0 ++ spread (n + suc n) cs

abbrev pub dense : List ℕ → ℕ → List ℕ
dense cs constant = constant ∷ spread 0 cs

unfoldable pub dimension_of : ℕ → ℕ → ℕ
dimension_of m n = first_from (λ k. eqb (2 ^ k) n) 0 (suc m)

-- of a list of roots
unfoldable pub space_values : ℕ → List ℕ → List ℕ
space_values m roots = cond (eqb (length roots) 0) (0 ∷ []) (length roots ∷ dimension_of m (length roots) ∷ [])
