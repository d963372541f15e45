-- The sums of one number and any of a list of vectors.
--   spanned          `first` plus any sum of the first n vectors: each vector that is not 0 doubles the list
--   dimension_below   how many of the first n vectors are not 0
--   Grown            the first n numbers of a list took in their sums with v, unless it is 0: there are k of them now
--   Listed           the sums of `first` and any of the first n vectors stand at the front of a list
-- Assumes nothing.
use Rattle.std.specs.Prelude.{◌≡◌, cond, List, [], ◌∷◌, ◌++◌, map, ℕ, zero, suc, eqb, length, get_or, take}
use Rattle.std.specs.Int.Bits.{bit_xor}
use Rattle.slices.specs.Lists.{copied}

-- a list, and its sums with v
abbrev pub grown : ℕ → List ℕ → List ℕ
grown v l = cond (eqb v 0) l (l ++ map (bit_xor v) l)

unfoldable pub spanned : ℕ → List ℕ → ℕ → List ℕ
spanned zero vectors first = first ∷ []
spanned (suc n) vectors first = grown (get_or vectors n 0) (spanned n vectors first)

unfoldable pub dimension_below : ℕ → List ℕ → ℕ
dimension_below zero vectors = 0
dimension_below (suc n) vectors =
    cond (eqb (get_or vectors n 0) 0) (dimension_below n vectors) (suc (dimension_below n vectors))

pub record Grown (n v : ℕ) (s : List ℕ) (k : ℕ) (s' : List ℕ) : Type 0 where
  pub count : k ≡ length (grown v (take n s))
  pub slots : s' ≡ copied (grown v (take n s)) s

pub record Listed (n : ℕ) (vectors : List ℕ) (first : ℕ) (s : List ℕ) (k : ℕ) (s' : List ℕ) : Type 0 where
  pub count : k ≡ length (spanned n vectors first)
  pub slots : s' ≡ copied (spanned n vectors first) s
