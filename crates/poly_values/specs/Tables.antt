-- What the constant tables of the transform hold.
--   steps11       the steps of the transform in field 11, the highest first: the elements whose digits are the number
--                 of the word
--   TreeTable     the multipliers: in lane l those of the coset of l
--   TopTable, SquareTable   the vanishing map of the steps, and its square, in each lane
--   FirstColumns, ColumnTable   the powers of z in the basis: those from z^0 on, each with nothing above its own place,
--                 and those that go on behind them
--   InBlocks      coefficients in the basis that stand for a polynomial
--   vectors11, planes11   the vectors that hold the values of field 11, and their words; a block has as many
--                 coefficients as there are vectors
--   blocks11, coefficients11   the blocks of a polynomial, and its coefficients: one more
--   Values        n words of 64 lanes hold the values of f: lane l of word w that at 64 w + l
-- `Values` is what the plain search cites, over `eval` of algebra; the rest serves the inner contracts of this crate.
-- Nobody has to believe either: the search's own contract says nothing of them.
-- Assumes nothing.
use Rattle.std.specs.Prelude.{◌≡◌, List, [], ◌∷◌, ◌++◌, map, ℕ, ◌+◌, ◌*◌, ◌^◌, ◌≤◌, ◌<◌, length, drop}
use Rattle.algebra.specs.Polynomial.{eval, Below}
use Rattle.field.specs.Field.{mul, numbers}
use Rattle.poly_values.specs.Transform.{points, transform, mults, map_mults}
use Rattle.poly_values.specs.Basis.{Step, vanishing, levels}
use Rattle.poly_values.specs.Blocks.{power_in, ColumnsOf, coset_of}
use Rattle.poly_values.specs.Planes.{lane, lanes, words_at, columns_of, tree_of, field_by}

abbrev pub steps11 : List (Step ℕ)
steps11 =
    record { step = 1024; unit = 975; back = 208 }
    ∷ record { step = 512; unit = 63; back = 1493 }
    ∷ record { step = 256; unit = 1927; back = 1708 }
    ∷ record { step = 128; unit = 60; back = 1329 }
    ∷ record { step = 64; unit = 64; back = 673 }
    ∷ []

abbrev pub vectors11 : ℕ
vectors11 = 32

abbrev pub planes11 : ℕ
planes11 = vectors11 * 11

abbrev pub blocks11 : ℕ
blocks11 = 2

abbrev pub coefficients11 : ℕ
coefficients11 = blocks11 * vectors11 + 1

pub record TreeTable (q : List ℕ) (B : List (Step ℕ)) (g : List ℕ) : Type 0 where
  pub multipliers : (l : ℕ) → l < 64 → map_mults (lane l) (tree_of q (length B) g)
      ≡ mults (numbers (field_by q)) (levels (numbers (field_by q)) B) l

pub record TopTable (q : List ℕ) (B : List (Step ℕ)) (v : List ℕ) : Type 0 where
  pub lanes : (l : ℕ) → l < 64 → lane l v ≡ vanishing (numbers (field_by q)) B l

pub record SquareTable (q : List ℕ) (B : List (Step ℕ)) (v : List ℕ) : Type 0 where
  pub lanes : (l : ℕ) → l < 64 → lane l v
      ≡ mul (field_by q) (vanishing (numbers (field_by q)) B l) (vanishing (numbers (field_by q)) B l)

-- the powers of z from j + 1 on, c of them, in n blocks, and t behind the last
pub record ColumnTable (q : List ℕ) (B : List (Step ℕ)) (n j c t : ℕ) (g : List ℕ) : Type 0 where
  pub long : length g ≡ c * length q
  pub columns : ColumnsOf (numbers (field_by q)) B n (power_in (numbers (field_by q)) B n j)
      (columns_of (length q) (n * 2 ^ length B) t c g)

pub record FirstColumns (q : List ℕ) (B : List (Step ℕ)) (n c : ℕ) (g : List ℕ) : Type 0 where
  pub first : lanes 0 (n * 2 ^ length B) (words_at (length q) g 0) ++ 0 ∷ [] ≡ power_in (numbers (field_by q)) B n 0
  pub others : ColumnTable q B n 0 c 0 (drop (length q) g)
  pub above : (j l : ℕ) → j < l → j ≤ c → l < n * 2 ^ length B → lane l (words_at (length q) g (j * length q)) ≡ 0

-- a stands for f: brought together for a coset and transformed, it has the values of f there
pub record InBlocks (q : List ℕ) (B : List (Step ℕ)) (n : ℕ) (f a : List ℕ) : Type 0 where
  pub long : length a ≡ n * 2 ^ length B + 1
  pub small : Below (2 ^ length q) a
  pub values : (c : ℕ) → c < 2 ^ length q
      → transform (numbers (field_by q)) (mults (numbers (field_by q)) (levels (numbers (field_by q)) B) c)
      (coset_of (numbers (field_by q)) B n a c)
      ≡ map (eval (numbers (field_by q)) f) (points (numbers (field_by q)) (levels (numbers (field_by q)) B) c)

pub record Values (q f p : List ℕ) (n : ℕ) : Type 0 where
  pub lanes : (w : ℕ) → w < n → (l : ℕ) → l < 64 → lane l (words_at (length q) p (w * length q))
      ≡ eval (numbers (field_by q)) f (w * 64 + l)
