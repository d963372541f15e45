-- Roots at the front of a slice, and what the routines may take for granted.
--   Front           the first k elements of out are the list rs, whole
--   RootsOut        the first k elements of out are the roots of monic p, in any order, and no more than p has degrees
--   Halvable        z^2 + az + b can be solved over a lent half-table
--   Lowly           degree 0 to 2: monic p can be solved so
--   SmallSolvable   degree 0 to 3: monic p can be solved over the half-table and the tables of the field
-- Assumes nothing.
use Rattle.std.specs.Prelude.{◌≡◌, ◌↔◌, true, ℕ, ◌^◌, ◌≤◌, ◌<◌, length, take}
use mathlib.Core.List.{List, Memᴰ}
use Rattle.algebra.specs.Polynomial.{Below}
use Rattle.algebra.specs.Routines.{monic}
use Rattle.field.specs.Rows.{known}
use Rattle.field.specs.Field.{field_at, G, roots_at}
use Rattle.field.specs.Tables.{Halves}

-- in this order
pub record Front (rs : List ℕ) (k : ℕ) (out : List ℕ) : Type 0 where
  pub count : k ≡ length rs
  pub front : take k out ≡ rs

-- in any order
pub record RootsOut (m : ℕ) (p : List ℕ) (k : ℕ) (out : List ℕ) : Type 0 where
  pub count : k ≤ length p
  pub members : (x : ℕ) → Memᴰ x (take k out) ↔ Memᴰ x (roots_at m (monic (G m) p))

-- two elements, and room for two roots
pub record Halvable (m : ℕ) (hs : List ℕ) (a b : ℕ) (out : List ℕ) : Type 0 where
  pub degree : known m ≡ true
  pub halves : Halves (field_at m) hs
  pub small-a : a < 2 ^ m
  pub small_b : b < 2 ^ m
  pub room : 2 ≤ length out

-- room for as many roots as there can be
pub record Lowly (m : ℕ) (hs p out : List ℕ) : Type 0 where
  pub degree : known m ≡ true
  pub halves : Halves (field_at m) hs
  pub small : Below (2 ^ m) p
  pub low : length p ≤ 2
  pub room : length p ≤ length out

-- room for three roots
pub record SmallSolvable (m : ℕ) (hs p out : List ℕ) : Type 0 where
  pub halves : Halves (field_at m) hs
  pub small : Below (2 ^ m) p
  pub low : length p ≤ 3
  pub room : 3 ≤ length out
