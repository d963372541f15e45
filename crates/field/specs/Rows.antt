-- The fields (docs/RULES.md section 1.1), a row each.
--   rows        degree and polynomial of each field; its size is 2 to the degree
--   known       is there a field of degree m?
--   poly_of      the polynomial of the field of degree m; 0 where there is none
--   ListedRow   m and p are a row
--   row_at       the row of the field of degree m, as the code hands it out;  IsRow  a row is that of degree m
-- Assumes nothing.
use Rattle.std.specs.Prelude.{◌≡◌, Option, Some, None, Bool, true, false, cond, List, [], ◌∷◌, ℕ, ◌^◌, eqb}
use Rattle.field.specs.declared.rows.Row.{Row}

abbrev pub rows : List (ℕ × ℕ)
rows = (4, 19) ∷ (8, 285) ∷ (11, 2053) ∷ []

-- is m the degree of one of these rows?
unfoldable pub known_in : List (ℕ × ℕ) → ℕ → Bool
known_in [] m = false
known_in (r ∷ rs) m = cond (eqb r.0 m) true (known_in rs m)

-- the polynomial beside the degree m in these rows
unfoldable pub poly_in : List (ℕ × ℕ) → ℕ → ℕ
poly_in [] m = 0
poly_in (r ∷ rs) m = cond (eqb r.0 m) r.1 (poly_in rs m)

abbrev pub known : ℕ → Bool
known m = known_in rows m

abbrev pub poly_of : ℕ → ℕ
poly_of m = poly_in rows m

pub record ListedRow (m p : ℕ) : Type 0 where
  pub degree : known m ≡ true
  pub poly : poly_of m ≡ p

-- the row beside the degree m in these rows
unfoldable pub row_in : List (ℕ × ℕ) → ℕ → Option Row
row_in [] m = None
row_in (r ∷ rs) m = cond (eqb r.0 m) (Some (record { degree = r.0; poly = r.1; size = 2 ^ r.0 })) (row_in rs m)

abbrev pub row_at : ℕ → Option Row
row_at m = row_in rows m

pub record IsRow (m : ℕ) (row : Row) : Type 0 where
  pub list : ListedRow m row.poly
  pub degree : row.degree ≡ m
  pub size : row.size ≡ 2 ^ m
