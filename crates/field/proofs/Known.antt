-- What holds of each row holds of each known field.
--   by_row    a property of degree and polynomial, from its three rows;  row4, row8, row11  the rows
--   row-known, row-unknown   what `row_at` finds;  unlisted, is-listed, listed-on  the same, as the first test of an
--                            entry takes it
--   row-in, row-out          the same of a row that `ok_or` asks for
--   table, first-is          the code's table, and what the first row of a degree there is
--   some-row                 a known degree has a row
-- Assumes nothing.
use mathlib.Core.Path.{◌≡◌, refl, sym, ap, subst, ◌∙◌}
use mathlib.Core.Bool.{Bool, true, false, cond, not, true≢false}
use mathlib.Core.Logic.{◌≢◌}
use mathlib.Core.List.{List, [], ◌∷◌}
use Prim.Native.Nat.{ℕ, ◌^◌}
use native.Mathlib.Omega.{arith}
use lib.Dec.{T, eqb, eqb→eq}
use Rattle.field.specs.Rows.{rows, known, poly_of, known_in, poly_in, row_in, ListedRow, row_at, IsRow}
use Rattle.field.specs.declared.rows.Row.{Row}
use Rattle.std.specs.Prelude.{Option, Some, None, Result, Ok, Err, is_some, ok_or, find}

module _ (P : ℕ → ℕ → Type 0) (p4 : P 4 19) (p8 : P 8 285) (p11 : P 11 2053) where
  by-test : (m : ℕ) (b c d : Bool) → (T b → m ≡ 4) → (T c → m ≡ 8) → (T d → m ≡ 11)
      → cond b true (cond c true (cond d true false)) ≡ true → P m (cond b 19 (cond c 285 (cond d 2053 0)))
  by-test m true c d e4 e8 e11 k = subst (λ n. P n 19) (sym (e4 tt)) p4
  by-test m false true d e4 e8 e11 k = subst (λ n. P n 285) (sym (e8 tt)) p8
  by-test m false false true e4 e8 e11 k = subst (λ n. P n 2053) (sym (e11 tt)) p11
  by-test m false false false e4 e8 e11 k = absurd (let z : T true = tt in subst T (sym k) z)

  pub by_row : {m p : ℕ} → ListedRow m p → P m p
  unfolding known_in poly_in
  by_row {m} l =
      subst (P m) l.poly
      (by-test m (eqb 4 m) (eqb 8 m) (eqb 11 m) (λ t. sym (eqb→eq 4 m t)) (λ t. sym (eqb→eq 8 m t)) (λ t. sym (eqb→eq 11 m t)) l.degree)

-- each row
pub row4 : ListedRow 4 19
unfolding known_in poly_in
row4 = record { degree = refl; poly = refl }

pub row8 : ListedRow 8 285
unfolding known_in poly_in
row8 = record { degree = refl; poly = refl }

pub row11 : ListedRow 11 2053
unfolding known_in poly_in
row11 = record { degree = refl; poly = refl }

-- a known degree has its row
pub listed : (m : ℕ) → known m ≡ true → ListedRow m (poly_of m)
listed m e = record { degree = e; poly = refl }

-- a known degree that is not one of the others is the last
pub last_row : (m : ℕ) → known m ≡ true → m ≢ 4 → m ≢ 8 → m ≡ 11
last_row m k = by_row (λ m p. m ≢ 4 → m ≢ 8 → m ≡ 11) (λ n. absurd (n refl)) (λ n o. absurd (o refl)) (λ n o. refl) (listed m k)

-- what is found for a degree: its row, or nothing where it is not known
found_in : (rs : List (ℕ × ℕ)) (m : ℕ) → row_in rs m ≡ cond {A = Option Row} (known_in rs m) (Some (record { degree = m; poly = poly_in rs m; size = 2 ^ m })) None
unfolding known_in poly_in row_in
found_in [] m = refl
found_in (r ∷ rs) m = go (eqb r.0 m) (eqb→eq r.0 m) (found_in rs m)
  where
    go : (b : Bool) → (T b → r.0 ≡ m) → row_in rs m ≡ cond {A = Option Row} (known_in rs m) (Some (record { degree = m; poly = poly_in rs m; size = 2 ^ m })) None
        → cond {A = Option Row} b (Some (record { degree = r.0; poly = r.1; size = 2 ^ r.0 })) (row_in rs m)
        ≡ cond {A = Option Row} (cond b true (known_in rs m)) (Some (record { degree = m; poly = cond b r.1 (poly_in rs m); size = 2 ^ m })) None
    go true e ih = ap (λ (n : ℕ). Some (record { degree = n; poly = r.1; size = 2 ^ n })) (e tt)
    go false e ih = ih

pub row-known : (m : ℕ) {row : Row} → row_at m ≡ Some row → IsRow m row
row-known m {row} e = go (known m) refl (sym (found_in rows m) ∙ e)
  where
    go : (b : Bool) → known m ≡ b → cond {A = Option Row} b (Some (record { degree = m; poly = poly_of m; size = 2 ^ m })) None ≡ Some row → IsRow m row
    go true k f = record { list = record { degree = k; poly = cc }; degree = cc; size = cc }
    go false k f = absurd (let z : ◌≡◌ {A = ℕ} 0 1 = cc in let b : ⊥ = omega arith in b)

pub row-unknown : (m : ℕ) → row_at m ≡ None → known m ≡ false
row-unknown m e = go (known m) (sym (found_in rows m) ∙ e)
  where
    go : (b : Bool) → cond {A = Option Row} b (Some (record { degree = m; poly = poly_of m; size = 2 ^ m })) None ≡ None → b ≡ false
    go true f = absurd (let z : ◌≡◌ {A = ℕ} 0 1 = cc in let b : ⊥ = omega arith in b)
    go false f = refl

-- ---- the code's table
abbrev pub table : List Row
table =
    record { degree = 4; poly = 19; size = 16 } ∷ record { degree = 8; poly = 285; size = 256 }
    ∷ record { degree = 11; poly = 2053; size = 2048 } ∷ []

-- the first row of the degree there is what `row_at` finds
pub first-is : (m : ℕ) → find (λ row. eqb row.degree m) table ≡ row_at m
unfolding row_in
first-is m = refl

-- a known degree has one
pub some-row : (m : ℕ) {f : Option Row} → known m ≡ true → f ≡ row_at m → is_some f ≡ true
some-row m {f} k e = go f e
  where
    go : (f : Option Row) → f ≡ row_at m → is_some f ≡ true
    go None e = absurd (true≢false (sym k ∙ row-unknown m (sym e)))
    go (Some row) e = refl

-- ---- what the first test of an entry is told

pub unlisted : (m : ℕ) {f : Option Row} → f ≡ row_at m → f ≡ None → not (known m) ≡ true
unlisted m e u = ap not (row-unknown m (sym e ∙ u))

pub is-listed : (m : ℕ) {f : Option Row} {row : Row} → f ≡ row_at m → f ≡ Some row → IsRow m row
is-listed m e u = row-known m (sym e ∙ u)

-- the same of a row that `ok_or` asks for
pub row-in : (m : ℕ) {E : Type 0} {f : Option Row} (k : E) {r : Result Row E} {row : Row} → f ≡ row_at m → r ≡ ok_or f k → r ≡ Ok row → IsRow m row
row-in m {E} {f} k {r} {row} e o i = go f e (sym o ∙ i)
  where
    go : (f : Option Row) → f ≡ row_at m → ok_or f k ≡ Ok row → IsRow m row
    go None e i = cc
    go (Some s) e i = row-known m (sym e ∙ cc)

pub row-out : (m : ℕ) {E : Type 0} {f : Option Row} (k : E) {j : E} {r : Result Row E} → f ≡ row_at m → r ≡ ok_or f k → r ≡ Err j
    → (not (known m) ≡ true) × (j ≡ k)
row-out m {E} {f} k {j} {r} e o i = go f e (sym o ∙ i)
  where
    go : (f : Option Row) → f ≡ row_at m → ok_or f k ≡ Err j → (not (known m) ≡ true) × (j ≡ k)
    go None e i = (ap not (row-unknown m (sym e)), cc)
    go (Some s) e i = cc

pub listed-on : {m : ℕ} {row : Row} → IsRow m row → not (known m) ≡ false
listed-on i = ap not i.list.degree
