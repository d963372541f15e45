-- The vectors that the elimination leaves.
--   swept_at, length-swept   a row swept, entry by entry
--   pivot-low, pivot-bit     what the pivot tells
--   Holding     the rows hold the digits of the images of the vectors
--   Reached     rows and vectors behind i turns: what they hold, and the invariant
--   reached-on, reached-after   a turn, and i turns from the start
-- Assumes nothing.
use mathlib.Core.Path.{◌≡◌, refl, sym, ap, ap₂, ◌∙◌}
use mathlib.Core.Bool.{Bool, true, false, cond}
use mathlib.Core.List.{List, [], ◌∷◌, map}
use Prim.Native.Nat.{ℕ, zero, suc, ◌*◌, ◌/◌, ◌%◌, ◌^◌, ◌≤◌, ◌<◌}
use native.Mathlib.Nat.{zero-mul, mod-mod, not-suc-le-zero, le_of_suc-le-suc}
use native.Mathlib.Decide.{dec_lt}
use native.Mathlib.Omega.{arith}
use borrow.Author.Tests.{eqb-true, eqb-false}
use lib.Bits.{bit_xor, xor_zero_r}
use lib.Dec.{eqb}
use lib.ListN.{length, get_or, get_or-map, get_or-eq_default}
use Rattle.field.proofs.Digits.{bit-cases}
use Rattle.field.proofs.Additive.{Additive}
use Rattle.find_affine.specs.Systems.{pivot_of, swept, swept_by, row_at, rows_after, vectors_after}
use Rattle.find_affine.proofs.Maps.{digit_of, sweep, map-sweep}
use Rattle.find_affine.proofs.Turns.{Projects, digit-of, turn-none, turn-pivot}

-- ---- a row swept

length-swept : (t : ℕ) (by s : List ℕ) → length (swept t by s) ≡ length s
unfolding swept
length-swept t by [] = refl
length-swept t [] (a ∷ s) = refl
length-swept t (b ∷ by) (a ∷ s) = ap suc (length-swept t by s)

swept_at : (t : ℕ) (by s : List ℕ) (j : ℕ) → length by ≡ length s → get_or (swept t by s) j 0 ≡ bit_xor (get_or s j 0) (get_or by j 0 % 2 * t)
unfolding swept
swept_at t [] [] j e = sym (ap (bit_xor 0) (zero-mul t))
swept_at t (b ∷ by) [] j e = absurd (let z : ⊥ = omega arith in z)
swept_at t [] (a ∷ s) j e = absurd (let z : ⊥ = omega arith in z)
swept_at t (b ∷ by) (a ∷ s) zero e = refl
swept_at t (b ∷ by) (a ∷ s) (suc j) e = swept_at t by s j (let d : length by ≡ length s = omega arith in d)

-- ---- the pivot

-- there is no bit below it
pivot-low : (row : List ℕ) (j : ℕ) → j < pivot_of row → get_or row j 0 ≡ 0
unfolding pivot_of
pivot-low [] j h = absurd (not-suc-le-zero h)
pivot-low (a ∷ row) j h = go (eqb a 0) (eqb-true a 0) (pivot-low row) j h
  where
    go : (b : Bool) → (b ≡ true → a ≡ 0) → ((i : ℕ) → i < pivot_of row → get_or row i 0 ≡ 0) → (i : ℕ) → i < cond b (suc (pivot_of row)) 0
        → get_or (a ∷ row) i 0 ≡ 0
    go true e k zero h = e refl
    go true e k (suc i) h = k i (le_of_suc-le-suc h)
    go false e k i h = absurd (not-suc-le-zero h)

-- there is one at it
pivot-bit : (row : List ℕ) → pivot_of row < length row → get_or row (pivot_of row) 0 ≡ 0 → ⊥
unfolding pivot_of
pivot-bit [] h = absurd (not-suc-le-zero h)
pivot-bit (a ∷ row) h = go (eqb a 0) (eqb-false a 0) (pivot-bit row) h
  where
    go : (b : Bool) → (b ≡ false → a ≡ 0 → ⊥) → (pivot_of row < length row → get_or row (pivot_of row) 0 ≡ 0 → ⊥)
        → cond b (suc (pivot_of row)) 0 < suc (length row) → get_or (a ∷ row) (cond b (suc (pivot_of row)) 0) 0 ≡ 0 → ⊥
    go true e k h = k (le_of_suc-le-suc h)
    go false e k h = e refl

-- ---- rows and vectors

pub record Holding (A : ℕ → ℕ) (m : ℕ) (rows : List (List ℕ)) (vectors : List ℕ) : Type 0 where
  pub wide : (k : ℕ) → k < m → length (row_at k rows) ≡ length vectors
  pub entry : (k j : ℕ) → k < m → get_or (row_at k rows) j 0 ≡ digit_of k (A (get_or vectors j 0))

pub record Reached (A : ℕ → ℕ) (m i : ℕ) (rows : List (List ℕ)) (vectors : List ℕ) : Type 0 where
  pub holds : Holding A m rows vectors
  pub projects : Projects A m i (λ j. get_or vectors j 0)

-- a digit that is not 0
digit-one : (n : ℕ) → (n % 2 ≡ 0 → ⊥) → n % 2 ≡ 1
digit-one = bit-cases (λ d. (d ≡ 0 → ⊥) → d ≡ 1) (λ n. absurd (n refl)) (λ n. refl)

module _ (A : ℕ → ℕ) (add : Additive A) (m : ℕ) where
  module _ {i : ℕ} {rows : List (List ℕ)} {vectors : List ℕ} (h : i < m) (s : Reached A m i rows vectors) where
    abbrev row : List ℕ
    row = row_at i rows

    abbrev p : ℕ
    p = pivot_of row

    abbrev v : ℕ → ℕ
    v j = get_or vectors j 0

    -- the row's bits
    bit : (j : ℕ) → get_or row j 0 % 2 ≡ digit_of i (A (v j))
    bit j = ap (λ a. a % 2) (s.holds.entry i j h) ∙ mod-mod (A (v j) / 2 ^ i) 2

    moved : (j : ℕ) → get_or (swept_by p row vectors) j 0 ≡ sweep A i (v p) (v j)
    moved j = swept_at (v p) row vectors j (s.holds.wide i h) ∙ ap (λ d. bit_xor (v j) (d * v p)) (bit j)

    row_of : (k : ℕ) → row_at k (map (swept_by p row) rows) ≡ swept_by p row (row_at k rows)
    unfolding swept
    row_of k = get_or-map (swept_by p row) rows k []

    entry : (k j : ℕ) → k < m → get_or (row_at k (map (swept_by p row) rows)) j 0 ≡ digit_of k (A (get_or (swept_by p row vectors) j 0))
    entry k j l =
        ap (λ r. get_or r j 0) (row_of k)
        ∙ swept_at (get_or (row_at k rows) p 0) row (row_at k rows) j (s.holds.wide i h ∙ sym (s.holds.wide k l))
        ∙ ap₂ bit_xor (s.holds.entry k j l) (ap₂ (λ a b. a * b) (bit j) (s.holds.entry k p l))
        ∙ sym (map-sweep A (λ x. digit_of k (A x)) (digit-of A add k) i (v p) (v j)) ∙ ap (λ a. digit_of k (A a)) (sym (moved j))

    wide : (k : ℕ) → k < m → length (row_at k (map (swept_by p row) rows)) ≡ length (swept_by p row vectors)
    wide k l =
        ap length (row_of k) ∙ length-swept (get_or (row_at k rows) p 0) row (row_at k rows) ∙ s.holds.wide k l ∙ sym (length-swept (v p) row vectors)

    projected : Dec (p < length row) → Projects A m (suc i) (λ j. get_or (swept_by p row vectors) j 0)
    projected (yes l) =
        turn-pivot A add s.projects p (digit-one (A (v p) / 2 ^ i) (λ z. pivot-bit row l (s.holds.entry i p h ∙ z)))
        (λ j b. sym (s.holds.entry i j h) ∙ pivot-low row j b) moved
    projected (no l) = turn-none A add s.projects none (λ j. moved j ∙ ap (λ d. bit_xor (v j) (d * v p)) (none j) ∙ ap (bit_xor (v j)) (zero-mul (v p)) ∙ xor_zero_r (v j))
      where
        none : (j : ℕ) → digit_of i (A (v j)) ≡ 0
        none j = sym (s.holds.entry i j h) ∙ go (dec_lt j p)
          where
            go : Dec (j < p) → get_or row j 0 ≡ 0
            go (yes b) = pivot-low row j b
            go (no b) = get_or-eq_default row 0 {n = j} (omega arith)

    -- a turn
    pub reached-on : Reached A m (suc i) (map (swept_by p row) rows) (swept_by p row vectors)
    reached-on = record { holds = record { wide = wide; entry = entry }; projects = projected (dec_lt p (length row)) }

  pub reached-after : {rows : List (List ℕ)} {vectors : List ℕ} → Reached A m 0 rows vectors → (i : ℕ) → i ≤ m
      → Reached A m i (rows_after i rows) (vectors_after i rows vectors)
  unfolding rows_after vectors_after
  reached-after s zero h = s
  reached-after s (suc i) h = reached-on h (reached-after s i (omega arith))
