-- The log and antilog tables, for any field: a test over each table, the law that turns it into the rule at each
-- entry, and the product by logs.
--   log_test, logs-hold            the log table: along 1, 2, 4, .. the entry at a^j is 2j
--   antilog_test, antilogs-hold    the antilog table: the powers as they go on, a zero behind each
--   log-position, log-half        the log of a nonzero element is twice its position;  log-lt  every log is below
--                                 twice the order
--   antilog-even, antilog-odd     what the antilog table holds at 2j and at an odd place
--   antilogs-power                a lent antilog table holds a^j at 2j
--   log-product                   the antilog of the sum of two logs is the product
-- Assumes nothing.
use mathlib.Core.Path.{◌≡◌, refl, sym, ap, ap₂, ◌∙◌, subst}
use mathlib.Core.Bool.{Bool, true, cond}
use mathlib.Core.List.{List, [], ◌∷◌}
use Prim.Native.Nat.{ℕ, zero, suc, ◌+◌, ◌*◌, ◌/◌, ◌%◌, ◌<◌}
use native.Mathlib.Nat.{add-zero, add-suc, suc-add, zero-add, not-suc-le-zero, le_of_suc-le-suc}
use native.Mathlib.Decide.{dec_lt}
use native.Mathlib.Omega.{arith}
use borrow.Author.Tests.{eq-eqb, ne_eqb}
use lib.Dec.{T, eqb, eqb→eq}
use lib.ListN.{length, get_or}
use Rattle.algebra.specs.Field.{power}
use Rattle.field.specs.Field.{cut, Field, size, order, mul, numbers, position}
use Rattle.field.specs.Tables.{log_of, antilog_of, Logs, Antilogs}
use Rattle.field.proofs.Table.{both_true, both_true-left, both_true-right}
use Rattle.field.proofs.Tree.{Tree, grow, look, look_is}
use Rattle.field.proofs.Ring.{ring, power-lt, power-add}
use Rattle.field.proofs.Generator.{Generated, one_below, position-is}

-- the tree holds 2j, 2j + 2, .. at y, 2y, .. : n places
unfoldable pub logs_from : Field → Tree → ℕ → ℕ → ℕ → Bool
unfolding look cut
logs_from F t zero j y = true
logs_from F t (suc n) j y = both_true (eqb (look t y) (2 * j)) (logs_from F t n (suc j) (cut F (y * 2)))

unfoldable pub log_test : Field → List ℕ → Bool
unfolding logs_from grow
log_test F xs = both_true (eqb (length xs) (size F)) (both_true (eqb (get_or xs 0 0) 1) (logs_from F (grow F.degree xs) (order F) 0 1))

-- y, 0, 2y, 0, .. to the end
unfoldable pub antilogs_from : Field → ℕ → List ℕ → Bool
unfolding cut
antilogs_from F y [] = true
antilogs_from F y (x ∷ []) = eqb x y
antilogs_from F y (x ∷ z ∷ xs) = both_true (eqb x y) (both_true (eqb z 0) (antilogs_from F (cut F (y * 2)) xs))

unfoldable pub antilog_test : Field → List ℕ → Bool
unfolding antilogs_from
antilog_test F xs = both_true (eqb (length xs) (4 * order F)) (antilogs_from F 1 xs)

-- the log of a nonzero element is twice its position
pub log-position : (F : Field) (x : ℕ) → 0 < x → log_of F x ≡ 2 * position F x
unfolding log_of
log-position F x p = rw (ne_eqb x 0 (λ e. let b : ⊥ = omega arith in b))

pub log-half : (F : Field) (x : ℕ) → 0 < x → log_of F x / 2 ≡ position F x
log-half F x p = omega (arith, log-position F x p)

-- the antilog of twice an exponent
pub antilog-even : (F : Field) (j : ℕ) → antilog_of F (2 * j) ≡ power (numbers F) 2 j
unfolding antilog_of
antilog-even F j =
    let e : 2 * j % 2 ≡ 0 = omega arith in
    let h : 2 * j / 2 ≡ j = omega arith in
    rw (eq-eqb (2 * j % 2) 0 e) (ap (power (numbers F) 2) h)

-- the antilog of an odd number
pub antilog-odd : (F : Field) (j : ℕ) → j % 2 ≡ 1 → antilog_of F j ≡ 0
unfolding antilog_of
antilog-odd F j h = rw (ne_eqb (j % 2) 0 (λ e. let b : ⊥ = omega arith in b))

-- the same over a lent table: the place is within it, and the power stands there
pub antilogs-power : (F : Field) {antilogs : List ℕ} → Antilogs F antilogs → (j : ℕ) → j < 2 * order F
    → (2 * j < length antilogs) × (get_or antilogs (2 * j) 0 ≡ power (numbers F) 2 j)
antilogs-power F A j h = (omega (arith, A.entries), A.entry (2 * j) (omega arith) ∙ antilog-even F j)

module _ (F : Field) (gen : Generated F) where
  open ring F gen.monic use {mul-zero-l, mul-zero-r, mul-one-l, mul_comm, mul-two}

  -- twice a power is the next
  power-next : (j : ℕ) → cut F (power (numbers F) 2 j * 2) ≡ power (numbers F) 2 (suc j)
  unfolding power
  power-next j = sym (mul-two (power (numbers F) 2 j) (power-lt F gen.monic (one_below F gen) 2 j))

  -- ---- logs
  logs_at : (t : Tree) (n j : ℕ) → T (logs_from F t n j (power (numbers F) 2 j)) → (k : ℕ) → k < n → look t (power (numbers F) 2 (j + k)) ≡ 2 * (j + k)
  unfolding logs_from
  logs_at t zero j h k l = absurd (not-suc-le-zero l)
  logs_at t (suc n) j h zero l =
      ap (λ (i : ℕ). look t (power (numbers F) 2 i)) (add-zero j)
      ∙ eqb→eq (look t (power (numbers F) 2 j)) (2 * j) (both_true-left (eqb (look t (power (numbers F) 2 j)) (2 * j)) _ h) ∙ ap (λ (i : ℕ). 2 * i) (sym (add-zero j))
  logs_at t (suc n) j h (suc k) l =
      let shift : j + suc k ≡ suc j + k = add-suc j k ∙ sym (suc-add j k) in
      ap (λ (i : ℕ). look t (power (numbers F) 2 i)) shift
      ∙ logs_at t n (suc j)
      (subst (λ (y : ℕ). T (logs_from F t n (suc j) y)) (power-next j) (both_true-right (eqb (look t (power (numbers F) 2 j)) (2 * j)) _ h)) k (omega arith)
      ∙ ap (λ (i : ℕ). 2 * i) (sym shift)

  pub logs-hold : (xs : List ℕ) → T (log_test F xs) → Logs F xs
  unfolding log_test log_of power
  logs-hold xs h =
      record { entries = eqb→eq (length xs) (size F) (both_true-left (eqb (length xs) (size F)) _ h); entry = λ x l. at x l (dec_lt 0 x) }
    where
      rest : T (both_true (eqb (get_or xs 0 0) 1) (logs_from F (grow F.degree xs) (order F) 0 1))
      rest = both_true-right (eqb (length xs) (size F)) _ h

      at : (x : ℕ) → x < size F → Dec (0 < x) → get_or xs x 0 ≡ cond (eqb x 0) 1 (2 * position F x)
      at x l (no z) =
          let e : x ≡ 0 = omega arith in
          ap (λ (i : ℕ). get_or xs i 0) e ∙ eqb→eq (get_or xs 0 0) 1 (both_true-left (eqb (get_or xs 0 0) 1) _ rest) ∙ rw (eq-eqb x 0 e)
      at x l (yes p) =
          let j = position-is F gen x p l in
          sym (look_is F.degree xs x l) ∙ ap (look (grow F.degree xs)) (sym j.1 ∙ ap (power (numbers F) 2) (sym (zero-add (position F x))))
          ∙ logs_at (grow F.degree xs) (order F) 0 (both_true-right (eqb (get_or xs 0 0) 1) _ rest) (position F x) j.0
          ∙ ap (λ (i : ℕ). 2 * i) (zero-add (position F x)) ∙ rw (ne_eqb x 0 (λ e. let b : ⊥ = omega arith in b))

  -- ---- antilogs
  -- an even entry of those from a^j on, and an odd entry
  antilogs-at : (j : ℕ) (xs : List ℕ) → T (antilogs_from F (power (numbers F) 2 j) xs) → (k : ℕ) → k < length xs
      → (k % 2 ≡ 0 → get_or xs k 0 ≡ power (numbers F) 2 (j + k / 2)) × (k % 2 ≡ 1 → get_or xs k 0 ≡ 0)
  unfolding antilogs_from
  antilogs-at j [] h k l = absurd (not-suc-le-zero l)
  antilogs-at j (x ∷ []) h zero l =
      (λ _. eqb→eq x (power (numbers F) 2 j) h ∙ ap (power (numbers F) 2) (sym (add-zero j)), λ e. let b : ⊥ = omega arith in absurd b)
  antilogs-at j (x ∷ []) h (suc k) l = absurd (not-suc-le-zero (le_of_suc-le-suc l))
  antilogs-at j (x ∷ z ∷ xs) h zero l = (
    λ _. eqb→eq x (power (numbers F) 2 j) (both_true-left (eqb x (power (numbers F) 2 j)) _ h) ∙ ap (power (numbers F) 2) (sym (add-zero j)),
    λ e. let b : ⊥ = omega arith in absurd b,
  )
  antilogs-at j (x ∷ z ∷ xs) h (suc zero) l = (
    λ e. let b : ⊥ = omega arith in absurd b,
    λ _. eqb→eq z 0 (both_true-left (eqb z 0) _ (both_true-right (eqb x (power (numbers F) 2 j)) _ h)),
  )
  antilogs-at j (x ∷ z ∷ xs) h (suc (suc k)) l =
      let t = antilogs-at (suc j) xs
      (subst (λ (y : ℕ). T (antilogs_from F y xs)) (power-next j) (both_true-right (eqb z 0) _ (both_true-right (eqb x (power (numbers F) 2 j)) _ h))) k
      (le_of_suc-le-suc (le_of_suc-le-suc l)) in
      let place : suc j + k / 2 ≡ j + suc (suc k) / 2 = omega arith in
      (λ e. t.0 (omega arith) ∙ ap (power (numbers F) 2) place, λ e. t.1 (omega arith))

  pub antilogs-hold : (xs : List ℕ) → T (antilog_test F xs) → Antilogs F xs
  unfolding antilog_test power
  antilogs-hold xs h = record { entries = entries; entry = λ j l. at j (antilogs-at 0 xs rest j (omega (arith, entries))) (dec_lt (j % 2) 1) }
    where
      entries : length xs ≡ 4 * order F
      entries = eqb→eq (length xs) (4 * order F) (both_true-left (eqb (length xs) (4 * order F)) _ h)

      rest : T (antilogs_from F 1 xs)
      rest = both_true-right (eqb (length xs) (4 * order F)) _ h

      at : (j : ℕ) → (j % 2 ≡ 0 → get_or xs j 0 ≡ power (numbers F) 2 (0 + j / 2)) × (j % 2 ≡ 1 → get_or xs j 0 ≡ 0) → Dec (j % 2 < 1)
          → get_or xs j 0 ≡ antilog_of F j
      at j t (yes a) =
          let e : 2 * (j / 2) ≡ j = omega arith in
          t.0 (omega arith) ∙ ap (power (numbers F) 2) (zero-add (j / 2)) ∙ sym (antilog-even F (j / 2)) ∙ ap (antilog_of F) e
      at j t (no a) = let b : j % 2 ≡ 1 = omega arith in t.1 b ∙ sym (antilog-odd F j b)

  -- ---- the product by logs
  log-zero : log_of F 0 ≡ 1
  unfolding log_of
  log-zero = refl

  -- every log is below twice the order
  pub log-lt : (x : ℕ) → x < size F → log_of F x < 2 * order F
  log-lt x l = go (dec_lt 0 x)
    where
      go : Dec (0 < x) → log_of F x < 2 * order F
      go (yes p) = omega (arith, log-position F x p, (position-is F gen x p l).0)
      go (no z) = let e : log_of F x ≡ 1 = ap (log_of F) (let n : x ≡ 0 = omega arith in n) ∙ log-zero in let two = gen.two in omega arith

  pub log-product : (x y : ℕ) → 0 < x → x < size F → y < size F → antilog_of F (log_of F x + log_of F y) ≡ mul F x y
  log-product x y p l m = go (dec_lt 0 y)
    where
      go : Dec (0 < y) → antilog_of F (log_of F x + log_of F y) ≡ mul F x y
      go (yes q) =
          let sum : log_of F x + log_of F y ≡ 2 * (position F x + position F y) = omega (arith, log-position F x p, log-position F y q) in
          ap (antilog_of F) sum ∙ antilog-even F (position F x + position F y)
          ∙ power-add F gen.monic (one_below F gen) 2 (position F x) (position F y)
          ∙ ap₂ (mul F) (position-is F gen x p l).1 (position-is F gen y q m).1
      go (no z) =
          let e : y ≡ 0 = omega arith in
          let k : log_of F y ≡ 1 = ap (log_of F) e ∙ log-zero in
          antilog-odd F (log_of F x + log_of F y) (omega (arith, k, log-position F x p)) ∙ sym (mul-zero-r x) ∙ ap (mul F x) (sym e)
