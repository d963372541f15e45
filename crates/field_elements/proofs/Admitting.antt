-- The tests of the element calls: which refusal the code's tests show, and what is known where all pass.
--   let-in, turned-away                what the tests find
--   row-is, row-field                  the field's row, and the field of it
--   asks-product, asks-inverse, asks-position, asks-quadratic   what the row's functions ask
--   pair-outside, pair-in, pair-told   the tests on two elements
--   one-in, one-zero, one_told         the tests on one element that must not be 0
--   place-tests, place-unnamed, place-told   the tests of a position
-- Assumes nothing.
use mathlib.Core.Path.{◌≡◌, refl, sym, ap, subst}
use mathlib.Core.Bool.{Bool, true, false, not, ◌||◌}
use mathlib.Core.List.{List, [], ◌∷◌}
use mathlib.Core.Logic.{◌⊎◌, inl, inr}
use Prim.Native.Nat.{ℕ, ◌/◌, ◌≤◌, ◌<◌, ◌^◌}
use native.Mathlib.Omega.{arith}
use borrow.Author.Tests.{eq-eqb, ne_eqb, le-ltb, lt-ltb, le-leb, lt-leb, leb-false, eqb-false, not-false}
use lib.Dec.{eqb}
use Rattle.refusals.specs.Order.{Given, Passed}
use Rattle.refusals.specs.Order.Given.{here, later}
use Rattle.refusals.specs.Order.Passed.{none}
use Rattle.refusals.specs.Numbers.{number_of}
use Rattle.field.specs.Rows.{known, poly_of, IsRow, ListedRow}
use Rattle.field.specs.Field.{field_of, field_at}
use Rattle.field.specs.Tables.{Logs, Halves}
use Rattle.field.specs.declared.rows.Row.{Row}
use Rattle.std.specs.Prelude.{Result, Ok, Err}
use Rattle.refusals.specs.declared.Refusal.{Refusal}
use Rattle.refusals.proofs.Order.{holds, fails, passes, failed, others, given-before, given-behind, passed-both}
use Rattle.field.proofs.Known.{listed, listed-on}
use Rattle.field.proofs.Generator.{product-asks}
use Rattle.field_elements.specs.Calls.{AdmitsRow, outside, pair_tests, nonzero_tests, position_tests}

-- what the tests find
pub let-in : {ts : List (ℕ × Bool)} {m : ℕ} {r : Result Row Refusal} {row : Row} → AdmitsRow ts m r → r ≡ Ok row → Passed ts × IsRow m row
let-in {ts} {m} h e = subst (AdmitsRow ts m) e h

pub turned-away : {ts : List (ℕ × Bool)} (m : ℕ) {r : Result Row Refusal} {k : Refusal} → AdmitsRow ts m r → r ≡ Err k → Given (number_of k) ts
turned-away {ts} m h e = subst (AdmitsRow ts m) e h

-- ---- the field's row
row_from : ℕ → ℕ → ℕ → Row
row_from m p s = record { degree = m; poly = p; size = s }

row-is : {m : ℕ} {row : Row} → IsRow m row → row ≡ record { degree = m; poly = poly_of m; size = 2 ^ m }
unfolding row_from
row-is {m} {row} i =
    let d = i.degree in
    let p = i.list.poly in
    let s = i.size in
    let e : row_from row.degree row.poly row.size ≡ row_from m (poly_of m) (2 ^ m) = cc in e

pub row-field : {m : ℕ} {row : Row} → IsRow m row → field_of row.degree row.poly ≡ field_at m
row-field i = ap (λ (row : Row). field_of row.degree row.poly) (row-is i)

-- what is known of the row of the degree is known of it
at-row : (P : Row → Type 0) {m : ℕ} {row : Row} → IsRow m row → P (record { degree = m; poly = poly_of m; size = 2 ^ m }) → P row
at-row P i = subst P (sym (row-is i))

pub asks-product : {m b : ℕ} {row : Row} → IsRow m row → b < 2 ^ m → (row.degree < 16) × (row.poly / 2 ^ row.degree ≡ 1) × (b < 2 ^ row.degree)
asks-product {m} {b} i h =
    at-row (λ (row : Row). (row.degree < 16) × (row.poly / 2 ^ row.degree ≡ 1) × (b < 2 ^ row.degree)) i (product-asks (listed m i.list.degree) h)

pub asks-inverse : {m a : ℕ} {row : Row} → IsRow m row → 0 < a → a < 2 ^ m → ListedRow row.degree row.poly × (0 < a) × (a < 2 ^ row.degree)
asks-inverse {m} {a} i p h = at-row (λ (row : Row). ListedRow row.degree row.poly × (0 < a) × (a < 2 ^ row.degree)) i (listed m i.list.degree, p, h)

pub asks-position : {m a : ℕ} {ls : List ℕ} {row : Row} → IsRow m row → Logs (field_at m) ls → 0 < a → a < 2 ^ m
    → Logs (field_of row.degree row.poly) ls × (0 < a) × (a < 2 ^ row.degree)
asks-position {a = a} {ls} i l p h = at-row (λ (row : Row). Logs (field_of row.degree row.poly) ls × (0 < a) × (a < 2 ^ row.degree)) i (l, p, h)

pub asks-quadratic : {m a b : ℕ} {hs : List ℕ} {row : Row} → IsRow m row → Halves (field_at m) hs → a < 2 ^ m → b < 2 ^ m
    → ListedRow row.degree row.poly × Halves (field_of row.degree row.poly) hs × (a < 2 ^ row.degree) × (b < 2 ^ row.degree)
asks-quadratic {m} {a} {b} {hs} i t h k =
    at-row (λ (row : Row). ListedRow row.degree row.poly × Halves (field_of row.degree row.poly) hs × (a < 2 ^ row.degree) × (b < 2 ^ row.degree)) i
    (listed m i.list.degree, t, h, k)

outside-on : {m a : ℕ} {row : Row} → IsRow m row → row.size ≤ a → outside m a ≡ true
outside-on {m} {a} i h = le-leb (2 ^ m) a (subst (λ (n : ℕ). n ≤ a) i.size h)

inside_on : {m a : ℕ} {row : Row} → IsRow m row → (a < row.size) → outside m a ≡ false
inside_on {m} {a} i h = lt-leb (2 ^ m) a (subst (λ (n : ℕ). a < n) i.size h)

-- one of two that hold, and two that fail
or_left : {b : Bool} (c : Bool) → b ≡ true → (b || c) ≡ true
or_left c e = rw e refl

or-second : {b c : Bool} (d : Bool) → b ≡ false → c ≡ d → (b || c) ≡ d
or-second d e f = rw e f

or-failed : (b c : Bool) → (b || c) ≡ false → (b ≡ false) × (c ≡ false)
or-failed true c e = absurd (let z : ◌≡◌ {A = Bool} true false = e in let n : ◌≡◌ {A = ℕ} 0 1 = cc in let x : ⊥ = omega arith in x)
or-failed false c e = (refl, e)

-- ---- two elements
pub pair-outside : {m a b : ℕ} {row : Row} → IsRow m row → (row.size ≤ a) ⊎ ((a < row.size) × (row.size ≤ b)) → Given 4 (pair_tests m a b)
pair-outside i (inl h) = fails (listed-on i) (holds (or_left _ (outside-on i h)))
pair-outside i (inr h) = fails (listed-on i) (holds (or-second true (inside_on i h.0) (outside-on i h.1)))

pub pair-in : {m a b : ℕ} {row : Row} → IsRow m row → (a < row.size) → (b < row.size) → Passed (pair_tests m a b)
pair-in i h k = passes (listed-on i) (passes (or-second false (inside_on i h) (inside_on i k)) none)

-- what is known of two elements that were let in
pub record PairIn (m a b : ℕ) : Type 0 where
  pub field : known m ≡ true
  pub first : a < 2 ^ m
  pub second : b < 2 ^ m

pub pair-told : {m a b : ℕ} → Passed (pair_tests m a b) → PairIn m a b
pair-told {m} {a} {b} p =
    let o = or-failed (outside m a) (outside m b) (failed (others p)) in
    record { field = not-false (known m) (failed p); first = leb-false (2 ^ m) a o.0; second = leb-false (2 ^ m) b o.1 }

-- ---- one element that must not be 0
or-twice : (b : Bool) → (b || b) ≡ b
or-twice true = refl
or-twice false = refl

-- the tests of a pair of it
one-first : (m a : ℕ) {k : ℕ} → Given k (pair_tests m a a) → Given k (nonzero_tests m a)
one-first m a {k} g =
    given-before ((13, eqb a 0) ∷ []) (subst (λ (t : Bool). Given k ((1, not (known m)) ∷ (4, t) ∷ [])) (or-twice (outside m a)) g)

pub one-turned : (m a : ℕ) {r : Result Row Refusal} {k : Refusal} → AdmitsRow (pair_tests m a a) m r → r ≡ Err k → Given (number_of k) (nonzero_tests m a)
one-turned m a h e = one-first m a (turned-away m h e)

-- and one behind them
one-behind : (m a : ℕ) → Passed (pair_tests m a a) → Passed ((1, not (known m)) ∷ (4, outside m a) ∷ [])
one-behind m a p = subst (λ (t : Bool). Passed ((1, not (known m)) ∷ (4, t) ∷ [])) (or-twice (outside m a)) p

pub one-zero : (m a : ℕ) → Passed (pair_tests m a a) → a ≡ 0 → Given 13 (nonzero_tests m a)
one-zero m a p e = given-behind (one-behind m a p) (holds (eq-eqb a 0 e))

pub one-in : (m a : ℕ) → Passed (pair_tests m a a) → (a ≡ 0 → ⊥) → Passed (nonzero_tests m a)
one-in m a p n = passed-both (one-behind m a p) (passes (ne_eqb a 0 n) none)

-- what is known of an element that was let in
pub record OneIn (m a : ℕ) : Type 0 where
  pub field : known m ≡ true
  pub positive : 0 < a
  pub below : a < 2 ^ m

pub one_told : {m a : ℕ} → Passed (nonzero_tests m a) → OneIn m a
one_told {m} {a} p =
    record {
      field = not-false (known m) (failed p);
      positive = let n = eqb-false a 0 (failed (others (others p))) in omega arith;
      below = leb-false (2 ^ m) a (failed (others p));
    }

-- ---- a position
-- a test that fails may stand behind the first
behind-first : {n j i : ℕ} {s t : Bool} {ts : List (ℕ × Bool)} → t ≡ false → Given n ((j, s) ∷ ts) → Given n ((j, s) ∷ (i, t) ∷ ts)
behind-first e here = here
behind-first e (later g) = later (fails e g)

-- under a convention there are the tests of the element; what is none is turned away in every field that is known
pub place-tests : (m r : ℕ) {v : ℕ} (a : Result Row Refusal) → v ≤ 1 → AdmitsRow (nonzero_tests m r) m a → AdmitsRow (position_tests m r v) m a
place-tests m r {v} (Ok row) h p = (passes (failed p.0) (passes (le-ltb 1 v h) (others p.0)), p.1)
place-tests m r {v} (Err k) h g = behind-first (le-ltb 1 v h) g

pub place-unnamed : {m : ℕ} (r : ℕ) {v : ℕ} {row : Row} → IsRow m row → 1 < v → Given 21 (position_tests m r v)
place-unnamed r {v} i h = fails (listed-on i) (holds (lt-ltb 1 v h))

-- what is known of an element and a convention that were let in
pub place-told : {m a : ℕ} (v : ℕ) → Passed (position_tests m a v) → OneIn m a
place-told {m} {a} v p =
    record {
      field = not-false (known m) (failed p);
      positive = let n = eqb-false a 0 (failed (others (others (others p)))) in omega arith;
      below = leb-false (2 ^ m) a (failed (others (others p)));
    }
