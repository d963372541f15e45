-- What lent tables give: logs and rows.
--   field_of, small_of, numbers_of the field's laws, from what is lent
--   logs-fit, log-at               an element indexes the log table, and its entry is the log
--   row_fits, row_at               the antilog of the sum of a log and an entry of a row is the product, and stands in the
--                                  table
--   antilog-log                    the antilog of a log is the element
--   held-row, row-is-row           a polynomial is held by its row
--   held_below, held-long          what a row holds are elements, as many as its logs
--   square-zero                    0 is its own square
-- Assumes nothing.
use mathlib.Core.Path.{◌≡◌, refl, sym, ap, ap₂, ◌∙◌}
use mathlib.Core.Bool.{Bool, true, false, cond}
use mathlib.Core.List.{List, [], ◌∷◌}
use Prim.Native.Nat.{ℕ, zero, suc, ◌+◌, ◌/◌, ◌%◌, ◌^◌, ◌<◌}
use native.Mathlib.Nat.{not-suc-le-zero, le_of_suc-le-suc}
use native.Mathlib.Decide.{dec_lt}
use native.Mathlib.Omega.{arith}
use lib.Dec.{eqb}
use lib.Pow.{pow_pos}
use lib.ListN.{length, get_or, length-map}
use Rattle.algebra.specs.Field.{OnNumbers, power}
use Rattle.algebra.specs.Polynomial.{Below}
use Rattle.field.proofs.Known.{listed}
use Rattle.field.specs.Field.{Field, size, mul, numbers, position, field_at, G}
use Rattle.field.specs.Tables.{log_of, antilog_of}
use Rattle.field.proofs.Ring.{ring, power-lt}
use Rattle.field.proofs.Generator.{Generated, generated, Small, small, one_below, position-is}
use Rattle.field.proofs.Logarithms.{log-position, antilog-even, log-lt, log-product}
use Rattle.field.proofs.Instance.{known-numbers}
use Rattle.poly.specs.Lent.{Lent, IsLog, LogRow, log_row, held}

-- ---- elements, for any field

module _ (F : Field) (gen : Generated F) where
  -- an antilog is an element
  antilog-lt : (j : ℕ) → antilog_of F j < size F
  unfolding antilog_of
  antilog-lt j = go (eqb (j % 2) 0)
    where
      go : (b : Bool) → cond b (power (numbers F) 2 (j / 2)) 0 < size F
      go true = power-lt F gen.monic (one_below F gen) 2 (j / 2)
      go false = pow_pos F.degree

  -- the antilog of a log
  back : (x : ℕ) → x < size F → antilog_of F (log_of F x) ≡ x
  unfolding antilog_of log_of
  back x h = go (dec_lt 0 x)
    where
      go : Dec (0 < x) → antilog_of F (log_of F x) ≡ x
      go (yes p) = ap (antilog_of F) (log-position F x p) ∙ antilog-even F (position F x) ∙ (position-is F gen x p h).1
      go (no z) = let e : x ≡ 0 = omega arith in ap (λ y. antilog_of F (log_of F y)) e ∙ sym e

-- ---- over lent tables

module _ {m : ℕ} {logs antilogs : List ℕ} (l : Lent m logs antilogs) where
  pub field_of : Generated (field_at m)
  field_of = generated (listed m l.degree)

  pub small_of : Small m (field_at m).poly
  small_of = small (listed m l.degree)

  pub numbers_of : OnNumbers (G m) (2 ^ m)
  numbers_of = known-numbers (listed m l.degree)

  -- an element has its entry
  pub logs-fit : {x : ℕ} → x < 2 ^ m → x < length logs
  logs-fit {x} h = omega (arith, l.logs.entries)

  pub log-at : {x : ℕ} → x < 2 ^ m → get_or logs x 0 ≡ log_of (field_at m) x
  log-at {x} h = l.logs.entry x h

  -- a log and an entry of a row
  pub row_fits : {t x : ℕ} → 0 < t → t < 2 ^ m → IsLog m x → get_or logs t 0 + x < length antilogs
  row_fits {t} {x} p h e =
      omega (
        arith,
        l.antilogs.entries,
        log-at h,
        log-lt (field_at m) field_of t h,
        log-lt (field_at m) field_of (antilog_of (field_at m) x) (antilog-lt (field_at m) field_of x),
        e,
      )

  pub row_at : {t x : ℕ} → 0 < t → t < 2 ^ m → IsLog m x → get_or antilogs (get_or logs t 0 + x) 0 ≡ mul (field_at m) t (antilog_of (field_at m) x)
  row_at {t} {x} p h e =
      l.antilogs.entry (get_or logs t 0 + x) (omega (arith, row_fits p h e, l.antilogs.entries))
      ∙ ap₂ (λ a b. antilog_of (field_at m) (a + b)) (log-at h) (sym e)
      ∙ log-product (field_at m) field_of t (antilog_of (field_at m) x) p h (antilog-lt (field_at m) field_of x)

  antilog-log : {x : ℕ} → x < 2 ^ m → antilog_of (field_at m) (log_of (field_at m) x) ≡ x
  antilog-log {x} h = back (field_at m) field_of x h

  -- rows of polynomials
  pub held-row : (p : List ℕ) → Below (2 ^ m) p → held m (log_row m p) ≡ p
  held-row [] h = refl
  held-row (c ∷ p) h = ap₂ (λ x u. x ∷ u) (antilog-log h.0) (held-row p h.1)

  pub row-is-row : (p : List ℕ) → Below (2 ^ m) p → LogRow m (log_row m p)
  row-is-row p h = record { entry = go p h }
    where
      go : (p : List ℕ) → Below (2 ^ m) p → (i : ℕ) → i < length (log_row m p) → IsLog m (get_or (log_row m p) i 0)
      go [] h i k = absurd (not-suc-le-zero k)
      go (c ∷ p) h zero k = ap (log_of (field_at m)) (antilog-log h.0)
      go (c ∷ p) h (suc i) k = go p h.1 i (le_of_suc-le-suc k)

  pub held_below : (row : List ℕ) → Below (2 ^ m) (held m row)
  held_below [] = tt
  held_below (x ∷ row) = (antilog-lt (field_at m) field_of x, held_below row)

pub held-long : (m : ℕ) (row : List ℕ) → length (held m row) ≡ length row
held-long m row = length-map row (antilog_of (field_at m))

-- 0 is its own square
pub square-zero : {m : ℕ} {ls ts : List ℕ} {x : ℕ} → Lent m ls ts → x ≡ 0 → 0 ≡ mul (field_at m) x x
square-zero {m} {ls} {ts} {x} l z = sym (ap (λ y. mul (field_at m) y x) z ∙ (ring (field_at m) (field_of l).monic).mul-zero-l x)
