-- The quotient by one look-up: the antilog of the log of what is divided, and twice the order less the log of the
-- divisor.
--   log-none                     the log of 0
--   inverse-power                the inverse is a power of 2
--   quotient_fits, quotient-at   it stands in the table
-- Assumes nothing.
use mathlib.Core.Path.{◌≡◌, refl, sym, ap, ap₂, ◌∙◌}
use mathlib.Core.List.{List}
use Prim.Native.Nat.{ℕ, ◌+◌, ◌-◌, ◌*◌, ◌^◌, ◌≤◌, ◌<◌}
use native.Mathlib.Decide.{dec_lt}
use native.Mathlib.Omega.{arith}
use lib.ListN.{length, get_or}
use Rattle.algebra.specs.Field.{power}
use Rattle.field.specs.Field.{Field, order, mul, inverse, numbers, position, field_at}
use Rattle.field.specs.Tables.{log_of, antilog_of}
use Rattle.field.proofs.Ring.{power-add, mul-zero-r}
use Rattle.field.proofs.Generator.{one_below, position-is}
use Rattle.field.proofs.Logarithms.{log-position, log-lt, antilog-even, antilog-odd}
use Rattle.poly.specs.Lent.{Lent}
use Rattle.field.proofs.ByLogs.{inverse-fits, inverse-stands}
use Rattle.poly.proofs.Logs.{field_of, log-at}

-- the log of 0
log-none : (F : Field) → log_of F 0 ≡ 1
unfolding log_of
log-none F = refl

module _ {m : ℕ} {ls ts : List ℕ} (l : Lent m ls ts) {x y : ℕ} (p : 0 < x) (h : x < 2 ^ m) (k : y < 2 ^ m) where
  -- the field
  abbrev F : Field
  F = field_at m

  pub quotient_fits : 2 * (length ls - 1) - get_or ls x 0 + get_or ls y 0 < length ts
  quotient_fits =
      omega (
        arith,
        l.logs.entries,
        l.antilogs.entries,
        log-at l k,
        log-lt F (field_of l) y k,
        (inverse-fits l p h).0,
        at_least,
      )
    where
      at_least : 0 ≤ get_or ls x 0
      at_least = omega arith

  -- what is left of the order is the log of the inverse
  abbrev i : ℕ
  i = order F - position F x

  place : 2 * (length ls - 1) - get_or ls x 0 ≡ 2 * i
  place = omega (arith, l.logs.entries, log-at l h, log-position F x p, (position-is F (field_of l) x p h).0)

  inverse-power : inverse F x ≡ power (numbers F) 2 i
  inverse-power =
      sym (inverse-stands l p h) ∙ l.antilogs.entry (2 * (length ls - 1) - get_or ls x 0) (omega (arith, (inverse-fits l p h).1, l.antilogs.entries))
      ∙ ap (antilog_of F) place ∙ antilog-even F i

  pub quotient-at : get_or ts (2 * (length ls - 1) - get_or ls x 0 + get_or ls y 0) 0 ≡ mul F (inverse F x) y
  quotient-at =
      l.antilogs.entry (2 * (length ls - 1) - get_or ls x 0 + get_or ls y 0) (omega (arith, quotient_fits, l.antilogs.entries))
      ∙ ap₂ (λ a b. antilog_of F (a + b)) place (log-at l k) ∙ go (dec_lt 0 y)
    where
      go : Dec (0 < y) → antilog_of F (2 * i + log_of F y) ≡ mul F (inverse F x) y
      go (yes q) =
          let sum : 2 * i + log_of F y ≡ 2 * (i + position F y) = omega (arith, log-position F y q) in
          ap (antilog_of F) sum ∙ antilog-even F (i + position F y)
          ∙ power-add F (field_of l).monic (one_below F (field_of l)) 2 i (position F y)
          ∙ ap₂ (mul F) (sym inverse-power) (position-is F (field_of l) y q k).1
      go (no z) =
          let e : y ≡ 0 = omega arith in
          antilog-odd F (2 * i + log_of F y) (omega (arith, ap (log_of F) e, log-none F))
          ∙ sym (mul-zero-r F (field_of l).monic (inverse F x)) ∙ ap (mul F (inverse F x)) (sym e)
