-- Products and inverses over the tables of a field.
--   log-inverse                    the antilog of what the log is short of twice the order is the inverse, in any field
--   product-fits, product-stands   the sum of two logs has its antilog, the product
--   inverse-fits, inverse-stands   what a log is short of twice the order has its antilog, the inverse
-- Assumes nothing.
use mathlib.Core.Path.{◌≡◌, sym, ap, ap₂, ◌∙◌}
use mathlib.Core.List.{List}
use Prim.Native.Nat.{ℕ, ◌+◌, ◌-◌, ◌*◌, ◌^◌, ◌≤◌, ◌<◌}
use native.Mathlib.Omega.{arith}
use lib.ListN.{length, get_or}
use Rattle.algebra.specs.Field.{power}
use Rattle.field.specs.Field.{Field, size, order, mul, inverse, numbers, position, field_at}
use Rattle.field.specs.Tables.{log_of, antilog_of}
use Rattle.field.specs.Lent.{Lent}
use Rattle.field.proofs.Known.{listed}
use Rattle.field.proofs.Ring.{power-lt, power-add}
use Rattle.field.proofs.Generator.{Generated, generated, one_below, position-is, power-order, inverse-only}
use Rattle.field.proofs.Logarithms.{log-position, antilog-even, log-lt, log-product}

-- the rest of the way round
pub log-inverse : (F : Field) (gen : Generated F) (x : ℕ) → 0 < x → x < size F → antilog_of F (2 * order F - log_of F x) ≡ inverse F x
log-inverse F gen x p h =
    let at = position-is F gen x p h in
    let l = at.0 in
    let i : ℕ = position F x in
    let j : ℕ = order F - i in
    let whole : i + j ≡ order F = omega arith in
    let place : 2 * order F - log_of F x ≡ 2 * j = omega (arith, log-position F x p) in
    ap (antilog_of F) place ∙ antilog-even F j
    ∙ sym (inverse-only F gen x (power (numbers F) 2 j) p h (power-lt F gen.monic (one_below F gen) 2 j)
    (ap (λ (y : ℕ). mul F y (power (numbers F) 2 j)) (sym at.1)
    ∙ sym (power-add F gen.monic (one_below F gen) 2 i j) ∙ ap (power (numbers F) 2) whole ∙ power-order F gen))

module _ {m : ℕ} {logs antilogs : List ℕ} (l : Lent m logs antilogs) where
  its : Generated (field_at m)
  its = generated (listed m l.degree)

  pub product-fits : {x y : ℕ} → x < 2 ^ m → y < 2 ^ m → get_or logs x 0 + get_or logs y 0 < length antilogs
  product-fits {x} {y} h k =
      omega (
        arith,
        l.antilogs.entries,
        l.logs.entry x h,
        l.logs.entry y k,
        log-lt (field_at m) its x h,
        log-lt (field_at m) its y k,
      )

  pub product-stands : {x y : ℕ} → 0 < x → x < 2 ^ m → y < 2 ^ m
      → get_or antilogs (get_or logs x 0 + get_or logs y 0) 0 ≡ mul (field_at m) x y
  product-stands {x} {y} p h k =
      l.antilogs.entry (get_or logs x 0 + get_or logs y 0) (omega (arith, product-fits h k, l.antilogs.entries))
      ∙ ap₂ (λ (u v : ℕ). antilog_of (field_at m) (u + v)) (l.logs.entry x h) (l.logs.entry y k) ∙ log-product (field_at m) its x y p h k

  pub inverse-fits : {x : ℕ} → 0 < x → x < 2 ^ m
      → (get_or logs x 0 ≤ 2 * (length logs - 1)) × (2 * (length logs - 1) - get_or logs x 0 < length antilogs)
  inverse-fits {x} p h =
      let two = its.two in
      let k = log-lt (field_at m) its x h in
      (omega (arith, l.logs.entries, l.logs.entry x h), omega (arith, l.logs.entries, l.antilogs.entries, l.logs.entry x h))

  pub inverse-stands : {x : ℕ} → 0 < x → x < 2 ^ m → get_or antilogs (2 * (length logs - 1) - get_or logs x 0) 0 ≡ inverse (field_at m) x
  inverse-stands {x} p h =
      let e : 2 * (length logs - 1) - get_or logs x 0 ≡ 2 * order (field_at m) - log_of (field_at m) x =
      ap₂ (λ (n i : ℕ). 2 * (n - 1) - i) l.logs.entries (l.logs.entry x h) in
      l.antilogs.entry (2 * (length logs - 1) - get_or logs x 0) (omega (arith, (inverse-fits p h).1, l.antilogs.entries))
      ∙ ap (antilog_of (field_at m)) e ∙ log-inverse (field_at m) its x p h
