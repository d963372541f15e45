-- Quotients and square roots by the log and the antilog, in any generated field.
--   log-quotient  the antilog of a log and what another is short of twice the order is the quotient
--   log-root      the antilog of the position, made even, is the square root
--   quotient      s / a times a has the square of s
-- Assumes nothing.
use mathlib.Core.Path.{◌≡◌, sym, ap, ap₂, ◌∙◌}
use Prim.Native.Nat.{ℕ, ◌+◌, ◌-◌, ◌*◌, ◌/◌, ◌%◌, ◌<◌}
use native.Mathlib.Decide.{dec_lt}
use native.Mathlib.Omega.{arith}
use Rattle.algebra.specs.Field.{power}
use Rattle.field.specs.Field.{Field, size, order, mul, numbers, inverse, position}
use Rattle.field.specs.Powers.{turned}
use Rattle.field.specs.Tables.{log_of, antilog_of}
use Rattle.field.proofs.Ring.{ring, power-lt, power-add}
use Rattle.field.proofs.Generator.{Generated, one_below, power-order, position-is, mul-inverse}
use Rattle.field.proofs.ByLogs.{log-inverse}
use Rattle.field.proofs.Logarithms.{log-position, log-half, antilog-even, antilog-odd}

module _ (F : Field) (gen : Generated F) where
  open ring F gen.monic use {mul-one-r, mul_assoc, mul_comm, mul-zero-r}

  -- one way on and the rest of another way round; odd where x is 0
  pub log-quotient : (x y : ℕ) → x < size F → 0 < y → y < size F
      → antilog_of F (log_of F x + (2 * order F - log_of F y)) ≡ mul F (inverse F y) x
  unfolding log_of
  log-quotient x y h p l = go (dec_lt 0 x)
    where
      turned-back : power (numbers F) 2 (order F - position F y) ≡ inverse F y
      turned-back =
          sym (antilog-even F (order F - position F y))
          ∙ ap (antilog_of F) (let e : 2 * (order F - position F y) ≡ 2 * order F - log_of F y = omega (arith, log-position F y p) in e)
          ∙ log-inverse F gen y p l

      go : Dec (0 < x) → antilog_of F (log_of F x + (2 * order F - log_of F y)) ≡ mul F (inverse F y) x
      go (yes q) =
          ap (antilog_of F) (let e : log_of F x + (2 * order F - log_of F y) ≡ 2 * (position F x + (order F - position F y)) = omega (arith, log-position F x q, log-position F y p, (position-is F gen y p l).0) in e)
          ∙ antilog-even F (position F x + (order F - position F y))
          ∙ power-add F gen.monic (one_below F gen) 2 (position F x) (order F - position F y)
          ∙ ap₂ (mul F) (position-is F gen x q h).1 turned-back ∙ mul_comm x (inverse F y)
      go (no n) =
          let z : x ≡ 0 = omega arith in
          let e : log_of F x ≡ 1 = ap (log_of F) z in
          antilog-odd F (log_of F x + (2 * order F - log_of F y)) (omega (arith, e, log-position F y p, (position-is F gen y p l).0))
          ∙ sym (ap (mul F (inverse F y)) z ∙ mul-zero-r (inverse F y))

  -- a power of an even number of factors
  root-of-power : (x s : ℕ) → x < size F → (power (numbers F) 2 (s + s) ≡ x) → (power (numbers F) 2 s < size F) × (mul F (power (numbers F) 2 s) (power (numbers F) 2 s) ≡ x)
  root-of-power x s l e = (power-lt F gen.monic (one_below F gen) 2 s, sym (power-add F gen.monic (one_below F gen) 2 s s) ∙ e)

  -- the position k, or k and the order, is even
  pub log-root : (x k : ℕ) → 0 < x → x < size F → order F % 2 ≡ 1 → k ≡ log_of F x / 2
      → (antilog_of F (k + k % 2 * order F) < size F) × (mul F (antilog_of F (k + k % 2 * order F)) (antilog_of F (k + k % 2 * order F)) ≡ x)
  log-root x k p l odd e = go (dec_lt (k % 2) 1)
    where
      at : k ≡ position F x
      at = e ∙ log-half F x p

      here : power (numbers F) 2 k ≡ x
      here = ap (power (numbers F) 2) at ∙ (position-is F gen x p l).1

      whole : (s : ℕ) → k + k % 2 * order F ≡ 2 * s → power (numbers F) 2 (s + s) ≡ x
          → (antilog_of F (k + k % 2 * order F) < size F) × (mul F (antilog_of F (k + k % 2 * order F)) (antilog_of F (k + k % 2 * order F)) ≡ x)
      whole s i h = rw (i, antilog-even F s) (root-of-power x s l h)

      go : Dec (k % 2 < 1) → (antilog_of F (k + k % 2 * order F) < size F) × (mul F (antilog_of F (k + k % 2 * order F)) (antilog_of F (k + k % 2 * order F)) ≡ x)
      go (yes q) =
          let z : k % 2 ≡ 0 = omega arith in
          let i : k + k % 2 * order F ≡ 2 * (k / 2) = rw z (omega arith) in
          whole (k / 2) i (ap (power (numbers F) 2) (let t : k / 2 + k / 2 ≡ k = omega arith in t) ∙ here)
      go (no q) =
          let z : k % 2 ≡ 1 = omega arith in
          let i : k + k % 2 * order F ≡ 2 * ((k + order F) / 2) = rw z (omega arith) in
          whole ((k + order F) / 2) i
          (ap (power (numbers F) 2) (let t : (k + order F) / 2 + (k + order F) / 2 ≡ k + order F = omega arith in t)
          ∙ power-add F gen.monic (one_below F gen) 2 k (order F) ∙ ap₂ (mul F) here (power-order F gen) ∙ mul-one-r x l)

  -- a quotient times its divisor
  pub quotient : (a s b : ℕ) → 0 < a → a < size F → s < size F → mul F s s ≡ b → turned F a (mul F s (inverse F a)) ≡ b
  unfolding turned
  quotient a s b p l h e = ap (λ (y : ℕ). mul F y y) back ∙ e
    where
      back : mul F a (mul F s (inverse F a)) ≡ s
      back =
          mul_comm a (mul F s (inverse F a)) ∙ mul_assoc s (inverse F a) a
          ∙ ap (mul F s) (mul_comm (inverse F a) a ∙ mul-inverse F gen a p l) ∙ mul-one-r s h
