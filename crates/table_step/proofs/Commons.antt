-- The first part of a factor, as the code finds it: the greatest common divisor with a polynomial that stands for
-- Tr(a^i z), as the trace sum modulo the factor does.
--   level-fits, level-power   the antilog of twice the level i is a^i
--   traced, traced-long       the trace sum that the code makes is that of a^i z, as long as the factor
--   traced-same               it has the greatest common divisor with the factor that Tr(a^i z) has
--   IsCommon                  the first r coefficients of g are the first part's
--   common-is                 the greatest common divisor with such a polynomial is that
-- Assumes nothing.
use mathlib.Core.Path.{◌≡◌, sym, ap, subst, ◌∙◌}
use mathlib.Core.Bool.{true}
use mathlib.Core.List.{List, [], ◌∷◌}
use Prim.Native.Nat.{ℕ, suc, ◌-◌, ◌*◌, ◌^◌, ◌<◌}
use native.Mathlib.Omega.{arith}
use lib.Dec.{lit<}
use lib.ListN.{length, get_or, take}
use lib.Seq.{length-take-le}
use Rattle.field.specs.Rows.{known}
use Rattle.field.proofs.Known.{by_row, listed}
use Rattle.algebra.specs.Field.{power}
use Rattle.algebra.specs.Polynomial.{Below}
use Rattle.algebra.specs.Routines.{rem, trace_mod, gcd}
use Rattle.algebra.proofs.Lengths.{length-rem, length-trace_mod}
use Rattle.algebra.proofs.StaysBelow.{power_below, rem_below, trace_mod-below}
use Rattle.algebra.proofs.NumberSteps.{trace-run}
use Rattle.field.specs.Field.{field_at, G}
use Rattle.field.proofs.Logarithms.{antilogs-power}
use Rattle.poly.specs.Lent.{Lent}
use Rattle.poly_gcd.specs.Euclid.{GcdIs}
use Rattle.poly.proofs.Logs.{field_of, numbers_of}
use Rattle.table_rules.specs.Splitting.{halving_at}
use Rattle.table_step.specs.Parting.{Splittable, Partable}

-- a known degree is less than the size of its field
degree-less : (m : ℕ) → known m ≡ true → m < 2 ^ m
degree-less m k = by_row (λ n p. n < 2 ^ n) (lit< tt) (lit< tt) (lit< tt) (listed m k)

module _ {m : ℕ} {ls ts p : List ℕ} {i : ℕ} (lent : Lent m ls ts) (s : Splittable m p i) where
  -- twice the level indexes the antilog table, and its entry there is a^i
  level-entry : (2 * i < length ts) × (get_or ts (2 * i) 0 ≡ power (G m) 2 i)
  level-entry = antilogs-power (field_at m) lent.antilogs i (omega (arith, s.level, degree-less m lent.degree))

  pub level-fits : 2 * i < length ts
  level-fits = level-entry.0

  pub level-power : get_or ts (2 * i) 0 ≡ power (G m) 2 i
  level-power = level-entry.1

  -- a^i is an element
  power_small : power (G m) 2 i < 2 ^ m
  power_small = power_below (numbers_of lent) 2 i (field_of lent).two

  -- so is the entry
  pub level-small : get_or ts (2 * i) 0 < 2 ^ m
  level-small = subst (λ b. b < 2 ^ m) (sym level-power) power_small

  -- a^i z modulo the factor, and its trace sum
  abbrev start : List ℕ
  start = rem (G m) p (0 ∷ power (G m) 2 i ∷ [])

  -- Tr(a^i z) modulo the factor
  abbrev trace : List ℕ
  trace = trace_mod (G m) p m start

  -- what the code sums up is that
  pub traced : {t : List ℕ} → t ≡ trace_mod (G m) p m (rem (G m) p (0 ∷ get_or ts (2 * i) 0 ∷ [])) → t ≡ trace
  traced e = e ∙ ap (λ b. trace_mod (G m) p m (rem (G m) p (0 ∷ b ∷ []))) level-power

  -- it is as long as the factor
  pub traced-long : {t : List ℕ} → t ≡ trace → length t ≡ length p
  traced-long {t} e =
      let j : m ≡ suc (m - 1) = omega (arith, s.level) in
      ap length e ∙ ap (λ k. length (trace_mod (G m) p k start)) j ∙ length-trace_mod (G m) p (m - 1) start (length-rem (G m) p (0 ∷ power (G m) 2 i ∷ []))

  -- its coefficients are elements
  pub trace-small : Below (2 ^ m) trace
  trace-small =
      let n = numbers_of lent in
      trace_mod-below n p m start s.small (rem_below n p (0 ∷ power (G m) 2 i ∷ []) s.small (omega (arith, power_small), (power_small, tt)))

  -- and it stands for Tr(a^i z)
  pub traced-same : gcd (G m) p trace ≡ (halving_at m).low i p
  traced-same = sym (trace-run (numbers_of lent) m (power (G m) 2 i) power_small p s.small)

-- ---- the first part

-- the first r coefficients of g are those of the factor's part that goes first
pub record IsCommon (m i : ℕ) (p : List ℕ) (r : ℕ) (g : List ℕ) : Type 0 where
  pub degree : r ≡ length ((halving_at m).low i p)
  pub low : take r g ≡ (halving_at m).low i p

module _ {m : ℕ} {p : List ℕ} {i : ℕ} {t : List ℕ} (s : Partable m p i t) where
  -- what the greatest common divisor with t leaves is the first part
  pub common-is : {r : ℕ} {g : List ℕ} → GcdIs m p t r g → length p < length g → IsCommon m i p r g
  common-is {r} {g} q h =
      let low : take r g ≡ (halving_at m).low i p = q.low ∙ s.same in
      record { degree = sym (length-take-le r g (omega (arith, q.count))) ∙ ap length low; low = low }
