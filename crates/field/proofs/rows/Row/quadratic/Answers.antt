-- `field::rows::Row::quadratic` meets its contract, by the laws of the solutions of x^2 + x = b / a^2.
-- Assumes nothing.
use mathlib.Core.Path.{◌≡◌, ◌∙◌}
use mathlib.Core.Logic.{◌≢◌}
use Prim.Native.Nat.{ℕ, ◌-◌, ◌<◌, ◌≤◌, ◌^◌}
use native.Mathlib.Omega.{arith}
use lib.Bits.{bit_xor, xor_lt}
use Rattle.field.specs.Rows.{ListedRow}
use Rattle.field.specs.Field.{field_of, mul, inverse}
use Rattle.field.specs.Powers.{turned, raised_by}
use Rattle.field.specs.Tables.{HalfRoot}
use Rattle.field.specs.Quadratics.{SolvesQuadratic}
use Rattle.field.specs.declared.solver.Quadratic.TheVariants.{NoRoot, Two}
use Rattle.field.proofs.Generator.{generated, small, product-asks, mul-inverse}
use Rattle.field.proofs.Ring.{mul_comm}
use Rattle.field.proofs.Raising.{raised_by-lt, raised-squared}
use Rattle.field.proofs.Solutions.{answer-none, answer-up, answer-down, solution}
use Rattle.field.proofs.Doubles.{solved-none, solved-double, solved-two}
use Rattle.field.proofs.rows.Row.quadratic.Goals as goal

-- the square root of b, divided by a, is an element
quotient-lt : {m p : ℕ} (a b : ℕ) {q : ℕ} → ListedRow m p → b < 2 ^ m → q ≡ raised_by (field_of m p) a (m - 1) b → q < 2 ^ m
quotient-lt {m} a b l h e = rw e (raised_by-lt _ (generated l) a (m - 1) b h)

marked : {m p : ℕ} → ListedRow m p → 2 ^ m ≤ 65535
marked l = omega (arith, (small l).size-le)

-- where a is not 0: the table's entry j at that quotient q says which roots there are
module _ {m p a b q j : ℕ} (l : ListedRow m p) (n : a ≡ 0 → ⊥) (ha : a < 2 ^ m) (hb : b < 2 ^ m) (e : q ≡ raised_by (field_of m p) a (m - 1) b)
    (entry : q < 2 ^ m → HalfRoot (field_of m p) q j) where
  q-lt : q < 2 ^ m
  q-lt = quotient-lt a b l hb e

  -- its product with a has the square b
  squared : turned (field_of m p) a q ≡ b
  squared = rw e (raised-squared _ (generated l) a (omega arith) ha (small l).degree-pos b hb)

  inverse-times : mul (field_of m p) (inverse (field_of m p) a) a ≡ 1
  inverse-times = mul_comm _ (generated l).monic (inverse _ a) a ∙ mul-inverse _ (generated l) a (omega arith) ha

  none : j ≡ 65535 → SolvesQuadratic (field_of m p) a b NoRoot
  none k = solved-none _ (generated l) (answer-none _ (generated l) _ _ _ ha hb inverse-times _ q-lt squared (entry q-lt) (marked l) k)

  upward : {x : ℕ} → j ≢ 65535 → x ≡ mul (field_of m p) a (bit_xor j q) → x < bit_xor x a → SolvesQuadratic (field_of m p) a b (Two x (bit_xor x a))
  upward k ex h = solved-two _ (generated l) ha hb (answer-up _ (generated l) _ _ _ ha hb inverse-times _ q-lt squared (entry q-lt) k ex h)

  downward : {x : ℕ} → j ≢ 65535 → x ≡ mul (field_of m p) a (bit_xor j q) → bit_xor x a ≤ x → SolvesQuadratic (field_of m p) a b (Two (bit_xor x a) x)
  downward k ex h =
      solved-two _ (generated l) ha hb
      (answer-down _ (generated l) _ _ _ ha hb inverse-times _ q-lt squared (entry q-lt) k ex (omega arith) (λ u. let z : ⊥ = omega arith in z))

pub returns-then-a-eq0 : goal.returns-then-a-eq0
returns-then-a-eq0 c = solved-double _ (generated c.requires.0) c.if-a-eq0.true c.requires.3 c.root.ensures.0 c.root.ensures.1

pub bounds-halves-q : goal.bounds-halves-q
bounds-halves-q c =
    let p = c.requires in
    let h = quotient-lt _ _ p.0 p.3 c.raised-q.ensures in omega (arith, p.1.entries)

pub returns-then-j : goal.returns-then-j
returns-then-j c =
    let p = c.requires in
    none p.0 c.if-a-eq0.false p.2 p.3 c.raised-q.ensures (p.1.entry _) c.if-j.true

pub product-x-requires : goal.product-x-requires
product-x-requires c =
    let p = c.requires in
    let h = quotient-lt _ _ p.0 p.3 c.raised-q.ensures in
    product-asks p.0 (xor_lt _ _ _ (solution _ (generated p.0) (p.1.entry _ h) c.if-j.false).0 h)

pub returns-then-x-y : goal.returns-then-x-y
returns-then-x-y c =
    let p = c.requires in
    upward p.0 c.if-a-eq0.false p.2 p.3 c.raised-q.ensures
    (p.1.entry _) c.if-j.false c.product-x.ensures c.if-x-y.true

pub returns : goal.returns
returns c =
    let p = c.requires in
    downward p.0 c.if-a-eq0.false p.2 p.3 c.raised-q.ensures
    (p.1.entry _) c.if-j.false c.product-x.ensures c.if-x-y.false
