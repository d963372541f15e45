-- The powers of 2 run through every nonzero element, each once in 2^m - 1 steps. So each nonzero element has an
-- inverse, and a product is 0 only where a factor is. What a field must pass for this is one test that antt computes:
-- 2, 4, 8, .. come to 1 first at the power 2^m - 1.
--   first_one        x, 2x, 4x, .. are not 1 for n steps, and 1 at the next
--   Generated       what antt computes of a field: its polynomial has its degree, and 2 comes to 1 first at the power
--                   2^m - 1
--   power-order     2^(2^m - 1) is 1;  power-full  so is each x^(2^m - 1) but 0's;  power_size  x^(2^m) is x
--   generates       every nonzero element is a power of 2;  position-unique  in one way only
--   cancel          a nonzero factor can be left out;  zero-product  a product is 0 only where a factor is
--   mul-inverse     x times its inverse is 1;  inverse-only  no other element does that;  inverse-lt  it is an element
--   inverse-power   it is x^(2^m - 2)
--   position-is     the position of r is a j below the order with a^j = r;  position-only  it is the only one
--   generated       each known field is Generated
--   Small, small    the numbers of a known field fit into 16 bits;  product-asks  what the shared product asks of them
-- Assumes nothing.
use mathlib.Core.Path.{◌≡◌, refl, sym, ap, ◌∙◌, subst}
use mathlib.Core.Logic.{◌⊎◌, inl, inr, ◌≢◌}
use mathlib.Core.Bool.{Bool, not}
use Prim.Native.Nat.{ℕ, zero, suc, ◌+◌, ◌-◌, ◌*◌, ◌/◌, ◌%◌, ◌^◌, ◌≤◌, ◌<◌}
use native.Mathlib.Nat.{add-zero, suc-add, add-suc, mul_comm as times-comm, not-suc-le-zero, mod-lt, mod-eq_of_lt}
use native.Mathlib.Decide.{dec_lt}
use native.Mathlib.Omega.{arith}
use lib.Dec.{T, T_not, eqb, eqb→eq, eqb_refl, lit<, lit≤}
use lib.Pow.{pow_pos}
use Rattle.algebra.specs.Field.{power}
use Rattle.algebra.specs.Trial.{first_from}
use Rattle.algebra.proofs.Trial.{first-only}
use Rattle.field.specs.Rows.{ListedRow}
use Rattle.field.proofs.Known.{by_row}
use Rattle.field.specs.Field.{cut, Field, size, order, mul, numbers, inverse, position, field_of}
use Rattle.field.proofs.Table.{both_true, both_true-left, both_true-right}
use Rattle.field.proofs.Pigeonhole.{onto}
use Rattle.field.proofs.Ring.{ring, FullDegree, power-lt, power-add, power-of-power}

-- x, 2x, 4x, .. are not 1 for n steps, and 1 at the next
unfoldable pub first_one : Field → ℕ → ℕ → Bool
unfolding cut
first_one F zero x = eqb x 1
first_one F (suc n) x = both_true (not (eqb x 1)) (first_one F n (cut F (x * 2)))

-- what antt computes of a field: its polynomial has its degree, and 2, 4, 8, .. come to 1 first at the power 2^m - 1
pub record Generated (F : Field) : Type 0 where
  pub monic : FullDegree F
  pub two : 2 < size F
  pub cycle : T (first_one F (size F - 2) 2)

module _ (F : Field) (gen : Generated F) where
  open ring F gen.monic use {mul_comm, mul_assoc, mul-zero-l, mul-zero-r, mul-one-l, mul-one-r, mul-two}

  pub one_below : 1 < size F
  one_below = let h = gen.two in omega arith

  -- ---- the test says what it is meant to say
  -- the powers from i on are not 1 for n steps, and 1 at the next
  FirstOne : ℕ → ℕ → Type 0
  FirstOne n i = ((k : ℕ) → k < n → power (numbers F) 2 (i + k) ≢ 1) × (power (numbers F) 2 (i + n) ≡ 1)

  step : (n i : ℕ) → power (numbers F) 2 i ≢ 1 → FirstOne n (suc i) → FirstOne (suc n) i
  unfolding FirstOne
  step n i h r = (here, ap (power (numbers F) 2) (add-suc i n ∙ sym (suc-add i n)) ∙ r.1)
    where
      here : (k : ℕ) → k < suc n → power (numbers F) 2 (i + k) ≢ 1
      here zero hk e = h (ap (power (numbers F) 2) (sym (add-zero i)) ∙ e)
      here (suc k) hk e = r.0 k (omega arith) (ap (power (numbers F) 2) (suc-add i k ∙ sym (add-suc i k)) ∙ e)

  walk : (n i : ℕ) → T (first_one F n (power (numbers F) 2 i)) → FirstOne n i
  unfolding first_one FirstOne power
  walk zero i t = (λ k h. absurd (not-suc-le-zero h), ap (power (numbers F) 2) (add-zero i) ∙ eqb→eq (power (numbers F) 2 i) 1 t)
  walk (suc n) i t =
      step n i
      (λ e. T_not (eqb (power (numbers F) 2 i) 1) (both_true-left (not (eqb (power (numbers F) 2 i) 1)) (first_one F n next) t) (subst (λ (x : ℕ). T (eqb x 1)) (sym e) tt))
      (walk n (suc i)
      (subst (λ (x : ℕ). T (first_one F n x)) (sym (mul-two (power (numbers F) 2 i) (power-lt F gen.monic one_below 2 i)))
      (both_true-right (not (eqb (power (numbers F) 2 i) 1)) (first_one F n next) t)))
    where
      next : ℕ
      next = cut F (power (numbers F) 2 i * 2)

  cycle : FirstOne (size F - 2) 1
  unfolding power
  cycle = walk (size F - 2) 1 (subst (λ (x : ℕ). T (first_one F (size F - 2) x)) (sym (mul-one-r 2 gen.two)) gen.cycle)

  pub power-order : power (numbers F) 2 (order F) ≡ 1
  unfolding FirstOne
  power-order = ap (power (numbers F) 2) (let h = gen.two in omega arith) ∙ cycle.1

  before-order : (k : ℕ) → 0 < k → k < (order F) → power (numbers F) 2 k ≢ 1
  unfolding FirstOne
  before-order k hk hn e =
      cycle.0 (k - 1) (omega arith) (ap (power (numbers F) 2) (let g : 1 + (k - 1) ≡ k = omega arith in g) ∙ e)

  -- ---- each power has an inverse among the powers, so no two are equal and none is 0
  power-back : (i : ℕ) → i ≤ (order F) → mul F (power (numbers F) 2 i) (power (numbers F) 2 ((order F) - i)) ≡ 1
  power-back i h =
      sym (power-add F gen.monic one_below 2 i ((order F) - i)) ∙ ap (power (numbers F) 2) (let g : i + ((order F) - i) ≡ (order F) = omega arith in g) ∙ power-order

  power-nonzero : (i : ℕ) → i ≤ (order F) → power (numbers F) 2 i ≢ 0
  power-nonzero i h e =
      let z : ◌≡◌ {A = ℕ} 0 1 =
      sym (mul-zero-l (power (numbers F) 2 ((order F) - i))) ∙ ap (λ (x : ℕ). mul F x (power (numbers F) 2 ((order F) - i))) (sym e) ∙ power-back i h in
      omega arith

  later : (i j : ℕ) → i < j → j < (order F) → power (numbers F) 2 i ≢ power (numbers F) 2 j
  later i j hij hj e = before-order (j - i) (omega arith) (omega arith) come-back
    where
      back : mul F (power (numbers F) 2 ((order F) - i)) (power (numbers F) 2 i) ≡ 1
      back = mul_comm (power (numbers F) 2 ((order F) - i)) (power (numbers F) 2 i) ∙ power-back i (omega arith)

      go_on : mul F (power (numbers F) 2 i) (power (numbers F) 2 (j - i)) ≡ power (numbers F) 2 j
      go_on = sym (power-add F gen.monic one_below 2 i (j - i)) ∙ ap (power (numbers F) 2) (let g : i + (j - i) ≡ j = omega arith in g)

      come-back : power (numbers F) 2 (j - i) ≡ 1
      come-back =
          sym (mul-one-l (power (numbers F) 2 (j - i)) (power-lt F gen.monic one_below 2 (j - i)))
          ∙ ap (λ (x : ℕ). mul F x (power (numbers F) 2 (j - i))) (sym back)
          ∙ mul_assoc (power (numbers F) 2 ((order F) - i)) (power (numbers F) 2 i) (power (numbers F) 2 (j - i))
          ∙ ap (mul F (power (numbers F) 2 ((order F) - i))) (go_on ∙ sym e) ∙ back

  -- a nonzero element is a power of 2 in one way only
  pub position-unique : (i j : ℕ) → i < (order F) → j < (order F) → power (numbers F) 2 i ≡ power (numbers F) 2 j → i ≡ j
  position-unique i j hi hj e = go (dec_lt i j) (dec_lt j i)
    where
      go : Dec (i < j) → Dec (j < i) → i ≡ j
      go (yes h) d = absurd (later i j h hj e)
      go (no h) (yes k) = absurd (later j i k hi (sym e))
      go (no h) (no k) = omega arith

  -- every nonzero element is a power of 2
  pub generates : (r : ℕ) → 0 < r → r < size F → (j : ℕ) × (j < (order F)) × (power (numbers F) 2 j ≡ r)
  generates r hr hs = (at.0, at.1, (let h = at.2 in let k = positive at.0 at.1 in omega arith))
    where
      positive : (i : ℕ) → i < (order F) → 0 < power (numbers F) 2 i
      positive i h = let k : power (numbers F) 2 i ≢ 0 = power-nonzero i (omega arith) in omega arith

      at : (j : ℕ) × (j < (order F)) × (power (numbers F) 2 j - 1 ≡ r - 1)
      at =
          onto (order F) (λ i. power (numbers F) 2 i - 1)
          (λ i h. let k = positive i h in let l = power-lt F gen.monic one_below 2 i in omega arith)
          (λ i j hi hj e. position-unique i j hi hj (let k = positive i hi in let l = positive j hj in omega arith))
          (r - 1) (omega arith)

  -- ---- inverses
  power-one : (n : ℕ) → power (numbers F) 1 n ≡ 1
  unfolding power
  power-one zero = refl
  power-one (suc n) = mul-one-l (power (numbers F) 1 n) (power-lt F gen.monic one_below 1 n) ∙ power-one n

  -- x^(2^m - 1) is 1 for each x but 0
  pub power-full : (x : ℕ) → 0 < x → x < size F → power (numbers F) x (order F) ≡ 1
  power-full x hx hs =
      let at = generates x hx hs in
      ap (λ (y : ℕ). power (numbers F) y (order F)) (sym at.2) ∙ sym (power-of-power F gen.monic one_below 2 at.0 (order F))
      ∙ ap (power (numbers F) 2) (times-comm at.0 (order F)) ∙ power-of-power F gen.monic one_below 2 (order F) at.0
      ∙ ap (λ (y : ℕ). power (numbers F) y at.0) power-order ∙ power-one at.0

  -- the rest of that power is an inverse
  undone : (x : ℕ) → 0 < x → x < size F → mul F x (power (numbers F) x (size F - 2)) ≡ 1
  unfolding power
  undone x hx hs =
      ap (power (numbers F) x) (let h = gen.two in let g : suc (size F - 2) ≡ order F = omega arith in g) ∙ power-full x hx hs

  -- a nonzero factor can be left out
  pub cancel : (x a b : ℕ) → 0 < x → x < size F → a < size F → b < size F → mul F x a ≡ mul F x b → a ≡ b
  cancel x a b hx hs ha hb e = sym (undo a ha) ∙ ap (mul F back) e ∙ undo b hb
    where
      back : ℕ
      back = power (numbers F) x (size F - 2)

      undo : (c : ℕ) → c < size F → mul F back (mul F x c) ≡ c
      undo c hc = sym (mul_assoc back x c) ∙ ap (λ (y : ℕ). mul F y c) (mul_comm back x ∙ undone x hx hs) ∙ mul-one-l c hc

  pub inverse-lt : (x : ℕ) → inverse F x < size F
  unfolding inverse
  inverse-lt x = mod-lt (first_from (λ y. eqb (mul F x y) 1) 0 (size F)) (pow_pos F.degree)

  -- the inverse is the one element with x y = 1
  pub inverse-only : (x y : ℕ) → 0 < x → x < size F → y < size F → mul F x y ≡ 1 → inverse F x ≡ y
  unfolding inverse
  inverse-only x y hx hs hy e =
      ap (λ (n : ℕ). n % size F)
      (first-only (λ y. eqb (mul F x y) 1) (size F) y hy (subst (λ (n : ℕ). T (eqb n 1)) (sym e) tt)
      (λ z hz t. cancel x z y hx hs hz hy (eqb→eq (mul F x z) 1 t ∙ sym e)))
      ∙ mod-eq_of_lt hy

  -- it is x^(2^m - 2)
  pub inverse-power : (x : ℕ) → 0 < x → x < size F → inverse F x ≡ power (numbers F) x (size F - 2)
  inverse-power x hx hs =
      inverse-only x (power (numbers F) x (size F - 2)) hx hs (power-lt F gen.monic one_below x (size F - 2)) (undone x hx hs)

  pub mul-inverse : (x : ℕ) → 0 < x → x < size F → mul F x (inverse F x) ≡ 1
  mul-inverse x hx hs = ap (mul F x) (inverse-power x hx hs) ∙ undone x hx hs

  -- the position of a nonzero element is the one j below the order with a^j = r
  pub position-only : (r j : ℕ) → j < order F → power (numbers F) 2 j ≡ r → position F r ≡ j
  unfolding position
  position-only r j hj e =
      first-only (λ j. eqb (power (numbers F) 2 j) r) (order F) j hj (subst (λ (n : ℕ). T (eqb (power (numbers F) 2 j) n)) e (eqb_refl (power (numbers F) 2 j)))
      (λ i hi t. position-unique i j hi hj (eqb→eq (power (numbers F) 2 i) r t ∙ sym e))

  pub position-is : (r : ℕ) → 0 < r → r < size F → (position F r < order F) × (power (numbers F) 2 (position F r) ≡ r)
  position-is r hr hs =
      let at = generates r hr hs in
      let e = position-only r at.0 at.1 at.2 in
      (rw e at.1, ap (power (numbers F) 2) e ∙ at.2)

  -- a product is 0 only where a factor is
  pub zero-product : (a b : ℕ) → a < size F → b < size F → mul F a b ≡ 0 → (a ≡ 0) ⊎ (b ≡ 0)
  zero-product a b ha hb e = go (dec_lt 0 a)
    where
      go : Dec (0 < a) → (a ≡ 0) ⊎ (b ≡ 0)
      go (yes h) = inr (cancel a b 0 h ha hb (let k = gen.two in omega arith) (e ∙ sym (mul-zero-r a)))
      go (no h) = inl (omega arith)

  -- x^(2^m) is x
  pub power_size : (x : ℕ) → x < size F → power (numbers F) x (size F) ≡ x
  unfolding power
  power_size x hs = ap (power (numbers F) x) (let h = gen.two in let g : size F ≡ suc (order F) = omega arith in g) ∙ go (dec_lt 0 x)
    where
      go : Dec (0 < x) → mul F x (power (numbers F) x (order F)) ≡ x
      go (yes h) = ap (mul F x) (power-full x h hs) ∙ mul-one-r x hs
      go (no h) =
          let z : x ≡ 0 = omega arith in
          ap (λ (y : ℕ). mul F y (power (numbers F) x (order F))) z ∙ mul-zero-l (power (numbers F) x (order F)) ∙ sym z

-- each known field passes the test
generated4 : Generated (field_of 4 19)
unfolding first_one
generated4 = record { monic = refl; two = lit< tt; cycle = tt }

generated8 : Generated (field_of 8 285)
unfolding first_one
generated8 = record { monic = refl; two = lit< tt; cycle = tt }

generated11 : Generated (field_of 11 2053)
unfolding first_one
generated11 = record { monic = refl; two = lit< tt; cycle = tt }

pub generated : {m p : ℕ} → ListedRow m p → Generated (field_of m p)
generated = by_row (λ m p. Generated (field_of m p)) generated4 generated8 generated11

-- the numbers of a known field are small
pub record Small (m p : ℕ) : Type 0 where
  pub degree-pos : 0 < m
  pub degree-lt : m < 16
  pub poly-lt : p < 65536
  pub digits : m ≤ 12
  pub size-le : 2 ^ m ≤ 32768

small4 : Small 4 19
small4 = record { degree-pos = lit< tt; degree-lt = lit< tt; poly-lt = lit< tt; digits = lit≤ tt; size-le = lit≤ tt }

small8 : Small 8 285
small8 = record { degree-pos = lit< tt; degree-lt = lit< tt; poly-lt = lit< tt; digits = lit≤ tt; size-le = lit≤ tt }

small11 : Small 11 2053
small11 = record { degree-pos = lit< tt; degree-lt = lit< tt; poly-lt = lit< tt; digits = lit≤ tt; size-le = lit≤ tt }

pub small : {m p : ℕ} → ListedRow m p → Small m p
small = by_row Small small4 small8 small11

-- what the shared product asks
pub product-asks : {m p b : ℕ} → ListedRow m p → b < 2 ^ m → (m < 16) × (p / 2 ^ m ≡ 1) × (b < 2 ^ m)
product-asks l h = ((small l).degree-lt, (generated l).monic, h)
