-- Digits of additive maps, and sums over the digits of a number.
--   digit_of         digit k of a number;  digit-xor  it is additive;  digit-power  2^l has no digit below l
--   digit-zero      what has no digit below n is 0
--   composed        a map behind a map is additive;  additive-times  of a multiple by a digit
--   digits-times    the sum of two digits times u
--   sum_over n v x   the sum of the v_j over the digits j of x below n
--   sum_over-map     an additive map of it;  sum_over-powers  with the powers of two it is x
--   sweep           w, with u added where digit i of A w is 1;  sweep-additive  it is additive
-- Assumes nothing.
use mathlib.Core.Path.{◌≡◌, refl, sym, ap, ap₂, ◌∙◌, subst}
use Prim.Native.Nat.{ℕ, zero, suc, ◌+◌, ◌-◌, ◌*◌, ◌/◌, ◌%◌, ◌^◌, ◌<◌, suc-le-suc}
use native.Mathlib.Nat.{zero-mul, one-mul, pow-suc, mod-lt, mul-mod_left, div-one, zero-lt-suc, div-lt_iff_lt-mul, div-add-mod'}
use native.Mathlib.Omega.{arith}
use lib.Arith.{lt-one}
use lib.Bits.{bit_xor, xor_comm, xor_self, xor_zero_l, xor_zero_r, xor_shr, xor_mod, xor_shifted}
use lib.Pow.{pow_pos, pow-add, shl-shr, shr-shr, mod-pow-add}
use Rattle.field.proofs.Digits.{bit-cases}
use Rattle.field.proofs.Xor.{xor-swap}
use Rattle.field.proofs.Additive.{Additive, additive-zero}

abbrev pub digit_of : ℕ → ℕ → ℕ
digit_of k x = x / 2 ^ k % 2

pub digit-xor : (k : ℕ) → Additive (digit_of k)
digit-xor k x y = ap (λ z. z % 2) (xor_shr x y k) ∙ xor_mod (x / 2 ^ k) (y / 2 ^ k) 1

-- 2^l has no digit below l
pub digit-power : (j l : ℕ) → j < l → digit_of j (2 ^ l) ≡ 0
digit-power j l h =
    let d : ℕ = l - suc j in
    let e : l ≡ suc d + j = omega arith in
    ap (digit_of j) (ap (λ n. 2 ^ n) e ∙ pow-add 2 (suc d) j) ∙ ap (λ n. n % 2) (shl-shr (2 ^ suc d) j ∙ pow-suc 2 d) ∙ mul-mod_left (2 ^ d) 2

-- what has no digit below n is 0
pub digit-zero : (n a : ℕ) → a < 2 ^ n → ((k : ℕ) → k < n → digit_of k a ≡ 0) → a ≡ 0
digit-zero zero a h z = lt-one h
digit-zero (suc n) a h z =
    let half : a / 2 ≡ 0 = digit-zero n (a / 2) ((div-lt_iff_lt-mul (zero-lt-suc 1)).1 (subst (λ t. a < t) (pow-suc 2 n) h)) (λ k l. digit-half k ∙ z (suc k) (suc-le-suc l)) in
    let last : a % 2 ≡ 0 = sym (ap (λ b. b % 2) (div-one a)) ∙ z 0 (omega arith) in
    omega (arith, div-add-mod' a 2)
  where
    digit-half : (k : ℕ) → digit_of k (a / 2) ≡ digit_of (suc k) a
    digit-half k = ap (λ b. b % 2) (shr-shr a 1 k ∙ ap (λ i. a / 2 ^ i) (let e : 1 + k ≡ suc k = omega arith in e))

pub composed : (B C : ℕ → ℕ) → Additive B → Additive C → Additive (λ x. C (B x))
composed B C b c x y = ap C (b x y) ∙ c (B x) (B y)

-- a multiple by a digit
additive-times : (B : ℕ → ℕ) → Additive B → (n x : ℕ) → B (n % 2 * x) ≡ n % 2 * B x
additive-times B add n x =
    bit-cases (λ d. B (d * x) ≡ d * B x) (ap B (zero-mul x) ∙ additive-zero B add ∙ sym (zero-mul (B x))) (ap B (one-mul x) ∙ sym (one-mul (B x))) n

-- the sum of two digits times u
pub digits-times : (a b u : ℕ) → bit_xor (a % 2) (b % 2) * u ≡ bit_xor (a % 2 * u) (b % 2 * u)
digits-times a b u =
    bit-cases (λ x. bit_xor x (b % 2) * u ≡ bit_xor (x * u) (b % 2 * u))
    (bit-cases (λ y. bit_xor 0 y * u ≡ bit_xor (0 * u) (y * u)) (zero-mul u ∙ sym (ap₂ bit_xor (zero-mul u) (zero-mul u)))
    (one-mul u ∙ sym (ap₂ bit_xor (zero-mul u) (one-mul u) ∙ xor_zero_l u)) b)
    (bit-cases (λ y. bit_xor 1 y * u ≡ bit_xor (1 * u) (y * u)) (one-mul u ∙ sym (ap₂ bit_xor (one-mul u) (zero-mul u) ∙ xor_zero_r u))
    (zero-mul u ∙ sym (ap₂ bit_xor (one-mul u) (one-mul u) ∙ xor_self u)) b) a

-- ---- sums over digits

unfoldable pub sum_over : ℕ → (ℕ → ℕ) → ℕ → ℕ
sum_over zero v x = 0
sum_over (suc n) v x = bit_xor (sum_over n v x) (digit_of n x * v n)

pub sum_over-map : (B : ℕ → ℕ) → Additive B → (n : ℕ) (v : ℕ → ℕ) (x : ℕ) → B (sum_over n v x) ≡ sum_over n (λ j. B (v j)) x
unfolding sum_over
sum_over-map B add zero v x = additive-zero B add
sum_over-map B add (suc n) v x =
    add (sum_over n v x) (digit_of n x * v n) ∙ ap₂ bit_xor (sum_over-map B add n v x) (additive-times B add (x / 2 ^ n) (v n))

-- of two sequences that agree
pub sum_over-same : (n : ℕ) (v w : ℕ → ℕ) (x : ℕ) → ((j : ℕ) → j < n → v j ≡ w j) → sum_over n v x ≡ sum_over n w x
unfolding sum_over
sum_over-same zero v w x e = refl
sum_over-same (suc n) v w x e =
    ap₂ (λ a b. bit_xor a (digit_of n x * b)) (sum_over-same n v w x (λ j h. e j (omega arith))) (e n (omega arith))

-- with the powers of two it is the number
pub sum_over-powers : (n x : ℕ) → sum_over n (λ j. 2 ^ j) x ≡ x % 2 ^ n
unfolding sum_over
sum_over-powers zero x = sym (lt-one (mod-lt x (zero-lt-suc 0)))
sum_over-powers (suc n) x =
    ap (λ a. bit_xor a (digit_of n x * 2 ^ n)) (sum_over-powers n x) ∙ xor_comm (x % 2 ^ n) (digit_of n x * 2 ^ n)
    ∙ xor_shifted (digit_of n x) n (x % 2 ^ n) (mod-lt x (pow_pos n)) ∙ sym (mod-pow-add x 1 n)
    ∙ ap (λ i. x % 2 ^ i) (let e : 1 + n ≡ suc n = omega arith in e)

-- ---- a sweep

-- u is added to w where digit i of A w is 1
abbrev pub sweep : (ℕ → ℕ) → ℕ → ℕ → ℕ → ℕ
sweep A i u w = bit_xor w (digit_of i (A w) * u)

pub sweep-additive : (A : ℕ → ℕ) → Additive A → (i u : ℕ) → Additive (sweep A i u)
sweep-additive A add i u x y =
    ap (λ d. bit_xor (bit_xor x y) (d * u)) (composed A (digit_of i) add (digit-xor i) x y)
    ∙ ap (bit_xor (bit_xor x y)) (digits-times (A x / 2 ^ i) (A y / 2 ^ i) u) ∙ xor-swap x y (digit_of i (A x) * u) (digit_of i (A y) * u)

-- an additive map of what is swept
pub map-sweep : (A B : ℕ → ℕ) → Additive B → (i u w : ℕ) → B (sweep A i u w) ≡ bit_xor (B w) (digit_of i (A w) * B u)
map-sweep A B add i u w = add w (digit_of i (A w) * u) ∙ ap (bit_xor (B w)) (additive-times B add (A w / 2 ^ i) u)
