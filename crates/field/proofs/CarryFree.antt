-- The natural numbers are a commutative ring under exclusive or and the carry-free product. No law has a bound.
--   carry_free-step       the product by one digit more
--   carry_free-zero-l ..  the product with 0, 1, a double or a digit; -l and -r say on which side
--   carry_free-comm, carry_free-assoc     it is commutative and associative
--   carry_free-xor-l, carry_free-xor-r    it distributes over the exclusive or
-- Assumes nothing.
use mathlib.Core.Path.{◌≡◌, refl, sym, ap, ap₂, ◌∙◌}
use Prim.Native.Nat.{ℕ, ◌*◌, ◌/◌, ◌%◌}
use native.Mathlib.Nat.{one-mul, mul-one, zero-mul, mul-zero, mul_assoc}
use lib.Arith.{bin_ind}
use lib.Bits.{bit_xor, xor_zero_r}
use Rattle.field.specs.Field.{horner, carry_free}
use Rattle.field.proofs.Digits.{bit-cases, half-double, digit-double, horner-step}
use Rattle.field.proofs.Xor.{xor-swap, xor-double, xor-digits}

-- the product by one digit more
pub carry_free-step : (a b : ℕ) → carry_free a b ≡ bit_xor (a % 2 * b) (carry_free (a / 2) b * 2)
unfolding carry_free
carry_free-step a b = horner-step (λ r d. bit_xor (d * b) (r * 2)) (ap (λ (x : ℕ). bit_xor x 0) (zero-mul b)) a

pub carry_free-zero-l : (b : ℕ) → carry_free 0 b ≡ 0
unfolding carry_free horner
carry_free-zero-l b = refl

pub carry_free-zero-r : (a : ℕ) → carry_free a 0 ≡ 0
carry_free-zero-r =
    bin_ind (λ (n : ℕ). carry_free n 0 ≡ 0) (carry_free-zero-l 0)
    (λ n ih. carry_free-step n 0 ∙ ap₂ (λ (x y : ℕ). bit_xor x (y * 2)) (mul-zero (n % 2)) ih)

pub carry_free-one-l : (b : ℕ) → carry_free 1 b ≡ b
carry_free-one-l b =
    carry_free-step 1 b ∙ ap₂ (λ (x y : ℕ). bit_xor x (y * 2)) (one-mul b) (carry_free-zero-l b) ∙ xor_zero_r b

pub carry_free-double-l : (a b : ℕ) → carry_free (a * 2) b ≡ carry_free a b * 2
carry_free-double-l a b =
    carry_free-step (a * 2) b
    ∙ ap₂ (λ (x y : ℕ). bit_xor (x * b) (carry_free y b * 2)) (digit-double a) (half-double a)
    ∙ ap (λ (x : ℕ). bit_xor x (carry_free a b * 2)) (zero-mul b)

pub carry_free-double-r : (a b : ℕ) → carry_free a (b * 2) ≡ carry_free a b * 2
carry_free-double-r a b =
    bin_ind (λ (n : ℕ). carry_free n (b * 2) ≡ carry_free n b * 2) (carry_free-zero-l (b * 2) ∙ sym (ap (λ (x : ℕ). x * 2) (carry_free-zero-l b)))
    (λ n ih. carry_free-step n (b * 2)
    ∙ ap₂ (λ (x y : ℕ). bit_xor x (y * 2)) (sym (mul_assoc (n % 2) b 2)) ih
    ∙ xor-double (n % 2 * b) (carry_free (n / 2) b * 2)
    ∙ ap (λ (x : ℕ). x * 2) (sym (carry_free-step n b))) a

-- a digit times a sum
digit-xor : (n b c : ℕ) → n % 2 * bit_xor b c ≡ bit_xor (n % 2 * b) (n % 2 * c)
digit-xor n b c =
    bit-cases (λ (d : ℕ). d * bit_xor b c ≡ bit_xor (d * b) (d * c))
    (zero-mul (bit_xor b c) ∙ sym (ap₂ bit_xor (zero-mul b) (zero-mul c)))
    (one-mul (bit_xor b c) ∙ sym (ap₂ bit_xor (one-mul b) (one-mul c))) n

pub carry_free-xor-r : (a b c : ℕ) → carry_free a (bit_xor b c) ≡ bit_xor (carry_free a b) (carry_free a c)
carry_free-xor-r a b c =
    bin_ind (λ (n : ℕ). carry_free n (bit_xor b c) ≡ bit_xor (carry_free n b) (carry_free n c))
    (carry_free-zero-l (bit_xor b c) ∙ sym (ap₂ bit_xor (carry_free-zero-l b) (carry_free-zero-l c)))
    (λ n ih. carry_free-step n (bit_xor b c)
    ∙ ap₂ (λ (x y : ℕ). bit_xor x (y * 2)) (digit-xor n b c) ih
    ∙ ap (bit_xor (bit_xor (n % 2 * b) (n % 2 * c))) (sym (xor-double (carry_free (n / 2) b) (carry_free (n / 2) c)))
    ∙ xor-swap (n % 2 * b) (n % 2 * c) (carry_free (n / 2) b * 2) (carry_free (n / 2) c * 2)
    ∙ ap₂ bit_xor (sym (carry_free-step n b)) (sym (carry_free-step n c))) a

carry_free-one-r : (a : ℕ) → carry_free a 1 ≡ a
carry_free-one-r =
    bin_ind (λ (n : ℕ). carry_free n 1 ≡ n) (carry_free-zero-l 1)
    (λ n ih. carry_free-step n 1 ∙ ap₂ (λ (x y : ℕ). bit_xor x (y * 2)) (mul-one (n % 2)) ih ∙ xor-digits n)

pub carry_free-digit : (a n : ℕ) → carry_free a (n % 2) ≡ n % 2 * a
carry_free-digit a n =
    bit-cases (λ (d : ℕ). carry_free a d ≡ d * a) (carry_free-zero-r a ∙ sym (zero-mul a)) (carry_free-one-r a ∙ sym (one-mul a)) n

pub carry_free-comm : (a b : ℕ) → carry_free a b ≡ carry_free b a
carry_free-comm a b =
    bin_ind (λ (n : ℕ). carry_free n b ≡ carry_free b n) (carry_free-zero-l b ∙ sym (carry_free-zero-r b))
    (λ n ih. carry_free-step n b
    ∙ ap₂ bit_xor (sym (carry_free-digit b n)) (ap (λ (x : ℕ). x * 2) ih ∙ sym (carry_free-double-r b (n / 2)))
    ∙ sym (carry_free-xor-r b (n % 2) (n / 2 * 2))
    ∙ ap (carry_free b) (xor-digits n)) a

pub carry_free-xor-l : (a b c : ℕ) → carry_free (bit_xor a b) c ≡ bit_xor (carry_free a c) (carry_free b c)
carry_free-xor-l a b c =
    carry_free-comm (bit_xor a b) c ∙ carry_free-xor-r c a b ∙ ap₂ bit_xor (carry_free-comm c a) (carry_free-comm c b)

pub carry_free-assoc : (a b c : ℕ) → carry_free (carry_free a b) c ≡ carry_free a (carry_free b c)
carry_free-assoc a b c =
    bin_ind (λ (n : ℕ). carry_free (carry_free n b) c ≡ carry_free n (carry_free b c))
    (ap (λ (x : ℕ). carry_free x c) (carry_free-zero-l b) ∙ carry_free-zero-l c ∙ sym (carry_free-zero-l (carry_free b c)))
    (λ n ih. ap (λ (x : ℕ). carry_free x c) (carry_free-step n b)
    ∙ carry_free-xor-l (n % 2 * b) (carry_free (n / 2) b * 2) c
    ∙ ap₂ bit_xor (by-digit n) (carry_free-double-l (carry_free (n / 2) b) c ∙ ap (λ (x : ℕ). x * 2) ih)
    ∙ sym (carry_free-step n (carry_free b c))) a
  where
    by-digit : (n : ℕ) → carry_free (n % 2 * b) c ≡ n % 2 * carry_free b c
    by-digit =
        bit-cases (λ (d : ℕ). carry_free (d * b) c ≡ d * carry_free b c)
        (ap (λ (x : ℕ). carry_free x c) (zero-mul b) ∙ carry_free-zero-l c ∙ sym (zero-mul (carry_free b c)))
        (ap (λ (x : ℕ). carry_free x c) (one-mul b) ∙ sym (one-mul (carry_free b c)))
