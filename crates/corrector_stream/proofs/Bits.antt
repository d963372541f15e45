-- A byte and its bits.
--   byte-told    two bytes with the same bits are one
--   above_zero   a number below 2^s has no bit from s on
--   zero-above   and back: a byte with no bit from s on is below 2^s
-- Assumes nothing.
use mathlib.Core.Path.{◌≡◌, sym, ap, ◌∙◌, subst}
use Prim.Native.Nat.{ℕ, zero, suc, ◌+◌, ◌-◌, ◌*◌, ◌/◌, ◌%◌, ◌^◌, ◌≤◌, ◌<◌}
use native.Mathlib.Nat.{pow-suc, zero-lt-suc, div-eq_of_lt, div-lt_iff_lt-mul, pow-le-pow_right, lt_of_lt_of_le}
use native.Mathlib.Nat.{div-one}
use native.Mathlib.Omega.{arith}
use lib.Arith.{lt-one}
use lib.Pow.{shr-shr, pow_pos}

half_lt : {x : ℕ} (n : ℕ) → x < 2 ^ suc n → x / 2 < 2 ^ n
half_lt {x} n h = (div-lt_iff_lt-mul (zero-lt-suc 1)).1 (subst (λ (t : ℕ). x < t) (pow-suc 2 n) h)

-- two numbers of n bits
told : (n x y : ℕ) → x < 2 ^ n → y < 2 ^ n → ((i : ℕ) → i < n → x / 2 ^ i % 2 ≡ y / 2 ^ i % 2) → x ≡ y
told zero x y a b h = lt-one a ∙ sym (lt-one b)
told (suc n) x y a b h =
    let q : x / 2 ≡ y / 2 =
    told n (x / 2) (y / 2) (half_lt n a) (half_lt n b)
    (λ i l. next x i ∙ h (suc i) (omega arith) ∙ sym (next y i)) in
    let r : x % 2 ≡ y % 2 = lowest x ∙ h 0 (omega arith) ∙ sym (lowest y) in
    omega arith
  where
    next : (z i : ℕ) → z / 2 / 2 ^ i % 2 ≡ z / 2 ^ suc i % 2
    next z i = ap (λ (w : ℕ). w % 2)
        (shr-shr z 1 i ∙ ap (λ (k : ℕ). z / 2 ^ k) (let e : 1 + i ≡ suc i = omega arith in e))

    lowest : (z : ℕ) → z % 2 ≡ z / 2 ^ 0 % 2
    lowest z = ap (λ (w : ℕ). w % 2) (sym (div-one z))

-- two bytes
pub byte-told : {x y : ℕ} → x < 256 → y < 256 → ((i : ℕ) → i < 8 → x / 2 ^ i % 2 ≡ y / 2 ^ i % 2) → x ≡ y
byte-told {x} {y} a b h = told 8 x y a b h

-- no bit from s on
pub above_zero : {x s i : ℕ} → x < 2 ^ s → s ≤ i → x / 2 ^ i % 2 ≡ 0
above_zero {x} {s} {i} h l =
    ap (λ (w : ℕ). w % 2) (div-eq_of_lt (lt_of_lt_of_le h (pow-le-pow_right (zero-lt-suc 1) l)))

-- one bit less
one_less : (x m : ℕ) → x < 2 ^ suc m → x / 2 ^ m % 2 ≡ 0 → x < 2 ^ m
one_less x m h z =
    let u : x / 2 ^ m < 2 =
    (div-lt_iff_lt-mul (pow_pos m)).1 (subst (λ (n : ℕ). x < n) (pow-suc 2 m ∙ swap (2 ^ m)) h) in
    let o : x / 2 ^ m < 1 = omega arith in
    let l : x < 1 * 2 ^ m = (div-lt_iff_lt-mul (pow_pos m)).0 o in
    omega arith
  where
    swap : (p : ℕ) → p * 2 ≡ 2 * p
    swap p = omega arith

-- and n bits less
less : (x s n : ℕ) → x < 2 ^ (n + s) → ((i : ℕ) → s ≤ i → i < n + s → x / 2 ^ i % 2 ≡ 0) → x < 2 ^ s
less x s zero h z = subst (λ (k : ℕ). x < 2 ^ k) (let e : 0 + s ≡ s = omega arith in e) h
less x s (suc n) h z =
    let e : suc n + s ≡ suc (n + s) = omega arith in
    less x s n (one_less x (n + s) (subst (λ (k : ℕ). x < 2 ^ k) e h) (z (n + s) (omega arith) (omega arith)))
    (λ i a b. z i a (omega arith))

-- a byte with no bit from s on
pub zero-above : {x s : ℕ} → x < 256 → s ≤ 8 → ((i : ℕ) → s ≤ i → i < 8 → x / 2 ^ i % 2 ≡ 0) → x < 2 ^ s
zero-above {x} {s} h l z =
    let e : 8 ≡ 8 - s + s = omega arith in
    less x s (8 - s) (subst (λ (k : ℕ). x < 2 ^ k) e h) (λ i a b. z i a (omega arith))
