-- The loops over places: what is summed, what is flipped, and what is stored.
--   antilog-at, product_small          the antilog at j k, folded, and that the product fits
--   all-at                             what holds of all holds of each
--   sum-on                             one place more in a power sum
--   length-flip, flip-on               one place more flipped
--   map-on                             one root more in its place
-- Assumes nothing.
use mathlib.Core.Path.{◌≡◌, refl, sym, ap, ap₂, ◌∙◌}
use mathlib.Core.List.{List, [], ◌∷◌, ◌++◌, map}
use Prim.Native.Nat.{ℕ, zero, suc, ◌+◌, ◌*◌, ◌/◌, ◌%◌, ◌^◌, ◌≤◌, ◌<◌}
use native.Mathlib.Nat.{mul-le-mul_right}
use native.Mathlib.Numerals.{add-one}
use native.Mathlib.Omega.{arith}
use lib.Bits.{bit_xor, xor_zero_r}
use lib.ListN.{length, get_or, set, take, drop, length-set}
use lib.Seq.{take-suc}
use Rattle.algebra.specs.Field.{power}
use Rattle.algebra.specs.Trial.{All}
use Rattle.field.specs.Field.{field_at, mul}
use Rattle.field.specs.Tables.{antilog_of}
use Rattle.field.proofs.Xor.{xor_assoc}
use Rattle.field.proofs.Ring.{ring, power-add, power-of-power, power-lt}
use Rattle.field.proofs.Generator.{one_below, power-order}
use Rattle.field.proofs.Logarithms.{antilog-even}
use Rattle.corrector_code.specs.Eleven.{F11}
use Rattle.corrector_code.proofs.Eleven.{gen11}
use Rattle.corrector.specs.Places.{xor_over, sum_at, flip_all}
open ring (field_at 11) gen11.monic use {mul-one-l}

-- ---- powers

power-cycle : (q r : ℕ) → power F11 2 (2047 * q + r) ≡ power F11 2 r
power-cycle zero r = ap (power F11 2) (let e : 2047 * 0 + r ≡ r = omega arith in e)
power-cycle (suc q) r =
    ap (power F11 2) (let e : 2047 * suc q + r ≡ 2047 + (2047 * q + r) = omega arith in e)
    ∙ power-add (field_at 11) gen11.monic (one_below (field_at 11) gen11) 2 2047 (2047 * q + r)
    ∙ ap₂ (mul (field_at 11)) (power-order (field_at 11) gen11) (power-cycle q r)
    ∙ mul-one-l (power F11 2 r) (power-lt (field_at 11) gen11.monic (one_below (field_at 11) gen11) 2 r)

-- a^(j k), with the exponent folded
folded : (j k : ℕ) → power F11 2 (j * k % 2048 + j * k / 2048) ≡ power F11 (power F11 2 j) k
folded j k =
    let m : ℕ = j * k in
    sym (power-cycle (m / 2048) (m % 2048 + m / 2048))
    ∙ ap (power F11 2) (let e : 2047 * (m / 2048) + (m % 2048 + m / 2048) ≡ m = omega arith in e)
    ∙ power-of-power (field_at 11) gen11.monic (one_below (field_at 11) gen11) 2 j k

pub product_small : (a k : ℕ) → a < 2047 → k < 100 → a * k < 204700
product_small a k h l =
    let x : a * k ≤ 2047 * k = mul-le-mul_right k (let g : a ≤ 2047 = omega arith in g) in
    omega arith

-- the antilog at twice that
pub antilog-at : (j k : ℕ) {e v : ℕ} → e ≡ j * k % 2048 + j * k / 2048 → v ≡ antilog_of (field_at 11) (2 * e)
    → v ≡ power F11 (power F11 2 j) k
antilog-at j k h r =
    r ∙ ap (λ (x : ℕ). antilog_of (field_at 11) (2 * x)) h ∙ antilog-even (field_at 11) (j * k % 2048 + j * k / 2048) ∙ folded j k

-- ---- what holds of all

pub all-at : (P : ℕ → Type 0) (l : List ℕ) (i : ℕ) → i < length l → All P l → P (get_or l i 0)
all-at P [] i h a = absurd (omega arith)
all-at P (x ∷ l) zero h a = a.0
all-at P (x ∷ l) (suc i) h a = all-at P l i (omega arith) a.1

-- ---- sums

xor-snoc : (g : ℕ → ℕ) (l : List ℕ) (j : ℕ) → xor_over g (l ++ j ∷ []) ≡ bit_xor (xor_over g l) (g j)
unfolding xor_over
xor-snoc g [] j = xor_zero_r (g j)
xor-snoc g (x ∷ l) j = ap (bit_xor (g x)) (xor-snoc g l j) ∙ sym (xor_assoc (g x) (xor_over g l) (g j))

pub sum-on : (js : List ℕ) (k : ℕ) {sum i v : ℕ} → sum ≡ sum_at (take i js) k → i < length js
    → v ≡ power F11 (power F11 2 (get_or js i 0)) k → bit_xor sum v ≡ sum_at (take (i + 1) js) k
sum-on js k {sum} {i} {v} s h e =
    ap₂ bit_xor s e ∙ sym (xor-snoc (λ j. power F11 (power F11 2 j) k) (take i js) (get_or js i 0))
    ∙ ap (λ (l : List ℕ). sum_at l k) (sym (ap (λ (m : ℕ). take m js) (add-one i) ∙ take-suc js i 0 h))

-- ---- flips

flip-snoc : (l : List ℕ) (j : ℕ) (bytes : List ℕ) → flip_all (l ++ j ∷ []) bytes ≡ flip_all (j ∷ []) (flip_all l bytes)
unfolding flip_all
flip-snoc [] j bytes = refl
flip-snoc (x ∷ l) j bytes = flip-snoc l j (set bytes (x / 8) (bit_xor (get_or bytes (x / 8) 0) (2 ^ (x % 8))))

pub length-flip : (l bytes : List ℕ) → length (flip_all l bytes) ≡ length bytes
unfolding flip_all
length-flip [] bytes = refl
length-flip (x ∷ l) bytes = length-flip l _ ∙ length-set bytes (x / 8) _

pub flip-on : (js word₀ : List ℕ) {word : List ℕ} {i v : ℕ} → word ≡ flip_all (take i js) word₀ → i < length js
    → v ≡ 2 ^ (get_or js i 0 % 8)
    → set word (get_or js i 0 / 8) (bit_xor (get_or word (get_or js i 0 / 8) 0) v) ≡ flip_all (take (i + 1) js) word₀
unfolding flip_all
flip-on js word₀ {word} {i} {v} w h e =
    let j : ℕ = get_or js i 0 in
    ap₂ (λ (u : List ℕ) (x : ℕ). set u (j / 8) (bit_xor (get_or u (j / 8) 0) x)) w e
    ∙ sym (ap (λ (s : List ℕ). flip_all s word₀) (ap (λ (m : ℕ). take m js) (add-one i) ∙ take-suc js i 0 h) ∙ flip-snoc (take i js) j word₀)

-- ---- places

step : (f : ℕ → ℕ) (xs : List ℕ) (i : ℕ) → i < length xs
    → set (map f (take i xs) ++ drop i xs) i (f (get_or xs i 0)) ≡ map f (take (suc i) xs) ++ drop (suc i) xs
step f [] i h = absurd (omega arith)
step f (x ∷ xs) zero h = refl
step f (x ∷ xs) (suc i) h = ap (λ (l : List ℕ). f x ∷ l) (step f xs i (omega arith))

at-seam : (f : ℕ → ℕ) (xs : List ℕ) (i : ℕ) → i < length xs → get_or (map f (take i xs) ++ drop i xs) i 0 ≡ get_or xs i 0
at-seam f [] i h = absurd (omega arith)
at-seam f (x ∷ xs) zero h = refl
at-seam f (x ∷ xs) (suc i) h = at-seam f xs i (omega arith)

pub map-on : (f : ℕ → ℕ) (xs : List ℕ) {s : List ℕ} {i v : ℕ} → s ≡ map f (take i xs) ++ drop i xs → i < length xs
    → v ≡ f (get_or s i 0) → set s i v ≡ map f (take (i + 1) xs) ++ drop (i + 1) xs
map-on f xs {s} {i} {v} w h e =
    let x : v ≡ f (get_or xs i 0) = e ∙ ap (λ (l : List ℕ). f (get_or l i 0)) w ∙ ap f (at-seam f xs i h) in
    ap₂ (λ (l : List ℕ) (y : ℕ). set l i y) w x ∙ step f xs i h
    ∙ ap (λ (n : ℕ). map f (take n xs) ++ drop n xs) (sym (add-one i))
