-- What the words of bit planes do, each lane does in the field.
--   lane-sum, lane-product, lane-doubled   what a sum, a product and a doubling do in each lane
--   lane-is-zero      a lane is 0 exactly if the word of occupied lanes says so
--   butterfly-from, butterflies-turn   one butterfly as the code stores it, one more of them
--   BinaryDigits            the digits of a polynomial, each 0 or 1
-- Assumes nothing.
use mathlib.Core.Path.{◌≡◌, refl, sym, ap, ap₂, ◌∙◌, subst}
use mathlib.Core.List.{List, [], ◌∷◌, ◌++◌, map}
use Prim.Native.Nat.{ℕ, zero, suc, ◌+◌, ◌*◌, ◌/◌, ◌%◌, ◌^◌, ◌≤◌, ◌<◌}
use native.Mathlib.Nat.{zero-mul, one-mul, mul-zero, mul-one, mul_assoc, mul-add, mod-lt, zero-lt-suc, div-eq_of_lt, add-zero, add-suc, pow-suc, zero-add, mod-eq_of_lt}
use native.Mathlib.Omega.{arith}
use lib.Arith.{digits_div, digits_mod}
use lib.Pow.{pow_pos}
use mathlib.Core.Logic.{◌↔◌}
use lib.Bits.{bit_and, bit_or, bit_xor, or_shr, or_mod, and_shr, and_mod, xor_shr, xor_mod, xor_block, xor_zero_r, xor_self, xor_comm, xor_shifted}
use lib.ListN.{get_or, length, take, drop, replicate, length-map, length-take, length-append, length-replicate}
use Rattle.field.specs.Field.{Field, cut, reduce, carry_free, mul}
use Rattle.field.proofs.Digits.{bit-cases}
use Rattle.field.proofs.CarryFree.{carry_free-step, carry_free-zero-l}
use Rattle.field.proofs.Reduce.{reduce-zero, reduce-step, reduce-xor, reduce-double, reduce-below}
use lib.Seq.{paste}
use Rattle.poly_values.specs.Planes.{binary_digit, lane, occupied, digits_number, sum, tapped, taps, doubled, carry_free_words, tap_word, fold_top, folded, lane_product, tabulate, sum_words, words_at, butterfly_sum, butterfly_at, butterflies_at, field_by}

-- ---- digits

digit-xor : (l x y : ℕ) → binary_digit l (bit_xor x y) ≡ bit_xor (binary_digit l x) (binary_digit l y)
digit-xor l x y = ap (λ (n : ℕ). n % 2) (xor_shr x y l) ∙ xor_mod (x / 2 ^ l) (y / 2 ^ l) 1

digit_and : (l x y : ℕ) → binary_digit l (bit_and x y) ≡ binary_digit l x * binary_digit l y
digit_and l x y =
    ap (λ (n : ℕ). n % 2) (and_shr x y l) ∙ and_mod (x / 2 ^ l) (y / 2 ^ l) 1
    ∙ bit-cases (λ (d : ℕ). bit_and d (binary_digit l y) ≡ d * binary_digit l y) (sym (zero-mul (binary_digit l y)))
    (bit-cases (λ (e : ℕ). bit_and 1 e ≡ 1 * e) refl refl (y / 2 ^ l)) (x / 2 ^ l)

digit_lt : (l w : ℕ) → binary_digit l w < 2
digit_lt l w = mod-lt (w / 2 ^ l) (zero-lt-suc 1)

-- ---- lanes

pub lane-lt : (l : ℕ) (p : List ℕ) → lane l p < 2 ^ length p
unfolding lane
lane-lt l [] = zero-lt-suc 0
lane-lt l (w ∷ p) = omega (arith, lane-lt l p, digit_lt l w, pow-suc 2 (length p))

pub lane-sum : (l : ℕ) (a b : List ℕ) → lane l (sum a b) ≡ bit_xor (lane l a) (lane l b)
unfolding lane sum
lane-sum l [] b = refl
lane-sum l (x ∷ a) [] = sym (xor_zero_r (lane l a * 2 + binary_digit l x))
lane-sum l (x ∷ a) (y ∷ b) =
    ap₂ (λ (s t : ℕ). s * 2 + t) (lane-sum l a b) (digit-xor l x y)
    ∙ sym (xor_block 1 (lane l a) (lane l b) (binary_digit l x) (binary_digit l y) (digit_lt l x) (digit_lt l y))

-- a digit times a number and a digit
digit-times : (n a d : ℕ) → n % 2 * (a * 2 + d) ≡ (n % 2 * a) * 2 + n % 2 * d
digit-times n a d =
    bit-cases (λ (e : ℕ). e * (a * 2 + d) ≡ (e * a) * 2 + e * d)
    (omega (arith, zero-mul (a * 2 + d), zero-mul a, zero-mul d)) (omega (arith, one-mul (a * 2 + d), one-mul a, one-mul d)) n

pub lane-scaled : (l w : ℕ) (b : List ℕ) → lane l (map (bit_and w) b) ≡ binary_digit l w * lane l b
unfolding lane
lane-scaled l w [] = sym (mul-zero (binary_digit l w))
lane-scaled l w (y ∷ b) =
    ap₂ (λ (s t : ℕ). s * 2 + t) (lane-scaled l w b) (digit_and l w y) ∙ sym (digit-times (w / 2 ^ l) (lane l b) (binary_digit l y))

pub lane-zero : (l n : ℕ) → lane l (replicate n 0) ≡ 0
unfolding lane
lane-zero l zero = refl
lane-zero l (suc n) = ap₂ (λ (s t : ℕ). s * 2 + t) (lane-zero l n) (ap (λ (t : ℕ). t % 2) (div-eq_of_lt (pow_pos l)))

-- ---- doubling

-- digits, each 0 or 1
abbrev pub BinaryDigits : List ℕ → Type 0
BinaryDigits [] = Unit {0}
BinaryDigits (d ∷ q) = (d < 2) × BinaryDigits q

number_lt : (q : List ℕ) → BinaryDigits q → digits_number q < 2 ^ length q
unfolding digits_number
number_lt [] ok = zero-lt-suc 0
number_lt (d ∷ q) ok = omega (arith, number_lt q ok.1, ok.0, pow-suc 2 (length q))

digit-tapped : (l d t w : ℕ) → d < 2 → binary_digit l (tapped d t w) ≡ bit_xor (binary_digit l t * d) (binary_digit l w)
digit-tapped l zero t w h = ap (λ (n : ℕ). bit_xor n (binary_digit l w)) (sym (mul-zero (binary_digit l t)))
digit-tapped l (suc zero) t w h =
    digit-xor l w t ∙ xor_comm (binary_digit l w) (binary_digit l t) ∙ ap (λ (n : ℕ). bit_xor n (binary_digit l w)) (sym (mul-one (binary_digit l t)))
digit-tapped l (suc (suc d)) t w h = absurd (omega arith)

lane-taps : (l t : ℕ) (q s : List ℕ) → BinaryDigits q → length q ≤ length s
    → lane l (taps t q s) ≡ bit_xor (binary_digit l t * digits_number q) (lane l (take (length q) s))
unfolding lane taps digits_number
lane-taps l t [] s ok h = sym (ap (λ (n : ℕ). bit_xor n 0) (mul-zero (binary_digit l t)))
lane-taps l t (d ∷ q) [] ok h = absurd (omega arith)
lane-taps l t (d ∷ q) (w ∷ s) ok h =
    ap₂ (λ (x y : ℕ). x * 2 + y) (lane-taps l t q s ok.1 (omega arith)) (digit-tapped l d t w ok.0)
    ∙ sym (xor_block 1 (binary_digit l t * digits_number q) (lane l (take (length q) s)) (binary_digit l t * d) (binary_digit l w) small (digit_lt l w))
    ∙ ap (λ (n : ℕ). bit_xor n (lane l (take (length q) s) * 2 + binary_digit l w)) (sym (digit-times (t / 2 ^ l) (digits_number q) d))
  where
    small : binary_digit l t * d < 2
    small = bit-cases (λ (e : ℕ). e * d < 2) (omega (arith, zero-mul d)) (omega (arith, one-mul d, ok.0)) (t / 2 ^ l)

-- a lane by its last word and the rest
lane-last : (l n : ℕ) (s : List ℕ) → length s ≡ suc n → lane l s ≡ binary_digit l (get_or s n 0) * 2 ^ n + lane l (take n s)
unfolding lane
lane-last l n [] h = absurd (omega arith)
lane-last l zero (w ∷ []) h = omega (arith, mul-one (binary_digit l w))
lane-last l zero (w ∷ y ∷ s) h = absurd (omega arith)
lane-last l (suc n) (w ∷ s) h =
    ap (λ (x : ℕ). x * 2 + binary_digit l w) (lane-last l n s (omega arith))
    ∙ omega (arith, ap (λ (x : ℕ). binary_digit l (get_or s n 0) * x) (pow-suc 2 n) ∙ sym (mul_assoc (binary_digit l (get_or s n 0)) (2 ^ n) 2))

-- ---- lengths

length-taps : (t : ℕ) (q s : List ℕ) → length q ≤ length s → length (taps t q s) ≡ length q
unfolding taps
length-taps t [] s h = refl
length-taps t (d ∷ q) [] h = absurd (omega arith)
length-taps t (d ∷ q) (w ∷ s) h = ap suc (length-taps t q s (omega arith))

pub length-sum : (a b : List ℕ) (n : ℕ) → length a ≡ n → length b ≡ n → length (sum a b) ≡ n
unfolding sum
length-sum [] b n h k = k
length-sum (x ∷ a) [] n h k = h
length-sum (x ∷ a) (y ∷ b) n h k = ap suc (length-sum a b (length a) refl (omega arith)) ∙ h

-- a sum is as long as the longer
pub length-longer : (a b : List ℕ) → length a ≤ length b → length (sum a b) ≡ length b
unfolding sum
length-longer [] b h = refl
length-longer (x ∷ a) [] h = absurd (omega arith)
length-longer (x ∷ a) (y ∷ b) h = ap suc (length-longer a b (omega arith))

length-other : (a b : List ℕ) → length b ≤ length a → length (sum a b) ≡ length a
unfolding sum
length-other [] [] h = refl
length-other [] (y ∷ b) h = absurd (omega arith)
length-other (x ∷ a) [] h = refl
length-other (x ∷ a) (y ∷ b) h = ap suc (length-other a b (omega arith))

pub length-carry_free_words : (a b : List ℕ) → length (carry_free_words a b) ≡ length a + length b
unfolding carry_free_words
length-carry_free_words [] b = length-replicate (length b) 0 ∙ sym (zero-add (length b))
length-carry_free_words (w ∷ a) b =
    length-longer (map (bit_and w) b) (0 ∷ carry_free_words a b) (omega (arith, length-map b (bit_and w), length-carry_free_words a b)) ∙ omega (arith, length-carry_free_words a b)

pub length-top : (q : List ℕ) (k : ℕ) (t : List ℕ) → length t ≡ suc (length q + k) → length (fold_top q k t) ≡ length q + k
unfolding fold_top
length-top q k t h =
    length-other (take (length q + k) t) (replicate k 0 ++ map (tap_word (get_or t (length q + k) 0)) q)
    (omega (arith, n, length-append (replicate k 0) (map (tap_word (get_or t (length q + k) 0)) q), length-replicate {A = ℕ} k 0, length-map q (tap_word (get_or t (length q + k) 0)))) ∙ n
  where
    n : length (take (length q + k) t) ≡ length q + k
    n = length-take (length q + k) t ∙ omega (arith, h)

length-folded : (q : List ℕ) (k : ℕ) (t : List ℕ) → length t ≡ length q + k → length (folded q k t) ≡ length q
unfolding folded
length-folded q zero t h = h ∙ add-zero (length q)
length-folded q (suc k) t h = length-folded q k (fold_top q k t) (length-top q k t (omega (arith, h)))

pub length-lane_product : (q a b : List ℕ) → length b ≡ length q → length (lane_product q a b) ≡ length q
unfolding lane_product
length-lane_product q a b h = length-folded q (length a) (carry_free_words a b) (length-carry_free_words a b ∙ omega (arith, h))

module _ (q : List ℕ) (ok : BinaryDigits q) where
  pub lane-doubled : (l : ℕ) (r : List ℕ) → length r ≡ length q → lane l (doubled q r) ≡ cut (field_by q) (lane l r * 2)
  unfolding doubled cut lane
  lane-doubled l r h =
      lane-taps l t q (0 ∷ r) ok (omega arith)
      ∙ sym (ap (λ (y : ℕ). bit_xor (y / 2 ^ m % 2 * (2 ^ m + digits_number q)) y) whole
      ∙ ap (λ (e : ℕ). bit_xor (e * (2 ^ m + digits_number q)) (d * 2 ^ m + a)) (ap (λ (n : ℕ). n % 2) (digits_div d low) ∙ mod-eq_of_lt (digit_lt l t))
      ∙ ap (λ (n : ℕ). bit_xor n (d * 2 ^ m + a)) (mul-add d (2 ^ m) (digits_number q))
      ∙ xor_block m d d (d * digits_number q) a small low ∙ ap (λ (n : ℕ). n * 2 ^ m + bit_xor (d * digits_number q) a) (xor_self d)
      ∙ ap (λ (n : ℕ). n + bit_xor (d * digits_number q) a) (zero-mul (2 ^ m)) ∙ zero-add (bit_xor (d * digits_number q) a))
    where
      m : ℕ
      m = length q

      t : ℕ
      t = get_or (0 ∷ r) m 0

      d : ℕ
      d = binary_digit l t

      a : ℕ
      a = lane l (take m (0 ∷ r))

      low : a < 2 ^ m
      low = subst (λ (n : ℕ). a < 2 ^ n) (length-take m (0 ∷ r) ∙ omega (arith, h)) (lane-lt l (take m (0 ∷ r)))

      small : d * digits_number q < 2 ^ m
      small = bit-cases (λ (e : ℕ). e * digits_number q < 2 ^ m) (omega (arith, zero-mul (digits_number q), pow_pos m)) (omega (arith, one-mul (digits_number q), number_lt q ok)) (t / 2 ^ l)

      nought : binary_digit l 0 ≡ 0
      nought = ap (λ (n : ℕ). n % 2) (div-eq_of_lt (pow_pos l))

      whole : lane l r * 2 ≡ d * 2 ^ m + a
      whole = sym (ap (λ (n : ℕ). lane l r * 2 + n) nought ∙ add-zero (lane l r * 2)) ∙ lane-last l m (0 ∷ r) (ap suc h)

  -- ---- the product

  pub mul-step : (n d b : ℕ) → b < 2 ^ length q → d < 2 → mul (field_by q) (n * 2 + d) b ≡ bit_xor (cut (field_by q) (mul (field_by q) n b * 2)) (d * b)
  unfolding mul
  mul-step n d b h k =
      ap (reduce F) (carry_free-step (n * 2 + d) b ∙ ap₂ (λ (x y : ℕ). bit_xor (x * b) (carry_free y b * 2)) (digits_mod n k) (digits_div n k))
      ∙ reduce-xor F (d * b) (carry_free n b * 2) ∙ xor_comm (reduce F (d * b)) (reduce F (carry_free n b * 2))
      ∙ ap₂ bit_xor (reduce-double F (carry_free n b)) (reduce-below F (d * b) small)
    where
      F : Field
      F = field_by q

      small : d * b < 2 ^ length q
      small = subst (λ (e : ℕ). e * b < 2 ^ length q) (mod-eq_of_lt k)
          (bit-cases (λ (e : ℕ). e * b < 2 ^ length q) (omega (arith, zero-mul b, pow_pos (length q))) (omega (arith, one-mul b)) d)

  pub mul-none : (b : ℕ) → mul (field_by q) 0 b ≡ 0
  unfolding mul
  mul-none b = ap (reduce (field_by q)) (carry_free-zero-l b) ∙ reduce-zero (field_by q)

  -- x^m is what the polynomial has below its top
  cut-top : cut (field_by q) (2 ^ length q) ≡ digits_number q
  unfolding cut
  cut-top =
      ap (λ (y : ℕ). bit_xor (y / 2 ^ m % 2 * (2 ^ m + digits_number q)) y) whole
      ∙ ap (λ (e : ℕ). bit_xor (e % 2 * (2 ^ m + digits_number q)) (1 * 2 ^ m + 0)) (digits_div 1 (pow_pos m))
      ∙ ap (λ (n : ℕ). bit_xor n (1 * 2 ^ m + 0)) (mul-add 1 (2 ^ m) (digits_number q) ∙ ap (λ (n : ℕ). 1 * 2 ^ m + n) (one-mul (digits_number q)))
      ∙ xor_block m 1 1 (digits_number q) 0 (number_lt q ok) (pow_pos m) ∙ ap (λ (n : ℕ). n + bit_xor (digits_number q) 0) (zero-mul (2 ^ m)) ∙ zero-add (bit_xor (digits_number q) 0) ∙ xor_zero_r (digits_number q)
    where
      m : ℕ
      m = length q

      whole : 2 ^ m ≡ 1 * 2 ^ m + 0
      whole = omega (arith, one-mul (2 ^ m))

  reduce-top : reduce (field_by q) (2 ^ length q) ≡ digits_number q
  reduce-top = at_top (length q) refl ∙ cut-top
    where
      at_top : (m : ℕ) → length q ≡ m → reduce (field_by q) (2 ^ m) ≡ cut (field_by q) (2 ^ m)
      at_top zero e = reduce-step (field_by q) 1 ∙ ap (λ (r : ℕ). cut (field_by q) (r * 2 + 1)) (reduce-zero (field_by q))
      at_top (suc m) e =
          ap (reduce (field_by q)) (pow-suc 2 m) ∙ reduce-double (field_by q) (2 ^ m)
          ∙ ap (λ (r : ℕ). cut (field_by q) (r * 2)) (reduce-below (field_by q) (2 ^ m) (subst (λ (n : ℕ). 2 ^ m < 2 ^ n) (sym e) (omega (arith, pow-suc 2 m, pow_pos m)))) ∙ ap (cut (field_by q)) (sym (pow-suc 2 m))

  -- the same, k places up
  reduce-up : (k : ℕ) → reduce (field_by q) (2 ^ (length q + k)) ≡ reduce (field_by q) (digits_number q * 2 ^ k)
  reduce-up zero = ap (λ (n : ℕ). reduce (field_by q) (2 ^ n)) (add-zero (length q)) ∙ reduce-top ∙ sym (ap (reduce (field_by q)) (mul-one (digits_number q)) ∙ reduce-below (field_by q) (digits_number q) (number_lt q ok))
  reduce-up (suc k) =
      ap (reduce (field_by q)) (ap (λ (n : ℕ). 2 ^ n) (add-suc (length q) k) ∙ pow-suc 2 (length q + k)) ∙ reduce-double (field_by q) (2 ^ (length q + k))
      ∙ ap (λ (r : ℕ). cut (field_by q) (r * 2)) (reduce-up k) ∙ sym (reduce-double (field_by q) (digits_number q * 2 ^ k))
      ∙ ap (reduce (field_by q)) (mul_assoc (digits_number q) (2 ^ k) 2 ∙ ap (λ (x : ℕ). digits_number q * x) (sym (pow-suc 2 k)))

  -- the words of the carry-free product
  lane-rows : (l : ℕ) (a b : List ℕ) → lane l (carry_free_words a b) ≡ carry_free (lane l a) (lane l b)
  unfolding carry_free_words lane
  lane-rows l [] b = lane-zero l (length b) ∙ sym (carry_free-zero-l (lane l b))
  lane-rows l (w ∷ a) b =
      lane-sum l (map (bit_and w) b) (0 ∷ carry_free_words a b)
      ∙ ap₂ bit_xor (lane-scaled l w b) (ap (λ (n : ℕ). lane l (carry_free_words a b) * 2 + n) (ap (λ (n : ℕ). n % 2) (div-eq_of_lt (pow_pos l))) ∙ add-zero (lane l (carry_free_words a b) * 2) ∙ ap (λ (n : ℕ). n * 2) (lane-rows l a b))
      ∙ sym (carry_free-step (lane l a * 2 + binary_digit l w) (lane l b)
      ∙ ap₂ (λ (x y : ℕ). bit_xor (x * lane l b) (carry_free y (lane l b) * 2)) (digits_mod (lane l a) (digit_lt l w)) (digits_div (lane l a) (digit_lt l w)))

  lane-up : (l k : ℕ) (v : List ℕ) → lane l (replicate k 0 ++ v) ≡ lane l v * 2 ^ k
  unfolding lane
  lane-up l zero v = sym (mul-one (lane l v))
  lane-up l (suc k) v =
      ap (λ (n : ℕ). lane l (replicate k 0 ++ v) * 2 + n) (ap (λ (n : ℕ). n % 2) (div-eq_of_lt (pow_pos l))) ∙ add-zero (lane l (replicate k 0 ++ v) * 2)
      ∙ ap (λ (n : ℕ). n * 2) (lane-up l k v) ∙ mul_assoc (lane l v) (2 ^ k) 2 ∙ ap (λ (x : ℕ). lane l v * x) (sym (pow-suc 2 k))

  lane-taps-of : (l t : ℕ) (q : List ℕ) → BinaryDigits q → lane l (map (tap_word t) q) ≡ binary_digit l t * digits_number q
  unfolding lane digits_number
  lane-taps-of l t [] ok = sym (mul-zero (binary_digit l t))
  lane-taps-of l t (d ∷ q) ok =
      ap₂ (λ (x y : ℕ). x * 2 + y) (lane-taps-of l t q ok.1) (one d ok.0) ∙ sym (digit-times (t / 2 ^ l) (digits_number q) d)
    where
      one : (d : ℕ) → d < 2 → binary_digit l (tap_word t d) ≡ binary_digit l t * d
      one zero h = ap (λ (n : ℕ). n % 2) (div-eq_of_lt (pow_pos l)) ∙ sym (mul-zero (binary_digit l t))
      one (suc zero) h = sym (mul-one (binary_digit l t))
      one (suc (suc d)) h = absurd (omega arith)

  lane-top : (l k : ℕ) (t : List ℕ) → length t ≡ suc (length q + k) → reduce (field_by q) (lane l (fold_top q k t)) ≡ reduce (field_by q) (lane l t)
  unfolding fold_top
  lane-top l k t h =
      ap (reduce F) (lane-sum l low (replicate k 0 ++ map (tap_word top) q) ∙ ap (bit_xor (lane l low)) (lane-up l k (map (tap_word top) q) ∙ ap (λ (x : ℕ). x * 2 ^ k) (lane-taps-of l top q ok)))
      ∙ reduce-xor F (lane l low) (d * digits_number q * 2 ^ k) ∙ xor_comm (reduce F (lane l low)) (reduce F (d * digits_number q * 2 ^ k))
      ∙ ap (λ (x : ℕ). bit_xor x (reduce F (lane l low))) same
      ∙ sym (ap (reduce F) (lane-last l (length q + k) t h ∙ sym (xor_shifted d (length q + k) (lane l low) small)) ∙ reduce-xor F (d * 2 ^ (length q + k)) (lane l low))
    where
      F : Field
      F = field_by q

      low : List ℕ
      low = take (length q + k) t

      top : ℕ
      top = get_or t (length q + k) 0

      d : ℕ
      d = binary_digit l top

      small : lane l low < 2 ^ (length q + k)
      small = subst (λ (n : ℕ). lane l low < 2 ^ n) (length-take (length q + k) t ∙ omega (arith, h)) (lane-lt l low)

      same : reduce F (d * digits_number q * 2 ^ k) ≡ reduce F (d * 2 ^ (length q + k))
      same =
          bit-cases (λ (e : ℕ). reduce F (e * digits_number q * 2 ^ k) ≡ reduce F (e * 2 ^ (length q + k)))
          (ap (reduce F) (ap (λ (x : ℕ). x * 2 ^ k) (zero-mul (digits_number q)) ∙ zero-mul (2 ^ k) ∙ sym (zero-mul (2 ^ (length q + k)))))
          (ap (reduce F) (ap (λ (x : ℕ). x * 2 ^ k) (one-mul (digits_number q))) ∙ sym (reduce-up k) ∙ ap (reduce F) (sym (one-mul (2 ^ (length q + k))))) (top / 2 ^ l)

  lane-folded : (l k : ℕ) (t : List ℕ) → length t ≡ length q + k → lane l (folded q k t) ≡ reduce (field_by q) (lane l t)
  unfolding folded
  lane-folded l zero t h = sym (reduce-below (field_by q) (lane l t) (subst (λ (n : ℕ). lane l t < 2 ^ n) (h ∙ add-zero (length q)) (lane-lt l t)))
  lane-folded l (suc k) t h = lane-folded l k (fold_top q k t) (length-top q k t (omega (arith, h))) ∙ lane-top l k t (omega (arith, h))

  -- the law of the product on planes: in every lane it is the field's product
  pub lane-product : (l : ℕ) (a b : List ℕ) → length b ≡ length q → lane l (lane_product q a b) ≡ mul (field_by q) (lane l a) (lane l b)
  unfolding lane_product mul
  lane-product l a b h = lane-folded l (length a) (carry_free_words a b) (length-carry_free_words a b ∙ omega (arith, h)) ∙ ap (reduce (field_by q)) (lane-rows l a b)

-- ---- the test for 0 in every lane

digit_or : (l x y : ℕ) → binary_digit l (bit_or x y) ≡ bit_or (binary_digit l x) (binary_digit l y)
digit_or l x y = ap (λ (n : ℕ). n % 2) (or_shr x y l) ∙ or_mod (x / 2 ^ l) (y / 2 ^ l) 1

or-zero : (a b : ℕ) → bit_or (a % 2) (b % 2) ≡ 0 ↔ ((b % 2 ≡ 0) × (a % 2 ≡ 0))
or-zero a b =
    bit-cases (λ (x : ℕ). bit_or x (b % 2) ≡ 0 ↔ ((b % 2 ≡ 0) × (x ≡ 0))) (λ h. (h, refl), λ h. h.0)
    (bit-cases (λ (y : ℕ). bit_or 1 y ≡ 0 ↔ ((y ≡ 0) × (◌≡◌ {A = ℕ} 1 0))) (λ h. absurd (omega arith), λ h. absurd (omega arith)) (λ h. absurd (omega arith), λ h. absurd (omega arith)) b) a

-- the element in lane l is 0 exactly where no plane has the digit l
pub lane-is-zero : (l : ℕ) (v : List ℕ) → binary_digit l (occupied v) ≡ 0 ↔ (lane l v ≡ 0)
unfolding occupied lane
lane-is-zero l [] = (λ h. refl, λ h. ap (λ (n : ℕ). n % 2) (div-eq_of_lt (pow_pos l)))
lane-is-zero l (w ∷ v) = (
  λ h. let e = (or-zero (w / 2 ^ l) (occupied v / 2 ^ l)).0 (sym (digit_or l w (occupied v)) ∙ h) in
      omega (arith, (lane-is-zero l v).0 e.0, e.1),
  λ h. digit_or l w (occupied v) ∙ (or-zero (w / 2 ^ l) (occupied v / 2 ^ l)).1 ((lane-is-zero l v).1 (omega arith), omega arith),
)

-- ---- the sum, word by word

pub sum-words : (n : ℕ) (a b : List ℕ) → length a ≡ n → length b ≡ n → tabulate n (λ k. bit_xor (get_or a k 0) (get_or b k 0)) ≡ sum a b
unfolding sum
sum-words zero [] [] h k = refl
sum-words zero [] (y ∷ b) h k = absurd (omega arith)
sum-words zero (x ∷ a) b h k = absurd (omega arith)
sum-words (suc n) [] b h k = absurd (omega arith)
sum-words (suc n) (x ∷ a) [] h k = absurd (omega arith)
sum-words (suc n) (x ∷ a) (y ∷ b) h k = ap (λ l. bit_xor x y ∷ l) (sum-words n a b (omega arith) (omega arith))

-- the butterfly's steps, put together
pub butterfly-from : (q e p : List ℕ) (up : ℕ) {a b c s t p₁ p₂ : List ℕ} → a ≡ words_at (length q) p 0 → b ≡ words_at (length q) p up
    → c ≡ lane_product q e b → s ≡ sum_words (length q) a c → t ≡ sum_words (length q) s b
    → p₁ ≡ paste p 0 s (length q) → p₂ ≡ paste p₁ up t (length q) → p₂ ≡ butterfly_at q e up p
unfolding butterfly_at
butterfly-from q e p up {a} {b} {c} {s} {t} {p₁} ea eb ec es et e₁ e₂ =
    e₂ ∙ ap₂ (λ x y. paste x up y (length q)) (e₁ ∙ ap (λ x. paste p 0 x (length q)) sum_is)
    (et ∙ ap₂ (λ x y. sum_words (length q) x y) sum_is eb)
  where
    sum_is : s ≡ butterfly_sum q e up p
    sum_is = es ∙ ap₂ (λ x y. sum_words (length q) x y) ea (ec ∙ ap (lane_product q e) eb)

-- one butterfly more
pub butterflies-turn : (q e : List ℕ) (up w : ℕ) (p₀ : List ℕ) {p : List ℕ} → p ≡ butterflies_at q e up w p₀
    → take (w * length q) p ++ butterfly_at q e up (drop (w * length q) p) ≡ butterflies_at q e up (suc w) p₀
unfolding butterflies_at
butterflies-turn q e up w p₀ h = ap (λ p. take (w * length q) p ++ butterfly_at q e up (drop (w * length q) p)) h
