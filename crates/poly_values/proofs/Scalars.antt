-- An element in every lane, a multiple of every lane, the element in a lane.
--   spread-is                       the words of a spread element
--   multiple-from, -double, -more   the digits of the multiplier, one after the other
--   lane-from, lane-turn            the digits of a lane, the highest first
--   mixed-from, mixed-turn          the sum of multiples, from the last
-- Assumes nothing.
use mathlib.Core.Path.{◌≡◌, refl, sym, ap, ap₂, ◌∙◌, subst}
use mathlib.Core.Bool.{Bool, true}
use mathlib.Core.List.{List, [], ◌∷◌}
use Prim.Native.Nat.{ℕ, zero, suc, ◌+◌, ◌*◌, ◌/◌, ◌%◌, ◌^◌, ◌≤◌, ◌<◌}
use native.Mathlib.Decide.{ℕ_discrete}
use native.Mathlib.Nat.{zero-mul, one-mul, mul_comm, suc-mul, zero-add, pow-suc, div-div-eq-div-mul, div-one, div-eq_of_lt, add-zero}
use native.Mathlib.Omega.{arith}
use lib.Pow.{pow_pos}
use lib.Bits.{bit_xor, xor_zero_r}
use lib.Dec.{T, eqb, eqb→eq}
use lib.ListN.{get_or, length, drop, replicate, length-replicate, drop_of_length-le}
use lib.Seq.{drop-cons, drop-drop, get_or-drop}
use Rattle.field.specs.Field.{Field, cut, mul}
use Rattle.field.proofs.Digits.{bit-cases}
use Rattle.field.proofs.Table.{both_true, both_true-left, both_true-right}
use Rattle.poly_values.specs.Planes.{binary_digit, lane, tapped, taps, doubled, tabulate, sum_words, doubled_words, spread_words, words_at, field_by, Multiple, Spread, Mixed, mix_at, taps11}
use Rattle.poly_values.proofs.Lists.{length-tabulate, tabulate-same}
use Rattle.poly_values.proofs.Planes.{BinaryDigits, lane-lt, lane-sum, lane-zero, lane-doubled, mul-step, mul-none, sum-words}

-- ---- an element in every lane

abbrev ones : ℕ
ones = 18446744073709551615

ones_test : ℕ → Bool
ones_test zero = true
ones_test (suc n) = both_true (eqb (ones / 2 ^ n % 2) 1) (ones_test n)

ones-digit : (n : ℕ) → T (ones_test n) → (l : ℕ) → l < n → binary_digit l ones ≡ 1
unfolding ones_test
ones-digit zero t l h = absurd (omega arith)
ones-digit (suc n) t l h = go (ℕ_discrete l n) (ones-digit n (both_true-right (eqb (ones / 2 ^ n % 2) 1) (ones_test n) t) l)
  where
    go : Dec (l ≡ n) → (l < n → binary_digit l ones ≡ 1) → binary_digit l ones ≡ 1
    go (yes e) rec = ap (λ (i : ℕ). binary_digit i ones) e ∙ eqb→eq (ones / 2 ^ n % 2) 1 (both_true-left (eqb (ones / 2 ^ n % 2) 1) (ones_test n) t)
    go (no e) rec = rec (omega arith)

pub all_ones : (l : ℕ) → l < 64 → binary_digit l ones ≡ 1
unfolding ones_test
all_ones l h = ones-digit 64 tt l h

-- a digit on every lane
digit-filled : (l : ℕ) → l < 64 → (n : ℕ) → binary_digit l (n % 2 * ones) ≡ n % 2
digit-filled l h =
    bit-cases (λ (d : ℕ). binary_digit l (d * ones) ≡ d) (ap (λ (t : ℕ). t % 2) (div-eq_of_lt (pow_pos l))) (ap (binary_digit l) (one-mul ones) ∙ all_ones l h)

spread-lane : (l : ℕ) → l < 64 → (n c : ℕ) → c < 2 ^ n → lane l (spread_words n c) ≡ c
unfolding lane
spread-lane l h zero c k = omega arith
spread-lane l h (suc n) c k =
    ap₂ (λ (s t : ℕ). s * 2 + t)
    (ap (lane l) (tabulate-same n (λ j. c / 2 ^ suc j % 2 * ones) (λ j. c / 2 / 2 ^ j % 2 * ones)
    (λ j. ap (λ (t : ℕ). t % 2 * ones) (ap (λ (t : ℕ). c / t) (pow-suc 2 j ∙ mul_comm (2 ^ j) 2) ∙ sym (div-div-eq-div-mul c 2 (2 ^ j)))))
    ∙ spread-lane l h n (c / 2) (omega (arith, pow-suc 2 n)))
    (digit-filled l h (c / 2 ^ 0) ∙ ap (λ (t : ℕ). t % 2) (div-one c))
    ∙ omega arith

pub spread-is : (q : List ℕ) (c : ℕ) {v : List ℕ} → c < 2 ^ length q → v ≡ spread_words (length q) c → Spread q c v
spread-is q c h e = record { long = ap length e ∙ length-tabulate (length q) _; lanes = λ l k. ap (lane l) e ∙ spread-lane l k (length q) c h }

-- ---- a multiple of every lane

doubled-words-at : (t : ℕ) (q s : List ℕ) → length q ≤ length s → tabulate (length q) (λ k. tapped (get_or q k 0) t (get_or s k 0)) ≡ taps t q s
unfolding taps
doubled-words-at t [] s h = refl
doubled-words-at t (d ∷ q) [] h = absurd (omega arith)
doubled-words-at t (d ∷ q) (x ∷ s) h = ap (λ l. tapped d t x ∷ l) (doubled-words-at t q s (omega arith))

doubled-words : (q r : List ℕ) → length r ≡ length q → doubled_words q r ≡ doubled q r
unfolding doubled
doubled-words q r h = doubled-words-at (get_or (0 ∷ r) (length q) 0) q (0 ∷ r) (omega arith)

module _ (q : List ℕ) (ok : BinaryDigits q) (b : List ℕ) (long : length b ≡ length q) where
  small : (l : ℕ) → lane l b < 2 ^ length q
  small l = subst (λ (n : ℕ). lane l b < 2 ^ n) long (lane-lt l b)

  pub multiple-from : {n : ℕ} {r : List ℕ} → n ≡ 0 → r ≡ replicate (length q) 0 → Multiple q n b r
  unfolding mul
  multiple-from {n} e h = record {
    long = ap length h ∙ length-replicate (length q) 0;
    lanes = λ l. ap (lane l) h ∙ lane-zero l (length q) ∙ sym (ap (λ (t : ℕ). mul (field_by q) t (lane l b)) e ∙ mul-none q ok (lane l b));
  }

  pub multiple-double : {n k : ℕ} {r s : List ℕ} → Multiple q n b r → s ≡ doubled_words q r → k ≡ n * 2 → Multiple q k b s
  multiple-double {n} {k} {r} w e h = record {
    long = ap length e ∙ length-tabulate (length q) _;
    lanes = λ l. ap (lane l) (e ∙ doubled-words q r w.long) ∙ lane-doubled q ok l r w.long ∙ ap (λ (t : ℕ). cut (field_by q) (t * 2)) (w.lanes l)
        ∙ sym (ap (λ (t : ℕ). mul (field_by q) t (lane l b)) (h ∙ sym (add-zero (n * 2))) ∙ mul-step q ok n 0 (lane l b) (small l) (omega arith)
        ∙ ap (bit_xor (cut (field_by q) (mul (field_by q) n (lane l b) * 2))) (zero-mul (lane l b)) ∙ xor_zero_r _);
  }

  pub multiple-more : {n k : ℕ} {r s t : List ℕ} → Multiple q n b r → s ≡ doubled_words q r → t ≡ sum_words (length q) s b → k ≡ n * 2 + 1 → Multiple q k b t
  multiple-more {n} {k} {r} {s} w e f h = record {
    long = ap length f ∙ length-tabulate (length q) _;
    lanes = λ l. ap (lane l) (f ∙ sum-words (length q) s b (ap length e ∙ length-tabulate (length q) _) long) ∙ lane-sum l s b
        ∙ ap (λ (u : ℕ). bit_xor u (lane l b)) (ap (lane l) (e ∙ doubled-words q r w.long) ∙ lane-doubled q ok l r w.long ∙ ap (λ (t : ℕ). cut (field_by q) (t * 2)) (w.lanes l))
        ∙ sym (ap (λ (t : ℕ). mul (field_by q) t (lane l b)) h ∙ mul-step q ok n 1 (lane l b) (small l) (omega arith)
        ∙ ap (bit_xor (cut (field_by q) (mul (field_by q) n (lane l b) * 2))) (one-mul (lane l b)));
  }

-- ---- the element in a lane

pub lane-turn : (v : List ℕ) (l : ℕ) {i j r : ℕ} → i ≡ suc j → j < length v → r ≡ lane l (drop i v) → r * 2 + get_or v j 0 / 2 ^ l % 2 ≡ lane l (drop j v)
unfolding lane
lane-turn v l {i} {j} e h k =
    ap (λ (t : ℕ). t * 2 + get_or v j 0 / 2 ^ l % 2) (k ∙ ap (λ (n : ℕ). lane l (drop n v)) e) ∙ ap (lane l) (sym (drop-cons v j 0 h))

-- ---- the sum of multiples

pub words-drop : (m n : ℕ) (g : List ℕ) → words_at m (drop n g) 0 ≡ words_at m g n
words-drop m n g = tabulate-same m (λ k. get_or (drop n g) (0 + k) 0) (λ k. get_or g (n + k) 0) (λ k. get_or-drop n g (0 + k) 0 ∙ ap (λ (i : ℕ). get_or g (n + i) 0) (zero-add k))

-- the next vector
pub words-next : (m i : ℕ) (p : List ℕ) → words_at m (drop m p) (i * m) ≡ words_at m p (suc i * m)
words-next m i p =
    sym (words-drop m (i * m) (drop m p)) ∙ ap (λ s. words_at m s 0) (drop-drop (i * m) m p ∙ ap (λ (k : ℕ). drop k p) next) ∙ words-drop m (suc i * m) p
  where
    next : m + i * m ≡ suc i * m
    next = omega (arith, suc-mul i m)

-- where every vector has 0 in a lane, so has the sum
pub mix-zero : (F : Field) → ((x : ℕ) → mul F x 0 ≡ 0) → (l : ℕ) (f g : List ℕ)
    → ((j : ℕ) → j < length f → lane l (words_at F.degree g (j * F.degree)) ≡ 0) → mix_at F l f g ≡ 0
unfolding mix_at
mix-zero F z l [] g h = refl
mix-zero F z l (x ∷ f) g h =
    ap₂ bit_xor (ap (mul F x) (ap (λ (k : ℕ). lane l (words_at F.degree g k)) (sym (zero-mul F.degree)) ∙ h 0 (omega arith)) ∙ z x)
    (mix-zero F z l f (drop F.degree g) (λ j k. ap (lane l) (words-next F.degree j g) ∙ h (suc j) (omega arith)))

module _ (q : List ℕ) (ok : BinaryDigits q) (f g : List ℕ) where
  pub mixed-from : {r : List ℕ} → r ≡ replicate (length q) 0 → Mixed q (drop (length f) f) (drop (length f * length q) g) r
  unfolding mix_at
  mixed-from h = record {
    long = ap length h ∙ length-replicate (length q) 0;
    lanes = λ l. ap (lane l) h ∙ lane-zero l (length q) ∙ sym (ap (λ s. mix_at (field_by q) l s (drop (length f * length q) g)) (drop_of_length-le f {i = length f} (omega arith)));
  }

  pub mixed-turn : {i j : ℕ} {r t m s : List ℕ} → i ≡ suc j → j < length f → Mixed q (drop i f) (drop (i * length q) g) r
      → t ≡ words_at (length q) g (j * length q) → Multiple q (get_or f j 0) t m → s ≡ sum_words (length q) m r → Mixed q (drop j f) (drop (j * length q) g) s
  unfolding mix_at
  mixed-turn {i} {j} {r} {t} {m} e h w et em es = record {
    long = ap length es ∙ length-tabulate (length q) _;
    lanes = λ l. ap (lane l) (es ∙ sum-words (length q) m r em.long w.long) ∙ lane-sum l m r
        ∙ ap₂ bit_xor (em.lanes l ∙ ap (λ v. mul (field_by q) (get_or f j 0) (lane l v)) (et ∙ sym (words-drop (length q) (j * length q) g)))
        (w.lanes l ∙ ap₂ (λ s u. mix_at (field_by q) l s u) (ap (λ (n : ℕ). drop n f) e)
        (ap (λ (n : ℕ). drop n g) (ap (λ (n : ℕ). n * length q) e ∙ suc-mul j (length q)) ∙ sym (drop-drop (length q) (j * length q) g)))
        ∙ sym (ap (λ s. mix_at (field_by q) l s (drop (j * length q) g)) (drop-cons f j 0 h));
  }

-- ---- the digits of field 11's polynomial, and of a multiplier

pub digits11 : BinaryDigits taps11
digits11 = (omega arith, (omega arith, (omega arith, (omega arith, (omega arith, (omega arith, (omega arith, (omega arith, (omega arith, (omega arith, (omega arith, tt)))))))))))

pub binary_digit-next : (c : ℕ) {i j : ℕ} → i ≡ suc j → c / 2 ^ j ≡ c / 2 ^ i * 2 + c / 2 ^ j % 2
binary_digit-next c {i} {j} e =
    let h : c / 2 ^ i ≡ c / 2 ^ j / 2 = ap (λ (n : ℕ). c / 2 ^ n) e ∙ ap (λ (t : ℕ). c / t) (pow-suc 2 j) ∙ sym (div-div-eq-div-mul c (2 ^ j) 2) in
    omega arith
