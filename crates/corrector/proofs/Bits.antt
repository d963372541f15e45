-- Bytes, bits and numbers: the bits of a block are the digits of its number, and flips are an exclusive or.
--   bits_of                  the 2047 bits of a word, as a list
--   bits-digits             they are the binary digits of its number;  block-below  which is below 2^2047
--   length_digits           so many digits as are asked for
--   word_back               a word is told by its places
--   Flipped, flipped        what flips make of a word: its number with 2^j added for each place j
-- Assumes nothing.
use mathlib.Core.Path.{◌≡◌, refl, sym, ap, ap₂, ◌∙◌, subst, fun_ext}
use mathlib.Core.Bool.{Bool, true, false}
use mathlib.Core.List.{List, [], ◌∷◌, map}
use Prim.Native.Nat.{ℕ, zero, suc, ◌+◌, ◌-◌, ◌*◌, ◌/◌, ◌%◌, ◌^◌, ◌<◌}
use native.Mathlib.Nat.{pow-suc, suc-add, zero-add, mul_assoc as times-assoc, mul-one, zero-div, div-one}
use native.Mathlib.Decide.{dec_lt}
use native.Mathlib.Omega.{arith}
use lib.Bits.{bit_xor, xor_comm, xor_shifted, xor_lt, xor_zero_r}
use lib.Dec.{eqb}
use lib.ListN.{length, get_or, set, length-set}
use lib.Seq.{get_or-set_same, get_or-set_other}
use lib.Pow.{shr-shr, pow-add, pow-lt}
use Rattle.algebra.specs.Trial.{All, up_from}
use Rattle.field.proofs.Xor.{xor_assoc}
use Rattle.corrector_code.specs.Word.{places}
use Rattle.corrector_code.specs.Digits.{bytes_number, digits}
use Rattle.corrector_code.proofs.Flips.{flip-number}
use Rattle.corrector.specs.Correcting.{bit_at}
use Rattle.corrector.specs.Places.{xor_over, flip_all}

-- the 2047 bits of a word
unfoldable pub bits_of : List ℕ → List Bool
bits_of word = map (λ j. eqb (bit_at word j) 1) (up_from 0 2047)

-- digit j of a number
abbrev digit_at : ℕ → ℕ → Bool
digit_at W j = eqb (W / 2 ^ j % 2) 1

half : (W j : ℕ) → W / 2 / 2 ^ j ≡ W / 2 ^ suc j
half W j = shr-shr W 1 j ∙ ap (λ (n : ℕ). W / 2 ^ n) (suc-add 0 j ∙ ap suc (zero-add j))

digits-row : (n k W : ℕ) → digits n (W / 2 ^ k) ≡ map (digit_at W) (up_from k n)
unfolding digits up_from
digits-row zero k W = refl
digits-row (suc n) k W =
    ap (λ l. digit_at W k ∷ l) (ap (digits n) (shr-shr W k 1 ∙ ap (λ (m : ℕ). W / 2 ^ m) (let e : k + 1 ≡ suc k = omega arith in e)) ∙ digits-row n (suc k) W)

-- a digit of a number in bytes
byte-digit : (bytes : List ℕ) → ((k : ℕ) → get_or bytes k 0 < 256) → (j : ℕ) → bytes_number bytes / 2 ^ j % 2 ≡ get_or bytes (j / 8) 0 / 2 ^ (j % 8) % 2
unfolding bytes_number
byte-digit [] u j = ap (λ (n : ℕ). n % 2) (nought j) ∙ sym (ap (λ (n : ℕ). n % 2) (nought (j % 8)))
  where
    nought : (k : ℕ) → 0 / 2 ^ k ≡ 0
    nought k = zero-div (2 ^ k)
byte-digit (b ∷ bs) u j = go (dec_lt j 8) (byte-digit bs (λ k. u (suc k)) (j - 8))
  where
    N : ℕ
    N = bytes_number bs

    low : (i : ℕ) → i < 8 → (N * 256 + b) / 2 ^ i % 2 ≡ b / 2 ^ i % 2
    low zero h = omega arith
    low (suc zero) h = omega arith
    low (suc (suc zero)) h = omega arith
    low (suc (suc (suc zero))) h = omega arith
    low (suc (suc (suc (suc zero)))) h = omega arith
    low (suc (suc (suc (suc (suc zero))))) h = omega arith
    low (suc (suc (suc (suc (suc (suc zero)))))) h = omega arith
    low (suc (suc (suc (suc (suc (suc (suc zero))))))) h = omega arith
    low (suc (suc (suc (suc (suc (suc (suc (suc i)))))))) h = absurd (omega arith)

    go : Dec (j < 8) → N / 2 ^ (j - 8) % 2 ≡ get_or bs ((j - 8) / 8) 0 / 2 ^ ((j - 8) % 8) % 2 → (N * 256 + b) / 2 ^ j % 2 ≡ get_or (b ∷ bs) (j / 8) 0 / 2 ^ (j % 8) % 2
    go (yes h) ih =
        let q : j / 8 ≡ 0 = omega arith in
        let r : j % 8 ≡ j = omega arith in
        low j h ∙ sym (ap₂ (λ (m k : ℕ). get_or (b ∷ bs) m 0 / 2 ^ k % 2) q r)
    go (no h) ih =
        let e : 8 + (j - 8) ≡ j = omega arith in
        let q : j / 8 ≡ suc ((j - 8) / 8) = omega arith in
        let r : j % 8 ≡ (j - 8) % 8 = omega arith in
        let d : (N * 256 + b) / 256 ≡ N = (let l = u 0 in omega arith) in
        ap (λ (n : ℕ). n % 2) (ap (λ (k : ℕ). (N * 256 + b) / 2 ^ k) (sym e) ∙ sym (shr-shr (N * 256 + b) 8 (j - 8)) ∙ ap (λ (n : ℕ). n / 2 ^ (j - 8)) d)
        ∙ ih ∙ sym (ap₂ (λ (m k : ℕ). get_or (b ∷ bs) m 0 / 2 ^ k % 2) q r)

-- THE BITS OF A BLOCK ARE THE DIGITS OF ITS NUMBER
pub bits-digits : (bytes : List ℕ) → ((k : ℕ) → get_or bytes k 0 < 256) → bits_of bytes ≡ digits 2047 (bytes_number bytes)
unfolding bits_of
bits-digits bytes u =
    ap (λ f. map f (up_from 0 2047)) (fun_ext λ j. ap (λ (n : ℕ). eqb n 1) (sym (byte-digit bytes u j)))
    ∙ sym (digits-row 2047 0 (bytes_number bytes)) ∙ ap (digits 2047) (div-one (bytes_number bytes))

-- a block's number
number-below : (bytes : List ℕ) (n : ℕ) → length bytes ≡ suc n → get_or bytes n 0 < 128 → ((k : ℕ) → get_or bytes k 0 < 256) → bytes_number bytes < 128 * 256 ^ n
unfolding bytes_number
number-below [] n e l u = absurd (omega arith)
number-below (b ∷ bs) zero e l u = let z : bytes_number bs ≡ 0 = empty bs (omega arith) in omega arith
  where
    empty : (bs : List ℕ) → length bs ≡ 0 → bytes_number bs ≡ 0
    empty [] e = refl
    empty (x ∷ bs) e = absurd (omega arith)
number-below (b ∷ bs) (suc n) e l u =
    let i = number-below bs n (omega arith) l (λ k. u (suc k)) in
    let p : 256 ^ suc n ≡ 256 ^ n * 256 = pow-suc 256 n in
    let q : 128 * (256 ^ n * 256) ≡ 128 * 256 ^ n * 256 = sym (times-assoc 128 (256 ^ n) 256) in
    let h = u 0 in
    subst (λ (m : ℕ). bytes_number bs * 256 + b < 128 * m) (sym p) (subst (λ (m : ℕ). bytes_number bs * 256 + b < m) (sym q) (omega arith))

pub block-below : (bytes : List ℕ) → length bytes ≡ 256 → get_or bytes 255 0 < 128 → ((k : ℕ) → get_or bytes k 0 < 256) → bytes_number bytes < 2 ^ 2047
block-below bytes e l u = number-below bytes 255 e l u

pub length_digits : (n W : ℕ) → length (digits n W) ≡ n
unfolding digits
length_digits zero W = refl
length_digits (suc n) W = ap suc (length_digits n (W / 2))

-- ---- the number of a word

number_from : List Bool → ℕ
number_from [] = 0
number_from (true ∷ w) = number_from w * 2 + 1
number_from (false ∷ w) = number_from w * 2

digits-back : (w : List Bool) → digits (length w) (number_from w) ≡ w
unfolding digits number_from
digits-back [] = refl
digits-back (true ∷ w) =
    let q : (number_from w * 2 + 1) / 2 ≡ number_from w = omega arith in
    let r : (number_from w * 2 + 1) % 2 ≡ 1 = omega arith in
    ap₂ (λ (b : Bool) l. b ∷ l) (ap (λ (n : ℕ). eqb n 1) r) (ap (digits (length w)) q ∙ digits-back w)
digits-back (false ∷ w) =
    let q : (number_from w * 2) / 2 ≡ number_from w = omega arith in
    let r : (number_from w * 2) % 2 ≡ 0 = omega arith in
    ap₂ (λ (b : Bool) l. b ∷ l) (ap (λ (n : ℕ). eqb n 1) r) (ap (digits (length w)) q ∙ digits-back w)

places-number : (k : ℕ) (w : List Bool) → xor_over (λ j. 2 ^ j) (places k w) ≡ number_from w * 2 ^ k
unfolding xor_over places number_from
places-number k [] = sym (omega arith)
places-number k (true ∷ w) =
    ap (bit_xor (2 ^ k)) (places-number (suc k) w) ∙ xor_comm (2 ^ k) (number_from w * 2 ^ suc k) ∙ xor_shifted (number_from w) (suc k) (2 ^ k) (pow-lt (omega arith))
    ∙ ap (λ (p : ℕ). number_from w * p + 2 ^ k) (pow-suc 2 k) ∙ (let g : (v p : ℕ) → v * (p * 2) + p ≡ (v * 2 + 1) * p = λ v p. distribute v p in g (number_from w) (2 ^ k))
  where
    distribute : (v p : ℕ) → v * (p * 2) + p ≡ (v * 2 + 1) * p
    distribute v p = let a : v * (p * 2) ≡ v * p * 2 = sym (times-assoc v p 2) in let b : (v * 2 + 1) * p ≡ v * p * 2 + p = omega arith in omega arith
places-number k (false ∷ w) =
    places-number (suc k) w ∙ ap (λ (p : ℕ). number_from w * p) (pow-suc 2 k) ∙ (let a : number_from w * (2 ^ k * 2) ≡ number_from w * 2 ^ k * 2 = sym (times-assoc (number_from w) (2 ^ k) 2) in let b : number_from w * 2 * 2 ^ k ≡ number_from w * 2 ^ k * 2 = omega arith in a ∙ sym b)

-- the word with these places
pub word_back : (w : List Bool) → length w ≡ 2047 → digits 2047 (xor_over (λ j. 2 ^ j) (places 0 w)) ≡ w
word_back w e = ap₂ digits (sym e) (places-number 0 w ∙ mul-one (number_from w)) ∙ digits-back w

-- ---- flips

bytes-set : (bytes : List ℕ) (q x : ℕ) → ((k : ℕ) → get_or bytes k 0 < 256) → q < length bytes → x < 256 → (k : ℕ) → get_or (set bytes q x) k 0 < 256
bytes-set bytes q x u l h k = go (dec_lt k q) (dec_lt q k)
  where
    go : Dec (k < q) → Dec (q < k) → get_or (set bytes q x) k 0 < 256
    go (yes a) d = subst (λ (n : ℕ). n < 256) (sym (get_or-set_other bytes q k x 0 (omega arith))) (u k)
    go (no a) (yes b) = subst (λ (n : ℕ). n < 256) (sym (get_or-set_other bytes q k x 0 (omega arith))) (u k)
    go (no a) (no b) = let e : k ≡ q = omega arith in subst (λ (n : ℕ). n < 256) (sym (ap (λ (n : ℕ). get_or (set bytes q x) n 0) e ∙ get_or-set_same bytes q x 0 l)) h

pub record Flipped (js bytes after : List ℕ) : Type 0 where
  pub long : length after ≡ 256
  pub bytes_fit : (k : ℕ) → get_or after k 0 < 256
  pub number : bytes_number after ≡ bit_xor (bytes_number bytes) (xor_over (λ j. 2 ^ j) js)

weight : (j : ℕ) → 2 ^ (j % 8) * 256 ^ (j / 8) ≡ 2 ^ j
weight j = ap (λ (p : ℕ). 2 ^ (j % 8) * p) (power256 (j / 8)) ∙ sym (pow-add 2 (j % 8) (8 * (j / 8))) ∙ ap (λ (n : ℕ). 2 ^ n) (let e : j % 8 + 8 * (j / 8) ≡ j = omega arith in e)
  where
    power256 : (q : ℕ) → 256 ^ q ≡ 2 ^ (8 * q)
    power256 zero = refl
    power256 (suc q) = pow-suc 256 q ∙ ap (λ (p : ℕ). p * 256) (power256 q) ∙ sym (pow-add 2 (8 * q) 8) ∙ ap (λ (n : ℕ). 2 ^ n) (let e : 8 * q + 8 ≡ 8 * suc q = omega arith in e)

bit-fits : (i : ℕ) → i < 8 → 2 ^ i < 256
bit-fits i h = pow-lt {i = i} {j = 8} h

pub flipped : (js bytes : List ℕ) → All (λ j. j < 2047) js → length bytes ≡ 256 → ((k : ℕ) → get_or bytes k 0 < 256) → Flipped js bytes (flip_all js bytes)
unfolding flip_all xor_over
flipped [] bytes a e u = record { long = e; bytes_fit = u; number = sym (xor_zero_r (bytes_number bytes)) }
flipped (j ∷ js) bytes a e u =
    let q : ℕ = j / 8 in
    let x : ℕ = 2 ^ (j % 8) in
    let l : q < length bytes = (let h = a.0 in omega arith) in
    let v : ℕ = bit_xor (get_or bytes q 0) x in
    let fits : x < 256 = bit-fits (j % 8) (omega arith) in
    let small : v < 256 = xor_lt 8 (get_or bytes q 0) x (u q) fits in
    let r = flipped js (set bytes q v) a.1 (length-set bytes q v ∙ e) (bytes-set bytes q v u l small) in
    record {
      long = r.long;
      bytes_fit = r.bytes_fit;
      number = r.number ∙ ap (λ (n : ℕ). bit_xor n (xor_over (λ i. 2 ^ i) js)) (flip-number bytes q x l u fits ∙ ap (bit_xor (bytes_number bytes)) (weight j))
          ∙ xor_assoc (bytes_number bytes) (2 ^ j) (xor_over (λ i. 2 ^ i) js);
    }
