-- The check bits added to the bytes of a word, and what they make of it.
--   Added, bytes-added     n bytes of x added from byte q on: the number of the bytes, and those behind
--   bit-number             bit j of a block is digit j of its number
--   encoding-of            a word with its check bits added is the codeword with its data
--   encoding-made          so in the bytes that the code adds
--   encoding-exists        THERE IS ONE;  encoding-exactly  and no other
--   encoded-block          the last step of the call;  refused-block  what its tests turn away
-- Assumes nothing.
use mathlib.Core.Path.{◌≡◌, refl, sym, ap, ap₂, ◌∙◌, subst}
use mathlib.Core.Bool.{Bool, true, false}
use mathlib.Core.List.{List, [], ◌∷◌}
use Prim.Native.Nat.{ℕ, zero, suc, ◌+◌, ◌*◌, ◌/◌, ◌%◌, ◌^◌, ◌≤◌, ◌<◌}
use native.Mathlib.Nat.{zero-mul, mul-one, pow-suc, mul_assoc, div-eq_of_lt, div-lt_iff_lt-mul}
use native.Mathlib.Nat.{zero-lt-suc, not-suc-le-zero, lt_of_lt_of_le}
use native.Mathlib.Decide.{dec_lt}
use native.Mathlib.Omega.{arith}
use lib.Arith.{lt-one}
use lib.Bits.{bit_xor, xor_comm, xor_lt, xor_self, xor_shifted, xor_shr, xor_zero_r}
use lib.Dec.{eqb}
use lib.ListN.{length, get_or, set, length-set}
use lib.Pow.{pow-add, pow_mono, shr-shr}
use lib.Seq.{get_or-set_same, get_or-set_other}
use Rattle.std.specs.Prelude.{⊤, Result, Err}
use Rattle.refusals.specs.Numbers.{number_of}
use Rattle.refusals.specs.declared.Refusal.{Refusal}
use Rattle.refusals.specs.declared.Refusal.TheVariants.{Block, Strength}
use Rattle.field.specs.Field.{field_at}
use Rattle.field.proofs.Digits.{bit-cases}
use Rattle.field.proofs.Generator.{one_below}
use Rattle.field.proofs.Xor.{xor_assoc}
use Rattle.corrector_code.specs.Digits.{bytes_number, digits, value_of_digits}
use Rattle.corrector_code.proofs.Eleven.{gen11}
use Rattle.corrector_code.proofs.Flips.{flip-number}
use Rattle.corrector_code.proofs.Values.{value_of_digits-xor}
use Rattle.corrector_generator.specs.Generators.{odd_power}
use Rattle.corrector_generator.proofs.Bases.{multiples}
use Rattle.corrector_remainder.specs.Remainder.{RestAt}
use Rattle.corrector_remainder.proofs.Strengths.{rest-exists}
use Rattle.corrector.specs.Correcting.{bit_at, IsBlock, IsStrength, Admitted}
use Rattle.corrector.specs.Correcting.Admitted.{no_block as no_word, no-strength as no_number, block_at}
use Rattle.corrector.proofs.Bits.{bits-digits}
use Rattle.corrector.proofs.Deciding.{zero-within}
use Rattle.corrector_encoder.specs.Encoding.{Encoding, Encodes}
use Rattle.corrector_encoder.specs.Encoding.Encodes.{no_block, no-strength, encoded}
use Rattle.corrector_encoder.specs.Bytes.{add_bytes}
use Rattle.corrector_encoder.proofs.Unique.{bit-at, encoding-unique}

-- bytes
abbrev Bytes : List ℕ → Type 0
Bytes l = (k : ℕ) → get_or l k 0 < 256

-- ---- bytes of a number, added one by one

-- what n bytes of x from byte q on make of the bytes w
pub record Added (n q x : ℕ) (w v : List ℕ) : Type 0 where
  pub long : length v ≡ length w
  pub bytes : Bytes v
  pub number : bytes_number v ≡ bit_xor (bytes_number w) (x * 256 ^ q)
  pub behind : (k : ℕ) → q + n ≤ k → get_or v k 0 ≡ get_or w k 0

bytes-set : (w : List ℕ) (q x : ℕ) → Bytes w → q < length w → x < 256 → Bytes (set w q x)
bytes-set w q x u l h k = go (dec_lt k q) (dec_lt q k)
  where
    go : Dec (k < q) → Dec (q < k) → get_or (set w q x) k 0 < 256
    go (yes a) d = subst (λ (n : ℕ). n < 256) (sym (get_or-set_other w q k x 0 (omega arith))) (u k)
    go (no a) (yes b) = subst (λ (n : ℕ). n < 256) (sym (get_or-set_other w q k x 0 (omega arith))) (u k)
    go (no a) (no b) =
        let e : k ≡ q = omega arith in
        subst (λ (n : ℕ). n < 256) (sym (ap (λ (n : ℕ). get_or (set w q x) n 0) e ∙ get_or-set_same w q x 0 l)) h

power256 : (q : ℕ) → 256 ^ q ≡ 2 ^ (8 * q)
power256 zero = refl
power256 (suc q) =
    pow-suc 256 q ∙ ap (λ (p : ℕ). p * 256) (power256 q) ∙ sym (pow-add 2 (8 * q) 8)
    ∙ ap (λ (n : ℕ). 2 ^ n) (let e : 8 * q + 8 ≡ 8 * suc q = omega arith in e)

-- the lowest byte and those above it
low_byte : (x q : ℕ) → bit_xor (x % 256 * 256 ^ q) (x / 256 * 256 ^ suc q) ≡ x * 256 ^ q
low_byte x q =
    ap₂ bit_xor (ap (λ (p : ℕ). x % 256 * p) (power256 q))
    (ap (λ (p : ℕ). x / 256 * p) (pow-suc 256 q) ∙ shuffle (x / 256) (256 ^ q) ∙ ap (λ (p : ℕ). x / 256 * 256 * p) (power256 q))
    ∙ multiples (8 * q) (x % 256) (x / 256 * 256)
    ∙ ap₂ (λ (y p : ℕ). y * p)
    (xor_comm (x % 256) (x / 256 * 256) ∙ xor_shifted (x / 256) 8 (x % 256) (let l : x % 256 < 256 = omega arith in l)
    ∙ (let e : x / 256 * 256 + x % 256 ≡ x = omega arith in e)) (sym (power256 q))
  where
    shuffle : (a p : ℕ) → a * (p * 256) ≡ a * 256 * p
    shuffle a p = let e : a * (p * 256) ≡ a * p * 256 = sym (mul_assoc a p 256) in omega arith

-- N BYTES ADDED
pub bytes-added : (n q x : ℕ) (w : List ℕ) → q + n ≤ length w → Bytes w → x < 256 ^ n → Added n q x w (add_bytes n q x w)
unfolding add_bytes
bytes-added zero q x w h u l = record {
  long = refl;
  bytes = u;
  number = sym (ap (λ (y : ℕ). bit_xor (bytes_number w) (y * 256 ^ q)) (lt-one l) ∙ ap (bit_xor (bytes_number w)) (zero-mul (256 ^ q)) ∙ xor_zero_r (bytes_number w));
  behind = λ k g. refl;
}
bytes-added (suc n) q x w h u l =
    let in-range : q < length w = omega arith in
    let byte : bit_xor (get_or w q 0) (x % 256) < 256 = xor_lt 8 (get_or w q 0) (x % 256) (u q) (let m : x % 256 < 256 = omega arith in m) in
    let v : List ℕ = set w q (bit_xor (get_or w q 0) (x % 256)) in
    let same : length v ≡ length w = length-set w q (bit_xor (get_or w q 0) (x % 256)) in
    let r = bytes-added n (suc q) (x / 256) v (omega arith) (bytes-set w q (bit_xor (get_or w q 0) (x % 256)) u in-range byte)
    ((div-lt_iff_lt-mul (zero-lt-suc 255)).1 (subst (λ (y : ℕ). x < y) (pow-suc 256 n) l)) in
    record {
      long = r.long ∙ same;
      bytes = r.bytes;
      number = r.number
          ∙ ap (λ (y : ℕ). bit_xor y (x / 256 * 256 ^ suc q)) (flip-number w q (x % 256) in-range u (let m : x % 256 < 256 = omega arith in m))
          ∙ xor_assoc (bytes_number w) (x % 256 * 256 ^ q) (x / 256 * 256 ^ suc q)
          ∙ ap (bit_xor (bytes_number w)) (low_byte x q);
      behind = λ k g. r.behind k (omega arith) ∙ get_or-set_other w q k (bit_xor (get_or w q 0) (x % 256)) 0 (omega arith);
    }

-- ---- bits of a block

digit_at : (n W j : ℕ) → j < n → get_or (digits n W) j false ≡ eqb (W / 2 ^ j % 2) 1
unfolding digits
digit_at zero W j h = absurd (not-suc-le-zero h)
digit_at (suc n) W zero h = ap (λ (x : ℕ). eqb (x % 2) 1) (let e : W ≡ W / 1 = omega arith in e)
digit_at (suc n) W (suc j) h =
    digit_at n (W / 2) j (omega arith)
    ∙ ap (λ (x : ℕ). eqb (x % 2) 1) (shr-shr W 1 j ∙ ap (λ (m : ℕ). W / 2 ^ m) (let e : 1 + j ≡ suc j = omega arith in e))

same-digit : (x y : ℕ) → eqb (x % 2) 1 ≡ eqb (y % 2) 1 → x % 2 ≡ y % 2
same-digit x y =
    bit-cases (λ d. eqb d 1 ≡ eqb (y % 2) 1 → d ≡ y % 2) (bit-cases (λ d. eqb 0 1 ≡ eqb d 1 → 0 ≡ d) (λ e. refl) (λ e. absurd (clash e)) y)
    (bit-cases (λ d. eqb 1 1 ≡ eqb d 1 → 1 ≡ d) (λ e. absurd (clash (sym e))) (λ e. refl) y) x
  where
    clash : false ≡ true → ⊥
    clash e = let z : ◌≡◌ {A = ℕ} 0 1 = cc in omega arith

-- bit j of a block is digit j of its number
pub bit-number : (word : List ℕ) → Bytes word → (j : ℕ) → j < 2047 → bit_at word j ≡ bytes_number word / 2 ^ j % 2
bit-number word u j h =
    same-digit (get_or word (j / 8) 0 / 2 ^ (j % 8)) (bytes_number word / 2 ^ j)
    (sym (bit-at word j h) ∙ ap (λ (l : List Bool). get_or l j false) (bits-digits word u) ∙ digit_at 2047 (bytes_number word) j h)

-- ---- the codeword

module _ (t : ℕ) (word v : List ℕ) (n : ℕ) (b : IsBlock word) (s : IsStrength t) (c : RestAt t (bytes_number word) n)
    (long : length v ≡ 256) (u : Bytes v) (e : bytes_number v ≡ bit_xor (bytes_number word) n) (last : bit_at v 2047 ≡ bit_at word 2047) where
  block : IsBlock v
  block = record { long = long; bytes = u; last = last ∙ b.last }

  -- the values of what is made
  zero-at : (k : ℕ) → k < t → value_of_digits (field_at 11) (odd_power k) (bytes_number v) ≡ 0
  zero-at k h =
      let W : ℕ = bytes_number word in
      let at : ℕ → ℕ = value_of_digits (field_at 11) (odd_power k) in
      ap at e ∙ value_of_digits-xor (field_at 11) gen11.monic (one_below (field_at 11) gen11) (odd_power k) W n
      ∙ ap (bit_xor (at W)) (c.values k h) ∙ xor_self (at W)

  stays : (j : ℕ) → 11 * t ≤ j → j < 2047 → bit_at v j ≡ bit_at word j
  stays j h l =
      bit-number v u j l ∙ ap (λ (x : ℕ). x / 2 ^ j % 2) e ∙ ap (λ (x : ℕ). x % 2) (xor_shr (bytes_number word) n j
      ∙ ap (bit_xor (bytes_number word / 2 ^ j)) (div-eq_of_lt (lt_of_lt_of_le c.below (pow_mono h)))
      ∙ xor_zero_r (bytes_number word / 2 ^ j))
      ∙ sym (bit-number word b.bytes j l)

  -- A WORD WITH ITS CHECK BITS ADDED
  pub encoding-of : Encoding t word v
  encoding-of = record { block = block; codeword = (zero-within v t block s zero-at).codeword; kept = stays }

-- in the bytes that the code adds
pub encoding-made : {t n : ℕ} {word : List ℕ} → IsBlock word → IsStrength t → RestAt t (bytes_number word) n
    → Encoding t word (add_bytes 11 0 n word)
encoding-made {t} {n} {word} b s c =
    let m = s.most in
    let small : n < 2 ^ 88 = lt_of_lt_of_le c.below (pow_mono (let q : 11 * t ≤ 88 = omega arith in q)) in
    let a = bytes-added 11 0 n word (let l = b.long in omega arith) b.bytes small in
    encoding-of t word (add_bytes 11 0 n word) n b s c (a.long ∙ b.long) a.bytes
    (a.number ∙ ap (bit_xor (bytes_number word)) (mul-one n))
    (ap (λ (x : ℕ). x / 2 ^ 7 % 2) (a.behind 255 (omega arith)))

-- THERE IS ONE
pub encoding-exists : {t : ℕ} {word : List ℕ} → IsBlock word → IsStrength t → (v : List ℕ) × Encoding t word v
encoding-exists {t} {word} b s =
    let r = rest-exists t (bytes_number word) s.least s.most in
    (add_bytes 11 0 r.0 word, encoding-made b s r.1)

-- AND NO OTHER
pub encoding-exactly : {t : ℕ} {word : List ℕ} → IsBlock word → IsStrength t
    → (v : List ℕ) × Encoding t word v × ((u : List ℕ) → Encoding t word u → u ≡ v)
encoding-exactly b s = let e = encoding-exists b s in (e.0, e.1, λ u x. encoding-unique s x e.1)

-- so the call's last step
pub encoded-block : {t n : ℕ} {word v : List ℕ} → IsBlock word → IsStrength t → RestAt t (bytes_number word) n
    → v ≡ add_bytes 11 0 n word → Encodes t word (0, 11 * t ∷ []) v
encoded-block {t} {n} {word} b s c e = encoded b s (subst (Encoding t word) (sym e) (encoding-made b s c))

-- what the tests of the block turn away
pub refused-block : {t : ℕ} {word : List ℕ} {r : Result ⊤ Refusal} {k : Refusal} → Admitted t word r → r ≡ Err k
    → Encodes t word (number_of k, []) word
refused-block {t} {word} {k = k} (no_word x) e =
    let f : Block ≡ k = cc in subst (λ j. Encodes t word (number_of j, []) word) f (no_block x)
refused-block {t} {word} {k = k} (no_number b x) e =
    let f : Strength ≡ k = cc in subst (λ j. Encodes t word (number_of j, []) word) f (no-strength b x)
refused-block (block_at b s) e = absurd (cc)
