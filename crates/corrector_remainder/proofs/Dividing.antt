-- Division of a word by a generator G, whatever its degree d, four bytes at a time.
--   next-is                  t leaves a register of d digits at the top: its remainder is added to what stays
--   four_at word k            the number of the four bytes from place k on
--   Resting, rest-start, rest-turn, rest_end   the loop: what is held is the remainder of the bytes from i on
-- Assumes nothing.
use mathlib.Core.Path.{◌≡◌, refl, sym, ap, ◌∙◌}
use mathlib.Core.List.{List, []}
use Prim.Native.Nat.{ℕ, zero, suc, ◌+◌, ◌*◌, ◌/◌, ◌%◌, ◌^◌, ◌≤◌, ◌<◌}
use native.Mathlib.Nat.{mul-one, pow-suc, mul_assoc}
use native.Mathlib.Omega.{arith}
use lib.Bits.{bit_xor, xor_comm, xor_shifted}
use lib.ListN.{length, get_or, drop}
use lib.Seq.{drop-cons, drop-length}
use Rattle.field.specs.Field.{Field, size, cut, reduce}
use Rattle.field.proofs.Reduce.{reduce-xor, reduce-below, reduce-again, reduce-double, reduce-zero}
use Rattle.corrector_code.specs.Digits.{bytes_number}
use Rattle.corrector_generator.specs.Generators.{back_from_top}

-- what is held at byte i: the remainder of the bytes from there on
pub record Resting (G : Field) (word : List ℕ) (n i : ℕ) : Type 0 where
  pub within : i ≤ 256
  pub fourth : i % 4 ≡ 0
  pub done : n ≡ reduce G (bytes_number (drop i word))

-- four bytes as a number, the first lowest
abbrev pub four_at : List ℕ → ℕ → ℕ
four_at word k = get_or word k 0 + get_or word (k + 1) 0 * 256 + get_or word (k + 2) 0 * 65536 + get_or word (k + 3) 0 * 16777216

-- the number of a word from place k on, four bytes and the others
four_bytes : (word : List ℕ) (k i : ℕ) → suc (suc (suc (suc k))) ≡ i → i ≤ length word
    → bytes_number (drop k word) ≡ bytes_number (drop i word) * 2 ^ 32 + four_at word k
unfolding bytes_number
four_bytes word k i back h =
    let e₁ : suc k ≡ k + 1 = omega arith in
    let e₂ : suc (suc k) ≡ k + 2 = omega arith in
    let e₃ : suc (suc (suc k)) ≡ k + 3 = omega arith in
    let at : ℕ → ℕ = λ j. get_or word j 0 in
    ap bytes_number (drop-cons word k 0 (omega arith))
    ∙ ap (λ l. bytes_number l * 256 + at k) (drop-cons word (suc k) 0 (omega arith))
    ∙ ap (λ l. (bytes_number l * 256 + at (suc k)) * 256 + at k) (drop-cons word (suc (suc k)) 0 (omega arith))
    ∙ ap (λ l. ((bytes_number l * 256 + at (suc (suc k))) * 256 + at (suc k)) * 256 + at k)
    (drop-cons word (suc (suc (suc k))) 0 (omega arith))
    ∙ ap (λ (j : ℕ). (((bytes_number (drop j word) * 256 + at (suc (suc (suc k)))) * 256 + at (suc (suc k))) * 256
    + at (suc k)) * 256 + at k) back
    ∙ joined (bytes_number (drop i word)) (at k) (ap at e₁) (ap at e₂) (ap at e₃)
  where
    joined : (n a : ℕ) {b c d b' c' d' : ℕ} → b ≡ b' → c ≡ c' → d ≡ d'
        → (((n * 256 + d) * 256 + c) * 256 + b) * 256 + a ≡ n * 2 ^ 32 + (a + b' * 256 + c' * 65536 + d' * 16777216)
    joined n a p q r = omega arith

module _ (G : Field) where
  -- WHAT LEAVES AT THE TOP COMES BACK
  top_back : (t B : ℕ) → B < size G → bit_xor B (back_from_top G t) ≡ reduce G (t * size G + B)
  unfolding back_from_top
  top_back t B h =
      ap (λ (y : ℕ). bit_xor y (reduce G (t * size G))) (sym (reduce-below G B h)) ∙ sym (reduce-xor G B (t * size G))
      ∙ ap (reduce G) (xor_comm B (t * size G) ∙ xor_shifted t G.degree B h)

  -- FOUR BYTES MORE: t leaves, and below it B stays
  pub next-is : (t B x b : ℕ) {c : ℕ} → B < size G → t * size G + B ≡ x * 2 ^ 32 + b → c ≡ back_from_top G t
      → bit_xor B c ≡ reduce G (x * 2 ^ 32 + b)
  next-is t B x b h sum e = ap (bit_xor B) e ∙ top_back t B h ∙ ap (reduce G) sum

  -- no byte yet
  pub rest-start : (word : List ℕ) {n : ℕ} → length word ≡ 256 → n ≡ 0 → Resting G word n 256
  unfolding bytes_number
  rest-start word l z = record {
    within = omega arith;
    fourth = refl;
    done =
        let last : drop 256 word ≡ [] = ap (λ (k : ℕ). drop k word) (sym l) ∙ drop-length word in
        z ∙ sym (ap (λ l. reduce G (bytes_number l)) last ∙ reduce-zero G);
  }

  -- every byte
  pub rest_end : {word : List ℕ} {n i : ℕ} → Resting G word n i → i ≤ 0 → n ≡ reduce G (bytes_number word)
  rest_end {word} {n} {i} w h =
      let z : i ≡ 0 = omega arith in w.done ∙ ap (λ k. reduce G (bytes_number (drop k word))) z

  module _ (monic : G.poly / size G ≡ 1) where
    -- the remainder may be taken before the next digits
    reduce-shift : (U k : ℕ) → reduce G (reduce G U * 2 ^ k) ≡ reduce G (U * 2 ^ k)
    reduce-shift U zero =
        ap (reduce G) (mul-one (reduce G U)) ∙ reduce-again G monic U ∙ ap (reduce G) (sym (mul-one U))
    reduce-shift U (suc k) = on (reduce G U) ∙ ap (λ r. cut G (r * 2)) (reduce-shift U k) ∙ sym (on U)
      where
        on : (x : ℕ) → reduce G (x * 2 ^ suc k) ≡ cut G (reduce G (x * 2 ^ k) * 2)
        on x =
            ap (reduce G) (ap (λ p. x * p) (pow-suc 2 k) ∙ sym (mul_assoc x (2 ^ k) 2)) ∙ reduce-double G (x * 2 ^ k)

    bytes-before : (U b : ℕ) → b < 2 ^ 32 → reduce G (reduce G U * 2 ^ 32 + b) ≡ reduce G (U * 2 ^ 32 + b)
    bytes-before U b h =
        split (reduce G U) ∙ ap (λ r. bit_xor r (reduce G b)) (reduce-shift U 32) ∙ sym (split U)
      where
        split : (x : ℕ) → reduce G (x * 2 ^ 32 + b) ≡ bit_xor (reduce G (x * 2 ^ 32)) (reduce G b)
        split x = ap (reduce G) (sym (xor_shifted x 32 b h)) ∙ reduce-xor G (x * 2 ^ 32) b

    -- four bytes more, those from j on
    pub rest-turn : {word : List ℕ} {n m i j b : ℕ} → length word ≡ 256 → Resting G word n i → j + 4 ≡ i
        → (b ≡ four_at word j) × (b < 2 ^ 32)
        → m ≡ reduce G (n * 2 ^ 32 + b) → Resting G word m j
    rest-turn {word} {n} {m} {i} {j} {b} l w at u e =
        let p = w.within in
        let q = w.fourth in
        let next : bytes_number (drop j word) ≡ bytes_number (drop i word) * 2 ^ 32 + b =
        four_bytes word j i (omega arith) (omega arith)
        ∙ ap (λ (x : ℕ). bytes_number (drop i word) * 2 ^ 32 + x) (sym u.0) in
        record {
          within = omega arith;
          fourth = omega arith;
          done =
              e ∙ ap (λ v. reduce G (v * 2 ^ 32 + b)) w.done ∙ bytes-before (bytes_number (drop i word)) b u.1
              ∙ ap (reduce G) (sym next);
        }
