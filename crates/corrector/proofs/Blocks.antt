-- Blocks and their bits: what the contract says of bytes, said of lists of bits, where the laws of codes hold.
--   make-block, last-small     a block by its last byte, and back
--   long-bits                  a word has 2047 bits
--   value-bits                 the value of a word's polynomial is that of its bits
--   distance-bits              distance by counting is that of the bits;  distance_self  of a word from itself it is 0
--   Near                       a codeword near a word, in bits
--   within-bits, within_block  from bytes to bits, and back
-- Assumes nothing.
use mathlib.Core.Path.{◌≡◌, refl, sym, ap, ap₂, ◌∙◌, subst, fun_ext}
use mathlib.Core.Bool.{Bool, not, cond}
use mathlib.Core.List.{List, [], ◌∷◌, map}
use Prim.Native.Nat.{ℕ, zero, suc, ◌/◌, ◌%◌, ◌^◌, ◌≤◌, ◌<◌}
use native.Mathlib.Omega.{arith}
use borrow.Author.Tests.{eq-eqb}
use lib.Dec.{eqb}
use lib.ListN.{length, get_or, length-map}
use Rattle.algebra.specs.Field.{power}
use Rattle.algebra.specs.Polynomial.{eval}
use Rattle.algebra.specs.Trial.{keep, up_from}
use Rattle.field.proofs.Digits.{bit-cases}
use Rattle.corrector_code.specs.Word.{differs, difference, bit, word_value, places}
use Rattle.corrector_code.specs.Word as words
use Rattle.corrector_code.specs.Eleven.{F11}
use Rattle.corrector.specs.Correcting.{bit_at, polynomial, distance, IsBlock, Within}
use Rattle.corrector.proofs.Bits.{bits_of}
use Rattle.corrector.proofs.Reordering.{places-kept}

-- a block by its last byte
pub make-block : {word : List ℕ} → length word ≡ 256 → ((k : ℕ) → get_or word k 0 < 256) → get_or word 255 0 < 128
    → IsBlock word
make-block e u l = record { long = e; bytes = u; last = omega arith }

-- and back
pub last-small : {word : List ℕ} → IsBlock word → get_or word 255 0 < 128
last-small b = let l = b.last in let u = b.bytes 255 in omega arith

-- how long a row of numbers is
length-row : (k n : ℕ) → length (up_from k n) ≡ n
unfolding up_from
length-row k zero = refl
length-row k (suc n) = ap suc (length-row (suc k) n)

-- a word has 2047 bits
pub long-bits : (word : List ℕ) → length (bits_of word) ≡ 2047
unfolding bits_of
long-bits word = length-map (up_from 0 2047) _ ∙ length-row 0 2047

-- a digit is its bit
digit-bit : (n : ℕ) → n % 2 ≡ bit F11 (eqb (n % 2) 1)
digit-bit n = bit-cases (λ d. d ≡ bit F11 (eqb d 1)) refl refl n

-- the value of a word's polynomial is that of its bits
pub value-bits : (word : List ℕ) (x : ℕ) → eval F11 (polynomial word) x ≡ word_value F11 (bits_of word) x
unfolding polynomial bits_of
value-bits word x = ap (λ (p : List ℕ). eval F11 p x) (each (up_from 0 2047))
  where
    each : (l : List ℕ) → map (bit_at word) l ≡ map (bit F11) (map (λ j. eqb (bit_at word j) 1) l)
    each [] = refl
    each (j ∷ l) = ap₂ (λ b r. b ∷ r) (digit-bit (get_or word (j / 8) 0 / 2 ^ (j % 8))) (each l)

-- two digits differ where their bits do
digits-differ : (a b : ℕ) → differs (eqb (a % 2) 1) (eqb (b % 2) 1) ≡ not (eqb (a % 2) (b % 2))
digits-differ a b =
    bit-cases (λ d. differs (eqb d 1) (eqb (b % 2) 1) ≡ not (eqb d (b % 2)))
    (bit-cases (λ e. differs (eqb 0 1) (eqb e 1) ≡ not (eqb 0 e)) refl refl b)
    (bit-cases (λ e. differs (eqb 1 1) (eqb e 1) ≡ not (eqb 1 e)) refl refl b) a

-- where two words that tests make differ
both-map : (f g : ℕ → Bool) (l : List ℕ) → difference (map f l) (map g l) ≡ map (λ j. differs (f j) (g j)) l
unfolding difference
both-map f g [] = refl
both-map f g (j ∷ l) = ap (λ r. differs (f j) (g j) ∷ r) (both-map f g l)

-- distance by counting is that of the bits
pub distance-bits : (word v : List ℕ) → distance word v ≡ words.bit_distance (bits_of word) (bits_of v)
unfolding distance bits_of
distance-bits word v = ap length (sym
    (ap (places 0) (both-map (set word) (set v) (up_from 0 2047))
    ∙ places-kept (λ j. differs (set word j) (set v j)) 0 2047
    ∙ ap (λ t. keep t (up_from 0 2047)) (fun_ext (λ j. digits-differ (digits_at word j) (digits_at v j)))))
  where
    digits_at : List ℕ → ℕ → ℕ
    digits_at w j = get_or w (j / 8) 0 / 2 ^ (j % 8)

    set : List ℕ → ℕ → Bool
    set w j = eqb (bit_at w j) 1

-- a word does not differ from itself
pub distance_self : (word : List ℕ) → distance word word ≡ 0
unfolding distance
distance_self word = ap length (none (up_from 0 2047))
  where
    other : ℕ → Bool
    other j = not (eqb (bit_at word j) (bit_at word j))

    none : (l : List ℕ) → keep other l ≡ []
    none [] = refl
    none (j ∷ l) =
        ap (λ (b : Bool). cond (not b) (j ∷ keep other l) (keep other l)) (eq-eqb (bit_at word j) (bit_at word j) refl)
        ∙ none l

-- a codeword near a word, in bits
abbrev pub Near : ℕ → List Bool → List Bool → Type 0
Near t w v = words.CodewordWithin F11 2 t w v

-- from bytes to bits
pub within-bits : {t : ℕ} {word v : List ℕ} → Within t word v → Near t (bits_of word) (bits_of v)
within-bits {t} {word} {v} c = (
  long-bits v ∙ sym (long-bits word),
  λ i p q. sym (value-bits v (power F11 2 i)) ∙ c.codeword i p q,
  subst (λ (n : ℕ). n ≤ t) (distance-bits word v) c.near,
)

-- and back
pub within_block : {t : ℕ} {word v : List ℕ} → IsBlock v → Near t (bits_of word) (bits_of v) → Within t word v
within_block {t} {word} {v} b c = record {
  block = b;
  codeword = λ i p q. value-bits v (power F11 2 i) ∙ c.1 i p q;
  near = subst (λ (n : ℕ). n ≤ t) (sym (distance-bits word v)) c.2;
}
