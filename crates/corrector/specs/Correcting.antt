-- THE BLOCK CORRECTOR (docs/RULES.md section 7): all that the contract of `correct` rests on, and the contract.
-- A word is 2047 bits in 256 bytes, bit j in byte j div 8 at weight 2^(j mod 8); the last bit is 0. As a polynomial it
-- has bit j at x^j. Its values are taken in field 11, where a is the element 2.
--   bit_at word j        bit j, 0 or 1
--   polynomial word     the word as a polynomial, constant first
--   distance word v     in how many bits two words differ
--   IsBlock word        256 bytes, the last bit 0
--   IsStrength t        from 1 to 8
--   IsCodeword t word   zero at a^1 to a^(2t)
--   Within t word v     v is a codeword of strength t that differs from the word in at most t bits
--   Admitted            THE CONTRACT of `admit_block`: what the tests of a word and a strength find
--   Corrects            THE CONTRACT of `correct`: the outcome for t and a word, and what the lent word holds afterwards
-- Assumes nothing.
use Rattle.std.specs.Prelude.{◌≡◌, not, List, [], ◌∷◌, map, ℕ, ◌*◌, ◌/◌, ◌%◌, ◌^◌, ◌≤◌, ◌<◌, eqb, length, get_or, ⊤, Result, Ok, Err}
use Rattle.algebra.specs.Field.{power}
use Rattle.algebra.specs.Polynomial.{eval}
use Rattle.algebra.specs.Trial.{keep, up_from}
use Rattle.refusals.specs.declared.Refusal.{Refusal}
use Rattle.refusals.specs.declared.Refusal.TheVariants.{Block, Strength}
use Rattle.corrector_code.specs.Eleven.{F11}

-- bit j of a word: 0 or 1
abbrev pub bit_at : List ℕ → ℕ → ℕ
bit_at word j = get_or word (j / 8) 0 / 2 ^ (j % 8) % 2

-- the word as a polynomial, constant first: bit j at x^j
unfoldable pub polynomial : List ℕ → List ℕ
polynomial word = map (bit_at word) (up_from 0 2047)

-- in how many of the 2047 bits two words differ
unfoldable pub distance : List ℕ → List ℕ → ℕ
distance word v = length (keep (λ j. not (eqb (bit_at word j) (bit_at v j))) (up_from 0 2047))

-- 256 bytes, the last bit 0
pub record IsBlock (word : List ℕ) : Type 0 where
  pub long : length word ≡ 256
  pub bytes : (k : ℕ) → get_or word k 0 < 256
  pub last : bit_at word 2047 ≡ 0

-- from 1 to 8
pub record IsStrength (t : ℕ) : Type 0 where
  pub least : 1 ≤ t
  pub most : t ≤ 8

-- zero at a^1 to a^(2t)
abbrev pub IsCodeword : ℕ → List ℕ → Type 0
IsCodeword t word = (i : ℕ) → 1 ≤ i → i ≤ 2 * t → eval F11 (polynomial word) (power F11 2 i) ≡ 0

-- v is a codeword of strength t that differs from the word in at most t bits
pub record Within (t : ℕ) (word v : List ℕ) : Type 0 where
  pub block : IsBlock v
  pub codeword : IsCodeword t v
  pub near : distance word v ≤ t

-- the first that applies: no block, no strength; else a block at a strength
pub data Admitted (t : ℕ) (word : List ℕ) : Result ⊤ Refusal → Type 0 where
  no_block : (IsBlock word → ⊥) → Admitted t word (Err Block)
  no-strength : IsBlock word → (IsStrength t → ⊥) → Admitted t word (Err Strength)
  block_at : IsBlock word → IsStrength t → Admitted t word (Ok tt)

-- the first of 22, 23 and 24 that applies, and the word as it was; else 0, the number of flips, and the codeword
pub data Corrects (t : ℕ) (word : List ℕ) : ℕ × List ℕ → List ℕ → Type 0 where
  no_block : (IsBlock word → ⊥) → Corrects t word (22, []) word
  no-strength : IsBlock word → (IsStrength t → ⊥) → Corrects t word (23, []) word
  none-near : IsBlock word → IsStrength t → ((v : List ℕ) → Within t word v → ⊥) → Corrects t word (24, []) word
  mended : {v : List ℕ} → IsBlock word → IsStrength t → Within t word v → Corrects t word (0, distance word v ∷ []) v
