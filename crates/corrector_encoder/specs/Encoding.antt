-- THE BLOCK ENCODER: all that the contract of `encode` rests on beside the words, codewords and strengths of the
-- corrector (corrector/specs/Correcting), and the contract. A word of strength t has its data in bits 11 t to 2046;
-- bits 0 to 11 t - 1 are its check bits.
--   Encoding t word v   v is a codeword of strength t with the data of the word: there is exactly one
--   Encodes             THE CONTRACT: the outcome for t and a word, and what the lent word holds afterwards
-- Assumes nothing.
use Rattle.std.specs.Prelude.{◌≡◌, List, [], ◌∷◌, ℕ, ◌*◌, ◌≤◌, ◌<◌}
use Rattle.corrector.specs.Correcting.{bit_at, IsBlock, IsStrength, IsCodeword}

-- a codeword with the data of the word: its bits from 11 t on
pub record Encoding (t : ℕ) (word v : List ℕ) : Type 0 where
  pub block : IsBlock v
  pub codeword : IsCodeword t v
  pub kept : (j : ℕ) → 11 * t ≤ j → j < 2047 → bit_at v j ≡ bit_at word j

-- the first of 22 and 23 that applies, and the word as it was; else 0, the number of check bits, and the codeword
pub data Encodes (t : ℕ) (word : List ℕ) : ℕ × List ℕ → List ℕ → Type 0 where
  no_block : (IsBlock word → ⊥) → Encodes t word (22, []) word
  no-strength : IsBlock word → (IsStrength t → ⊥) → Encodes t word (23, []) word
  encoded : {v : List ℕ} → IsBlock word → IsStrength t → Encoding t word v → Encodes t word (0, 11 * t ∷ []) v
