-- What is promised of the block encoder besides demand 1, of whatever its contract and the corrector's admit.
--   Encoder   exactly one encoding, and it is what the call makes; one outcome; a refusal writes nothing; what the
--             check bits held does not matter; encoding a codeword changes nothing, so twice is once; what was encoded
--             is corrected with no flip, and what was then damaged in at most t bits comes back, the flips counted
-- Assumes nothing.
use Rattle.std.specs.Prelude.{◌≡◌, List, [], ◌∷◌, ℕ, ◌*◌, ◌≤◌, ◌<◌}
use Rattle.corrector.specs.Correcting.{bit_at, distance, IsBlock, IsStrength, IsCodeword, Corrects}
use Rattle.corrector_encoder.specs.Encoding.{Encoding, Encodes}

-- o is an outcome, after what the lent word holds then
pub record Encoder : Type 0 where
  -- two codewords that agree from bit 11 t on are equal
  pub unique : (t : ℕ) (u v : List ℕ) → t ≤ 8 → IsBlock u → IsBlock v → IsCodeword t u → IsCodeword t v
      → ((j : ℕ) → 11 * t ≤ j → j < 2047 → bit_at u j ≡ bit_at v j) → u ≡ v
  -- exactly one codeword has the data of a word
  pub exactly : (t : ℕ) (word : List ℕ) → IsBlock word → IsStrength t
      → (v : List ℕ) × Encoding t word v × ((u : List ℕ) → Encoding t word u → u ≡ v)
  -- the contract admits one outcome, and one word
  pub one : (t : ℕ) (word : List ℕ) (o p : ℕ × List ℕ) (a b : List ℕ) → Encodes t word o a → Encodes t word p b
      → (o ≡ p) × (a ≡ b)
  -- a refusal writes nothing
  pub refused : (t : ℕ) (word : List ℕ) (o : ℕ × List ℕ) (after : List ℕ) → Encodes t word o after → (o.0 ≡ 0 → ⊥)
      → after ≡ word
  -- what is accepted leaves it
  pub made : (t n : ℕ) (word after : List ℕ) → Encodes t word (0, n ∷ []) after → Encoding t word after
  -- a block at a strength is accepted, with 11 t check bits
  pub accepted : (t : ℕ) (word : List ℕ) (o : ℕ × List ℕ) (after : List ℕ) → IsBlock word → IsStrength t
      → Encodes t word o after
      → o ≡ (0, 11 * t ∷ [])
  -- what the check bits held does not matter
  pub same-data : (t n m : ℕ) (w x u v : List ℕ) → Encodes t w (0, n ∷ []) u → Encodes t x (0, m ∷ []) v
      → ((j : ℕ) → 11 * t ≤ j → j < 2047 → bit_at w j ≡ bit_at x j) → u ≡ v
  -- encoding a codeword changes nothing
  pub again : (t : ℕ) (word : List ℕ) (o : ℕ × List ℕ) (after : List ℕ) → IsBlock word → IsStrength t
      → IsCodeword t word
      → Encodes t word o after → (o ≡ (0, 11 * t ∷ [])) × (after ≡ word)
  -- encoding twice is encoding once
  pub twice : (t n : ℕ) (word after : List ℕ) (o : ℕ × List ℕ) (again : List ℕ) → Encodes t word (0, n ∷ []) after
      → Encodes t after o again → (o ≡ (0, n ∷ [])) × (again ≡ after)
  -- correcting what was encoded flips nothing
  pub clean : (t n : ℕ) (word after : List ℕ) (o : ℕ × List ℕ) (again : List ℕ) → Encodes t word (0, n ∷ []) after
      → Corrects t after o again → (o ≡ (0, 0 ∷ [])) × (again ≡ after)
  -- what was encoded and then damaged in at most t bits is corrected back to it, and the flips are counted
  pub damaged : (t n : ℕ) (word after bad : List ℕ) (o : ℕ × List ℕ) (again : List ℕ) → Encodes t word (0, n ∷ []) after
      → IsBlock bad → distance bad after ≤ t → Corrects t bad o again
      → (o ≡ (0, distance bad after ∷ [])) × (again ≡ after)
