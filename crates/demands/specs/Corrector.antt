-- What is promised of the block corrector besides demand 1, of whatever its contract admits.
--   Corrector   no two codewords qualify; one outcome; turned away exactly if none exists; a codeword stays; twice is
--               once
-- Assumes nothing.
use Rattle.std.specs.Prelude.{◌≡◌, List, [], ◌∷◌, ◌↔◌, ℕ}
use Rattle.corrector.specs.Correcting.{IsBlock, IsStrength, IsCodeword, Within, Corrects}

-- o is an outcome, after what the lent word holds then
pub record Corrector : Type 0 where
  -- no two codewords qualify
  pub unique : (t : ℕ) (word u v : List ℕ) → Within t word u → Within t word v → u ≡ v
  -- the contract admits one outcome, and one word
  pub one : (t : ℕ) (word : List ℕ) (o p : ℕ × List ℕ) (a b : List ℕ)
      → Corrects t word o a → Corrects t word p b → (o ≡ p) × (a ≡ b)
  -- a block is turned away exactly if no codeword is near
  pub far : (t : ℕ) (word : List ℕ) (o : ℕ × List ℕ) (after : List ℕ)
      → IsBlock word → IsStrength t → Corrects t word o after → (o ≡ (24, [])) ↔ ((v : List ℕ) → Within t word v → ⊥)
  -- a codeword comes back with 0 flips and unchanged
  pub kept : (t : ℕ) (word : List ℕ) (o : ℕ × List ℕ) (after : List ℕ)
      → IsBlock word → IsStrength t → IsCodeword t word → Corrects t word o after → (o ≡ (0, 0 ∷ [])) × (after ≡ word)
  -- correcting twice changes nothing more
  pub twice : (t n : ℕ) (word after : List ℕ) (o : ℕ × List ℕ) (again : List ℕ)
      → Corrects t word (0, n ∷ []) after → Corrects t after o again → (o ≡ (0, 0 ∷ [])) × (again ≡ after)
