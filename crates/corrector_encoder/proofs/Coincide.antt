-- Two outcomes that the encoder's contract admits coincide: the answer and every byte.
--   outcomes-coincide  two outcomes that the contract admits for one input are one, and so is what they leave
--   encoded-told       two answers with one number and value are one
--   encode-coincide    so for the call
-- Assumes nothing.
use mathlib.Core.Path.{◌≡◌, refl}
use mathlib.Core.List.{List, [], ◌∷◌}
use Prim.Native.Nat.{ℕ}
use Rattle.std.specs.Prelude.{Result}
use Rattle.refusals.specs.Admitting.{told}
use Rattle.refusals.specs.declared.Refusal.{Refusal}
use Rattle.corrector.proofs.Coincide.{corrected-told}
use Rattle.corrector_encoder.specs.Encoding.{Encodes}
use Rattle.corrector_encoder.specs.Encoding.Encodes.{no_block, no-strength, encoded}
use Rattle.corrector_encoder.proofs.Unique.{encoding-unique}

-- TWO OUTCOMES COINCIDE
pub outcomes-coincide : {t : ℕ} {word : List ℕ} {o p : ℕ × List ℕ} {a b : List ℕ}
    → Encodes t word o a → Encodes t word p b → (o ≡ p) × (a ≡ b)
outcomes-coincide (no_block x) (no_block y) = (refl, refl)
outcomes-coincide (no_block x) (no-strength b y) = absurd (x b)
outcomes-coincide (no_block x) (encoded b s y) = absurd (x b)
outcomes-coincide (no-strength b x) (no_block y) = absurd (y b)
outcomes-coincide (no-strength b x) (no-strength c y) = (refl, refl)
outcomes-coincide (no-strength b x) (encoded c s y) = absurd (x s)
outcomes-coincide (encoded b s x) (no_block y) = absurd (y b)
outcomes-coincide (encoded b s x) (no-strength c y) = absurd (y s)
outcomes-coincide (encoded b s x) (encoded c r y) = (refl, encoding-unique s x y)

-- two answers with one number and value are one; the value is the number of check bits
pub encoded-told : (r s : Result ℕ Refusal) → told (λ n. n ∷ []) r ≡ told (λ n. n ∷ []) s → r ≡ s
encoded-told = corrected-told

-- the answer and the lent word
pub encode-coincide : {t : ℕ} {word : List ℕ} (r s : Result ℕ Refusal) (a b : List ℕ)
    → Encodes t word (told (λ n. n ∷ []) r) a → Encodes t word (told (λ n. n ∷ []) s) b → (r ≡ s) × (a ≡ b)
encode-coincide r s a b x y = let h = outcomes-coincide x y in (encoded-told r s h.0, h.1)
