-- What the encoder's contract says, from the contract alone and the corrector's.
--   refused-kept       a refusal leaves the word as it was
--   encoded-codeword   what is accepted leaves a codeword, and the bits from 11 t on
--   encoded-exactly    a block at a strength is accepted, with 11 t check bits
--   same-data          WHAT THE CHECK BITS HELD DOES NOT MATTER
--   codeword-again     ENCODING A CODEWORD CHANGES NOTHING;  twice  so encoding twice
--   encoded-correct    CORRECTING AN ENCODED WORD FLIPS NOTHING
--   damaged-correct    ENCODED, DAMAGED IN AT MOST t BITS AND CORRECTED, A WORD COMES BACK
-- Assumes nothing.
use mathlib.Core.Path.{◌≡◌, refl, sym, ◌∙◌}
use mathlib.Core.List.{List, [], ◌∷◌}
use Prim.Native.Nat.{ℕ, ◌*◌, ◌≤◌, ◌<◌}
use native.Mathlib.Omega.{arith}
use Rattle.corrector.specs.Correcting.{bit_at, distance, IsBlock, IsStrength, IsCodeword, Corrects}
use Rattle.corrector.specs.Correcting.Corrects.{mended}
use Rattle.corrector.proofs.Coincide as correcting
use Rattle.corrector.proofs.Contract as corrector
use Rattle.corrector_encoder.specs.Encoding.{Encoding, Encodes}
use Rattle.corrector_encoder.specs.Encoding.Encodes.{no_block, no-strength, encoded}
use Rattle.corrector_encoder.proofs.Unique.{codewords-agree}
use Rattle.corrector_encoder.proofs.Coincide.{outcomes-coincide}

-- a refusal leaves the word as it was
pub refused-kept : {t : ℕ} {word after : List ℕ} {o : ℕ × List ℕ} → Encodes t word o after → (o.0 ≡ 0 → ⊥)
    → after ≡ word
refused-kept (no_block x) h = refl
refused-kept (no-strength b x) h = refl
refused-kept (encoded b s x) h = absurd (h refl)

-- what is accepted leaves a codeword with the data of the word
pub encoded-codeword : {t : ℕ} {word after : List ℕ} {o : ℕ × List ℕ} → Encodes t word o after → o.0 ≡ 0
    → IsStrength t × Encoding t word after
encoded-codeword (no_block x) e = absurd (omega arith)
encoded-codeword (no-strength b x) e = absurd (omega arith)
encoded-codeword (encoded b s x) e = (s, x)

-- a block at a strength is accepted
pub encoded-exactly : {t : ℕ} {word after : List ℕ} {o : ℕ × List ℕ} → IsBlock word → IsStrength t
    → Encodes t word o after → o ≡ (0, 11 * t ∷ [])
encoded-exactly b s (no_block x) = absurd (x b)
encoded-exactly b s (no-strength c x) = absurd (x s)
encoded-exactly b s (encoded c r x) = refl

-- WHAT THE CHECK BITS HELD DOES NOT MATTER
pub same-data : {t n m : ℕ} {w x u v : List ℕ} → Encodes t w (0, n ∷ []) u → Encodes t x (0, m ∷ []) v
    → ((j : ℕ) → 11 * t ≤ j → j < 2047 → bit_at w j ≡ bit_at x j) → u ≡ v
same-data g h same =
    let a = encoded-codeword g refl in
    let b = encoded-codeword h refl in
    codewords-agree a.0.most a.1.block b.1.block a.1.codeword b.1.codeword
    (λ j p q. a.1.kept j p q ∙ same j p q ∙ sym (b.1.kept j p q))

-- ENCODING A CODEWORD CHANGES NOTHING
pub codeword-again : {t : ℕ} {word after : List ℕ} {o : ℕ × List ℕ} → IsBlock word → IsStrength t → IsCodeword t word
    → Encodes t word o after → (o ≡ (0, 11 * t ∷ [])) × (after ≡ word)
codeword-again b s c h = outcomes-coincide h (encoded b s (record { block = b; codeword = c; kept = λ j p q. refl }))

-- so encoding twice
pub twice : {t n : ℕ} {word after again : List ℕ} {o : ℕ × List ℕ} → Encodes t word (0, n ∷ []) after
    → Encodes t after o again → (o ≡ (0, n ∷ [])) × (again ≡ after)
twice (encoded b s x) g = codeword-again x.block s x.codeword g

-- CORRECTING AN ENCODED WORD FLIPS NOTHING
pub encoded-correct : {t n : ℕ} {word after again : List ℕ} {o : ℕ × List ℕ} → Encodes t word (0, n ∷ []) after
    → Corrects t after o again → (o ≡ (0, 0 ∷ [])) × (again ≡ after)
encoded-correct h g = let a = encoded-codeword h refl in corrector.codeword-kept a.1.block a.0 a.1.codeword g

-- ENCODED, DAMAGED IN AT MOST t BITS AND CORRECTED, A WORD COMES BACK
pub damaged-correct : {t n : ℕ} {word after damaged again : List ℕ} {o : ℕ × List ℕ} → Encodes t word (0, n ∷ []) after
    → IsBlock damaged → distance damaged after ≤ t → Corrects t damaged o again
    → (o ≡ (0, distance damaged after ∷ [])) × (again ≡ after)
damaged-correct h b d g =
    let a = encoded-codeword h refl in
    correcting.outcomes-coincide g
    (mended b a.0 (record { block = a.1.block; codeword = a.1.codeword; near = d }))
