-- What the corrector's contract says, from the contract alone.
--   far-exactly      a block is turned away exactly if no codeword is near
--   codeword-kept    a codeword comes back with 0 flips and unchanged
--   found-codeword   what is accepted leaves a codeword
--   twice            CORRECTING TWICE CHANGES NOTHING MORE
-- Assumes nothing.
use mathlib.Core.Path.{◌≡◌, refl, ap, ◌∙◌}
use mathlib.Core.List.{List, [], ◌∷◌}
use mathlib.Core.Logic.{◌↔◌}
use Prim.Native.Nat.{ℕ, ◌≤◌}
use native.Mathlib.Omega.{arith}
use Rattle.corrector.specs.Correcting.{distance, IsBlock, IsStrength, IsCodeword, Within, Corrects}
use Rattle.corrector.specs.Correcting.Corrects.{no_block, no-strength, none-near, mended}
use Rattle.corrector.proofs.Blocks.{distance_self}
use Rattle.corrector.proofs.Coincide.{outcomes-coincide}

-- two outcomes with different numbers
clash : {A : Type 0} {o p : ℕ × List ℕ} → o ≡ p → (o.0 ≡ p.0 → ⊥) → A
clash e n = absurd (n (ap (λ (q : ℕ × List ℕ). q.0) e))

-- TURNED AWAY EXACTLY IF NONE EXISTS
pub far-exactly : {t : ℕ} {word after : List ℕ} {o : ℕ × List ℕ} → IsBlock word → IsStrength t → Corrects t word o after
    → (o ≡ (24, [])) ↔ ((v : List ℕ) → Within t word v → ⊥)
far-exactly b s (no_block x) = absurd (x b)
far-exactly b s (no-strength c x) = absurd (x s)
far-exactly b s (none-near c r x) = (λ e. x, λ h. refl)
far-exactly b s (mended c r x) = (λ e. clash e (λ (z : 0 ≡ 24). omega arith), λ h. absurd (h _ x))

-- A CODEWORD COMES BACK AS IT IS
pub codeword-kept : {t : ℕ} {word after : List ℕ} {o : ℕ × List ℕ} → IsBlock word → IsStrength t → IsCodeword t word
    → Corrects t word o after → (o ≡ (0, 0 ∷ [])) × (after ≡ word)
codeword-kept {t} {word} b s c h =
    let near : distance word word ≤ t = (let z = distance_self word in omega arith) in
    let e = outcomes-coincide h (mended b s (record { block = b; codeword = c; near = near })) in
    (e.0 ∙ ap (λ (n : ℕ). (0, n ∷ [])) (distance_self word), e.1)

-- what is accepted leaves a codeword
pub found-codeword : {t : ℕ} {word after : List ℕ} {o : ℕ × List ℕ} → Corrects t word o after → o.0 ≡ 0
    → IsBlock after × IsStrength t × IsCodeword t after
found-codeword (no_block x) e = absurd (omega arith)
found-codeword (no-strength b x) e = absurd (omega arith)
found-codeword (none-near b s x) e = absurd (omega arith)
found-codeword (mended b s x) e = (x.block, s, x.codeword)

-- CORRECTING TWICE CHANGES NOTHING MORE
pub twice : {t n : ℕ} {word after again : List ℕ} {o : ℕ × List ℕ} → Corrects t word (0, n ∷ []) after
    → Corrects t after o again → (o ≡ (0, 0 ∷ [])) × (again ≡ after)
twice h g = let c = found-codeword h refl in codeword-kept c.0 c.1 c.2 g
