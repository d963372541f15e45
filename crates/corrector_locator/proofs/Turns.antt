-- The three ways through a turn, as `turned` goes them.
--   turn-quiet   no discrepancy
--   turn-short   a discrepancy, and the register grows no longer
--   turn-long    it does, and the old locator is the new spare
-- Assumes nothing.
use mathlib.Core.Path.{◌≡◌, sym, ap, ap₂, ◌∙◌}
use mathlib.Core.Logic.{◌≢◌}
use mathlib.Core.Bool.{Bool, true, false, cond}
use mathlib.Core.List.{List, map}
use Prim.Native.Nat.{ℕ, suc, ◌+◌, ◌*◌, ◌≤◌, ◌<◌}
use native.Mathlib.Numerals.{add-one, add-two}
use lib.Dec.{eqb}
use lib.ListN.{length, replicate}
use borrow.Author.Tests.{eq-eqb, ne_eqb, lt-ltb, le-ltb}
use Rattle.field.specs.Field.{field_at, mul, inverse}
use Rattle.corrector_code.specs.Key.{Register, conv, shift, plus_times, mend, turn}
use Rattle.corrector_code.specs.Eleven.{F11}
use Rattle.corrector_locator.proofs.Loops.{times-only}

-- a register by its parts
abbrev made : List ℕ → List ℕ → ℕ → ℕ → Register ℕ
made l p low high = record { locator = l; spare = p; low = low; high = high }

module _ (s : ℕ → ℕ) (m : ℕ) (l p : List ℕ) (low high : ℕ) {d : ℕ} (is : d ≡ conv F11 l s (2 * m + 1)) where
  at-d : d ≡ conv F11 l s (suc (2 * m))
  at-d = is ∙ ap (conv F11 l s) (add-one (2 * m))

  by-test : (b : Bool) → eqb d 0 ≡ b → turn F11 s m (made l p low high) ≡ cond b (made l (shift F11 p) low (suc (suc high))) (mend F11 d (made l p low high))
  unfolding turn
  by-test c e = ap (λ x. cond (eqb x 0) (made l (shift F11 p) low (suc (suc high))) (mend F11 x (made l p low high))) (sym at-d)
      ∙ ap (λ b. cond b (made l (shift F11 p) low (suc (suc high))) (mend F11 d (made l p low high))) e

  -- no discrepancy
  pub turn-quiet : {moved : List ℕ} → d ≡ 0 → moved ≡ shift F11 p → made l moved low (high + 2) ≡ turn F11 s m (made l p low high)
  turn-quiet z e = ap₂ (λ x n. made l x low n) e (add-two high) ∙ sym (by-test true (eq-eqb d 0 z))

  module _ {mended : List ℕ} (some : d ≢ 0) (mends : mended ≡ plus_times F11 l d p) where
    -- the register grows no longer
    pub turn-short : {moved : List ℕ} → high ≤ low → moved ≡ shift F11 p → made mended moved low (high + 2) ≡ turn F11 s m (made l p low high)
    unfolding mend
    turn-short h e =
        ap₂ (λ x n. made mended x low n) e (add-two high) ∙ ap (λ x. made x (shift F11 p) low (suc (suc high))) mends
        ∙ sym (by-test false (ne_eqb d 0 some)
        ∙ ap (λ b. cond b (made (plus_times F11 l d p) (shift F11 (map (mul (field_at 11) (inverse (field_at 11) d)) l)) high (suc (suc low)))
        (made (plus_times F11 l d p) (shift F11 p) low (suc (suc high)))) (le-ltb low high h))

    -- it does, and the old locator is the new spare
    pub turn-long : {v : ℕ} {old moved : List ℕ} → low < high → v ≡ inverse (field_at 11) d → length l ≡ 9 → old ≡ plus_times F11 (replicate 9 0) v l
        → moved ≡ shift F11 old → made mended moved high (low + 2) ≡ turn F11 s m (made l p low high)
    unfolding mend
    turn-long {v} h i n o e =
        let back : List ℕ = map (mul (field_at 11) (inverse (field_at 11) d)) l in
        ap₂ (λ x n. made mended x high n) (e ∙ ap (shift F11) (o ∙ times-only v l n ∙ ap (λ x. map (mul (field_at 11) x) l) i)) (add-two low)
        ∙ ap (λ x. made x (shift F11 back) high (suc (suc low))) mends
        ∙ sym (by-test false (ne_eqb d 0 some)
        ∙ ap (λ b. cond b (made (plus_times F11 l d p) (shift F11 back) high (suc (suc low)))
        (made (plus_times F11 l d p) (shift F11 p) low (suc (suc high)))) (lt-ltb low high h))
