-- The odd syndromes of a word are those of its remainder at a strength.
--   odd-syndromes   they are
-- Assumes nothing.
use mathlib.Core.Path.{◌≡◌, sym, ◌∙◌}
use mathlib.Core.List.{List}
use Prim.Native.Nat.{ℕ, suc, ◌*◌, ◌^◌, ◌≤◌, ◌<◌}
use native.Mathlib.Omega.{arith}
use lib.ListN.{get_or}
use Rattle.algebra.specs.Field.{power}
use Rattle.field.specs.Field.{field_at}
use Rattle.field.proofs.Generator.{one_below}
use Rattle.corrector_code.specs.Word.{word_value}
use Rattle.corrector_code.specs.Digits.{digits}
use Rattle.corrector_code.specs.Eleven.{F11}
use Rattle.corrector_code.proofs.Eleven.{gen11}
use Rattle.corrector_code.proofs.Values.{value-digits}
use Rattle.corrector_generator.specs.Generators.{odd_power}
use Rattle.corrector_remainder.specs.Remainder.{RestAt}
use Rattle.corrector_syndromes.specs.Syndromes.{OddValues}

-- THE ODD SYNDROMES OF A WORD ARE THOSE OF ITS REMAINDER, as many as the strength
pub odd-syndromes : {t n : ℕ} {odd : List ℕ} (W : ℕ) → t ≤ 8 → W < 2 ^ 2047 → RestAt t W n → OddValues n odd
    → (k : ℕ) → k < t
    → get_or odd k 0 ≡ word_value F11 (digits 2047 W) (power F11 2 (suc (2 * k)))
unfolding odd_power
odd-syndromes W most l r v k h =
    v.value k (omega arith) ∙ r.values k h
    ∙ sym (value-digits (field_at 11) gen11.monic (one_below (field_at 11) gen11) (odd_power k) 2047 W l)
