-- The last steps of the call: from what its parts found to what it answers.
--   odd-under                the odd syndromes are elements
--   rest-88                  a remainder at a strength has at most 88 digits
--   clean                    nothing to flip where the remainder is 0
--   flips-mended             acceptable places flipped
--   far-refused              no codeword near;  mended-or-far  one of both
--   refused-block, admitted  what the tests of the block turn away, and let in
-- Assumes nothing.
use mathlib.Core.Path.{◌≡◌, refl, sym, ap, ◌∙◌, subst}
use mathlib.Core.List.{List, [], ◌∷◌}
use Prim.Native.Nat.{ℕ, zero, suc, ◌*◌, ◌^◌, ◌≤◌, ◌<◌}
use native.Mathlib.Nat.{lt_of_lt_of_le}
use native.Mathlib.Decide.{dec_lt}
use native.Mathlib.Omega.{arith}
use lib.ListN.{length, get_or}
use lib.Pow.{pow_mono}
use Rattle.std.specs.Prelude.{⊤, Result, Ok, Err, Option, Some, None, MatchOption}
use Rattle.std.specs.Option.{ok_or}
use Rattle.refusals.specs.Numbers.{number_of}
use Rattle.refusals.specs.declared.Refusal.{Refusal}
use Rattle.refusals.specs.declared.Refusal.TheVariants.{Block, Strength, Far}
use Rattle.refusals.specs.Admitting.{told}
use Rattle.field.specs.Field.{field_at}
use Rattle.field.proofs.Generator.{one_below}
use Rattle.corrector_code.specs.Digits.{bytes_number}
use Rattle.corrector_code.proofs.Eleven.{gen11}
use Rattle.corrector_code.proofs.Values.{value_of_digits-lt}
use Rattle.corrector_generator.specs.Generators.{odd_power}
use Rattle.corrector_remainder.specs.Remainder.{RestAt}
use Rattle.corrector_syndromes.specs.Syndromes.{OddValues}
use Rattle.corrector_locator.specs.Under.{Under}
use Rattle.corrector.specs.Places.{Mended, Unacceptable}
use Rattle.corrector.specs.Correcting.{distance, IsBlock, IsStrength, Within, Admitted, Corrects}
use Rattle.corrector.specs.Correcting.Admitted.{no_block as no_word, no-strength as no_number, block_at}
use Rattle.corrector.specs.Correcting.Corrects.{no_block, no-strength, none-near, mended}
use Rattle.corrector.proofs.Blocks.{distance_self}
use Rattle.corrector.proofs.Deciding.{none_within, any-within, any-distance, rest-zero-within}

past_end : (l : List ℕ) (k : ℕ) → length l ≤ k → get_or l k 0 ≡ 0
past_end [] k h = refl
past_end (x ∷ l) zero h = absurd (omega arith)
past_end (x ∷ l) (suc k) h = past_end l k (omega arith)

pub odd-under : {n : ℕ} {odd : List ℕ} → OddValues n odd → Under odd
odd-under {n} {odd} v k = go (dec_lt k 8)
  where
    go : Dec (k < 8) → get_or odd k 0 < 2048
    go (yes h) = subst (λ (x : ℕ). x < 2048) (sym (v.value k h)) (value_of_digits-lt (field_at 11) gen11.monic (one_below (field_at 11) gen11) (odd_power k) n)
    go (no h) = subst (λ (x : ℕ). x < 2048) (sym (past_end odd k (let l = v.long in omega arith))) (omega arith)

-- the remainder fits the table of syndromes
pub rest-88 : {t W n : ℕ} → t ≤ 8 → RestAt t W n → n < 2 ^ 88
rest-88 {t} h r = let l : 11 * t ≤ 88 = omega arith in lt_of_lt_of_le r.below (pow_mono l)

module _ (word : List ℕ) (t : ℕ) (b : IsBlock word) (st : IsStrength t) where
  -- a codeword near, at so many flips
  mended-by : (n : ℕ) (after : List ℕ) → Within t word after → n ≡ distance word after → Corrects t word (0, n ∷ []) after
  mended-by n after h e = subst (λ (m : ℕ). Corrects t word (0, m ∷ []) after) (sym e) (mended b st h)

  -- the remainder is 0
  pub clean : {r : ℕ} → RestAt t (bytes_number word) r → r ≡ 0 → Corrects t word (0, 0 ∷ []) word
  clean e z =
      mended-by 0 word (rest-zero-within word t b st (subst (RestAt t (bytes_number word)) z e))
      (sym (distance_self word))

  module _ {n : ℕ} {odd : List ℕ} (e : RestAt t (bytes_number word) n) (v : OddValues n odd) where
    -- acceptable places, flipped
    pub flips-mended : {m : ℕ} {after : List ℕ} → Mended odd t word m after → Corrects t word (0, m ∷ []) after
    flips-mended {m} {after} h =
        let js : List ℕ = h.places in
        mended-by m after (subst (Within t word) (sym h.flips) (any-within word t b st e v js h.apart h.right))
        (h.count ∙ any-distance word t b st e v js h.apart ∙ ap (distance word) (sym h.flips))

    -- none near
    pub far-refused : Unacceptable odd t → Corrects t word (24, []) word
    far-refused h = none-near b st (none_within word t b st e v h.0 h.1 h.2)

    -- flipped, or none near
    pub mended-or-far : {before after : List ℕ} → before ≡ word → (r : Option ℕ)
        → MatchOption r ((after ≡ before) × Unacceptable odd t) (λ m. Mended odd t before m after)
        → Corrects t word (told (λ m. m ∷ []) (ok_or r Far)) after
    mended-or-far e None h = subst (Corrects t word (24, [])) (sym (h.0 ∙ e)) (far-refused h.1)
    mended-or-far {before} {after} e (Some m) h = flips-mended (subst (λ (w : List ℕ). Mended odd t w m after) e h)

-- what the tests of the block turn away
pub refused-block : {t : ℕ} {word : List ℕ} {r : Result ⊤ Refusal} {k : Refusal} → Admitted t word r → r ≡ Err k
    → Corrects t word (number_of k, []) word
refused-block {t} {word} {k = k} (no_word x) e =
    let f : Block ≡ k = cc in subst (λ j. Corrects t word (number_of j, []) word) f (no_block x)
refused-block {t} {word} {k = k} (no_number b x) e =
    let f : Strength ≡ k = cc in subst (λ j. Corrects t word (number_of j, []) word) f (no-strength b x)
refused-block (block_at b s) e = absurd (cc)

-- what they let in
pub admitted : {t : ℕ} {word : List ℕ} {r : Result ⊤ Refusal} {u : ⊤} → Admitted t word r → r ≡ Ok u
    → IsBlock word × IsStrength t
admitted (no_word x) e = absurd (cc)
admitted (no_number b x) e = absurd (cc)
admitted (block_at b s) e = (b, s)
