-- Laws of the numbers that bytes spell.
--   length-words   two bytes to a word, and a byte alone to none
--   word_at        which two bytes a word has
--   whole_words    an even number of bytes has half as many words
-- Assumes nothing.
use mathlib.Core.Path.{◌≡◌, refl, ap₂, ◌∙◌}
use mathlib.Core.List.{List, [], ◌∷◌}
use Prim.Native.Nat.{ℕ, zero, suc, ◌+◌, ◌*◌, ◌/◌, ◌<◌}
use native.Mathlib.Omega.{arith}
use lib.ListN.{length, get_or}
use Rattle.job_records.specs.Layout.{word, words}

pub length-words : (bs : List ℕ) → length (words bs) ≡ length bs / 2
unfolding words
length-words [] = refl
length-words (low ∷ []) = refl
length-words (low ∷ high ∷ bs) = omega (arith, length-words bs)

pub whole_words : (bs : List ℕ) (n : ℕ) → length bs ≡ 2 * n → length (words bs) ≡ n
whole_words bs n e = omega (arith, length-words bs)

-- the words behind the first are those of the bytes behind its two
pub word_at : (bs : List ℕ) (k : ℕ) → 2 * k + 1 < length bs → get_or (words bs) k 0 ≡ word (get_or bs (2 * k) 0) (get_or bs (2 * k + 1) 0)
unfolding words
word_at [] k h = absurd (omega arith)
word_at (low ∷ []) k h = absurd (omega arith)
word_at (low ∷ high ∷ bs) zero h = refl
word_at (low ∷ high ∷ bs) (suc k) h =
    let e : suc (suc (2 * k)) ≡ 2 * suc k = omega arith in
    let f : suc (suc (2 * k + 1)) ≡ 2 * suc k + 1 = omega arith in
    word_at bs k (omega arith) ∙ ap₂ (λ i j. word (get_or (low ∷ high ∷ bs) i 0) (get_or (low ∷ high ∷ bs) j 0)) e f
