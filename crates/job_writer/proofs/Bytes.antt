-- Numbers as bytes, two each.
--   length-word_bytes   twice as many bytes as numbers
--   word_bytes-append   the bytes of two lists, one behind the other
--   two-bytes          the bytes that std writes of a number
--   words_back         two bytes each spell the numbers again
-- Assumes nothing.
use mathlib.Core.Path.{◌≡◌, refl, ap, ap₂}
use mathlib.Core.List.{List, [], ◌∷◌, ◌++◌}
use Prim.Native.Nat.{ℕ, ◌*◌, ◌/◌, ◌%◌, ◌<◌}
use native.Mathlib.Nat.{div-add-mod'}
use native.Mathlib.Omega.{arith}
use lib.ListN.{length}
use mir.Syntax.{w16}
use Rattle.std.specs.Int.{to_le_bytes}
use Rattle.job_records.specs.Layout.{word, words}
use Rattle.job_writer.specs.Records.{word_bytes}

pub length-word_bytes : (ws : List ℕ) → length (word_bytes ws) ≡ 2 * length ws
unfolding word_bytes
length-word_bytes [] = refl
length-word_bytes (w ∷ ws) = omega (arith, length-word_bytes ws)

pub word_bytes-append : (s t : List ℕ) → word_bytes (s ++ t) ≡ word_bytes s ++ word_bytes t
unfolding word_bytes
word_bytes-append [] t = refl
word_bytes-append (w ∷ s) t = ap (λ l. w % 256 ∷ w / 256 ∷ l) (word_bytes-append s t)

-- of any number, however large
word_back : (w : ℕ) → word (w % 256) (w / 256) ≡ w
word_back w = omega (arith, div-add-mod' w 256)

pub words_back : (ws : List ℕ) → words (word_bytes ws) ≡ ws
unfolding word_bytes words
words_back [] = refl
words_back (w ∷ ws) = ap₂ (λ x l. x ∷ l) (word_back w) (words_back ws)

-- as std writes them
pub two-bytes : (w : ℕ) → w < 65536 → to_le_bytes w16 w ≡ w % 256 ∷ w / 256 ∷ []
two-bytes w h = ap₂ (λ a b. a ∷ b ∷ []) (omega arith) (omega arith)
