-- The record of given roots (docs/RULES.md section 12.1): the mark, m, the cutoff as it is given, n, and the n
-- coefficients of the monic polynomial that has exactly these simple roots.
--   root_polynomial   the monic polynomial with exactly these simple roots: the product of z + r over them
--   word_bytes        numbers as bytes, two each, the low byte first
--   record_of         THE RECORD of a field, a cutoff and roots
--   length_for        how many bytes the record of so many roots has
-- Assumes nothing.
use Rattle.std.specs.Prelude.{List, [], ◌∷◌, ℕ, suc, ◌+◌, ◌*◌, ◌/◌, ◌%◌, length}
use Rattle.algebra.specs.Polynomial.{from_roots}
use Rattle.field.specs.Field.{G}
use Rattle.job_records.specs.Layout.{mark_low, mark_high, head_length}

abbrev pub root_polynomial : ℕ → List ℕ → List ℕ
root_polynomial m roots = from_roots (G m) roots

-- so that two bytes spell the number again
unfoldable pub word_bytes : List ℕ → List ℕ
word_bytes [] = []
word_bytes (w ∷ ws) = w % 256 ∷ w / 256 ∷ word_bytes ws

-- n is one more than there are roots
abbrev pub record_of : ℕ → ℕ → List ℕ → List ℕ
record_of m c roots = mark_low ∷ mark_high ∷ m ∷ c ∷ suc (length roots) ∷ word_bytes (root_polynomial m roots)

abbrev pub length_for : ℕ → ℕ
length_for s = head_length + 2 * suc s
