-- The number of the word that stands open, as the code holds it.
--   held_word   as it counts, by what its digits spell
--   held_number the same as a number; 0 where no word stands open
--   grown_word  with one digit more
--   held_list   the number, if a word stands open
-- Assumes nothing.
use Rattle.std.specs.Prelude.{List, [], ◌∷◌, ℕ, ◌+◌, ◌-◌, ◌*◌, Option, Some, None}
use Rattle.job_text.specs.Lines.{digit_byte}
use Rattle.job_lists.specs.Lines.{capped}

abbrev pub held_word : Option ℕ → Option ℕ
held_word None = None
held_word (Some n) = Some (capped n)

abbrev pub held_number : Option ℕ → ℕ
held_number None = 0
held_number (Some n) = n

abbrev pub grown_word : Option ℕ → ℕ → Option ℕ
grown_word w b = Some (capped (held_number w * 10 + (b - digit_byte 0)))

abbrev pub held_list : Option ℕ → List ℕ
held_list None = []
held_list (Some n) = n ∷ []
