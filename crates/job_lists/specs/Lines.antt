-- The text of a list of jobs: a line for each, of decimal numbers.
--   tab, carriage_return   the blanks beside the space
--   is_blank, is_digit, is_legible   is a byte a blank, a digit, or one of both?
--   line_length     how many bytes stand before the first line feed; all of them where there is none
--   line_end        where the line ends that stands at a place
--   line_at         the bytes of that line
--   ends_whole      is a line whole that ends at a place: does a line feed end it, or the end of the input?
--   legible        is every byte of a line a digit or a blank?
--   highest_number  the highest number that counts;  capped  a number above it counts as it
--   so_far          what the digits of a word spell that were read; 0 where none was
--   longer         the same with one digit more
--   word_numbers    the number of the word that stands open, if one does
--   numbers_from    the numbers of the words of digits in bytes, in order, behind the word that stands open
--   most_numbers    how many numbers of a line count: m, the cutoff, and one root more than there may be
--   numbers_of      THE NUMBERS OF A LINE
-- Assumes nothing.
use Rattle.std.specs.Prelude.{Bool, true, cond, ◌&&◌, ◌||◌, List, [], ◌∷◌, ◌++◌, ℕ, suc, ◌+◌, ◌-◌, ◌*◌, eqb, ltb, leb, length, take, drop}
use Rattle.std.specs.Prelude.{Option, Some, None}
use Rattle.job_text.specs.Lines.{digit_byte, space, line_feed}
use Rattle.input.specs.Limit.{limit}

abbrev pub tab : ℕ
tab = 9

abbrev pub carriage_return : ℕ
carriage_return = 13

unfoldable pub is_blank : ℕ → Bool
is_blank b = eqb b space || (eqb b tab || eqb b carriage_return)

unfoldable pub is_digit : ℕ → Bool
is_digit b = leb (digit_byte 0) b && leb b (digit_byte 9)

abbrev pub is_legible : ℕ → Bool
is_legible b = is_digit b || is_blank b

unfoldable pub line_length : List ℕ → ℕ
line_length [] = 0
line_length (b ∷ bs) = cond (eqb b line_feed) 0 (suc (line_length bs))

-- before the next line feed, or at the end of the text
abbrev pub line_end : List ℕ → ℕ → ℕ
line_end text at = at + line_length (drop at text)

abbrev pub line_at : List ℕ → ℕ → List ℕ
line_at text at = take (line_length (drop at text)) (drop at text)

-- where a line feed ends it, it ends before the text does; `ended` says that the input ends with the text
unfoldable pub ends_whole : List ℕ → ℕ → Bool → Bool
ends_whole text end ended = ended || ltb end (length text)

unfoldable pub legible : List ℕ → Bool
legible [] = true
legible (b ∷ bs) = is_legible b && legible bs

abbrev pub highest_number : ℕ
highest_number = 65535

unfoldable pub capped : ℕ → ℕ
capped n = cond (ltb n highest_number) n highest_number

abbrev pub so_far : Option ℕ → ℕ
so_far None = 0
so_far (Some n) = n

abbrev pub longer : Option ℕ → ℕ → Option ℕ
longer w b = Some (so_far w * 10 + (b - digit_byte 0))

abbrev pub word_numbers : Option ℕ → List ℕ
word_numbers None = []
word_numbers (Some n) = capped n ∷ []

-- a digit makes the word longer; a byte that is none ends it
unfoldable pub numbers_from : Option ℕ → List ℕ → List ℕ
numbers_from w [] = word_numbers w
numbers_from w (b ∷ bs) = cond (is_digit b) (numbers_from (longer w b) bs) (word_numbers w ++ numbers_from None bs)

abbrev pub most_numbers : ℕ
most_numbers = 3 + limit

-- what stands behind the last of them does not count
abbrev pub numbers_of : List ℕ → List ℕ
numbers_of line = take most_numbers (numbers_from None line)
