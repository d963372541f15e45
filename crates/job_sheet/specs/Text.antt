-- What the program `sheet` prints (docs/RULES.md section 13.4).
--   none_text      what stands for the highest record where there is none: three dashes, each behind a space
--   highest_text   the highest record: its number, its steps and their limit, each behind a space
--   field_text     the line of a field: its degree, and its figures
--   apart_text     the last line: how many outcomes were 1, 11 and 12, each behind its word
--   field_room, apart_room   how many bytes these lines have at most
--   FitsLine      a line of the sheet that fits: its total of steps is one word
-- Assumes nothing.
use Rattle.std.specs.Prelude.{◌≡◌, ℕ, ◌+◌, ◌*◌, ◌^◌, ◌<◌, List, [], ◌∷◌, ◌++◌, length, Option, Some, None}
use Rattle.job_text.specs.Lines.{space, line_feed, decimal, spaced}
use Rattle.job_sheet.specs.Figures.{Peak, FieldFigures}
use Rattle.job_sheet.specs.declared.FieldLine.{FieldLine}

abbrev pub dash : ℕ
dash = 45

abbrev pub none_text : List ℕ
none_text = space ∷ dash ∷ space ∷ dash ∷ space ∷ dash ∷ []

abbrev pub highest_text : Option Peak → List ℕ
highest_text None = none_text
highest_text (Some p) = spaced (p.place ∷ p.steps ∷ p.limit ∷ [])

-- in the order of the columns
abbrev pub field_text : ℕ → FieldFigures → List ℕ
field_text m f =
    decimal m ++
    (spaced (f.accepted ∷ (f.refused ++ (f.roots ∷ f.steps ∷ [])))
    ++ (highest_text f.highest ++ (line_feed ∷ [])))

-- "unknown", " mark" and " short"
abbrev pub unknown_word : List ℕ
unknown_word = 117 ∷ 110 ∷ 107 ∷ 110 ∷ 111 ∷ 119 ∷ 110 ∷ []

abbrev pub mark_word : List ℕ
mark_word = 32 ∷ 109 ∷ 97 ∷ 114 ∷ 107 ∷ []

abbrev pub short_word : List ℕ
short_word = 32 ∷ 115 ∷ 104 ∷ 111 ∷ 114 ∷ 116 ∷ []

abbrev pub apart_text : ℕ → ℕ → ℕ → List ℕ
apart_text unknown mark short =
    unknown_word ++
    (spaced (unknown ∷ [])
    ++ (mark_word ++ (spaced (mark ∷ []) ++ (short_word ++ (spaced (short ∷ []) ++ (line_feed ∷ []))))))

-- eleven figures of at most 20 digits behind the degree
abbrev pub field_room : ℕ
field_room = 6 + 21 * 11

abbrev pub apart_room : ℕ
apart_room = 19 + 21 * 3

pub record FitsLine (l : FieldLine) : Type 0 where
  pub word : l.steps < 2 ^ 64
  pub five : length l.refused ≡ 5
