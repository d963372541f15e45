-- A WORD OF A STREAM OF DATA (docs/RULES.md section 7.4): which bytes of a word of strength t carry data, and how the
-- end of the data is marked.
--   data_start t         how many bytes the check bits take, the last one filled up by bits that are 0
--   capacity t          how many bytes of data a word carries: those from data_start t to 254
--   end_byte             stands behind the data of the last word
--   mark_of last         byte 255: 1 in the last word of a stream, 0 in any other
--   Fills D n last      n bytes of data fill a word that carries D; those of the last word leave room for the end byte
--   Fits t d last       d are bytes that fill a word of strength t
--   carried t d last    the bytes from data_start t to 254: d; in the last word then the end byte, and zeros
--   content t d last    all 256 bytes, the check bits 0
--   Carries t v d last  THE WORD v CARRIES d: d fills it, and its bits from 11 t on are those of the content
-- Assumes nothing.
use Rattle.std.specs.Prelude.{◌≡◌, Bool, true, false, List, [], ◌∷◌, ◌++◌, ℕ, ◌+◌, ◌-◌, ◌*◌, ◌/◌, ◌≤◌, ◌<◌, length, get_or, replicate}
use Rattle.corrector.specs.Correcting.{bit_at}

-- the bytes of 11 t check bits
abbrev pub data_start : ℕ → ℕ
data_start t = (11 * t + 7) / 8

-- up to byte 254
abbrev pub capacity : ℕ → ℕ
capacity t = 255 - data_start t

-- 80 in hex
abbrev pub end_byte : ℕ
end_byte = 128

-- byte 255
abbrev pub mark_of : Bool → ℕ
mark_of true = 1
mark_of false = 0

-- the last word has room for the end byte, any other is full
abbrev pub Fills : ℕ → ℕ → Bool → Type 0
Fills D n true = n < D
Fills D n false = n ≡ D

-- bytes that fill a word
pub record Fits (t : ℕ) (d : List ℕ) (last : Bool) : Type 0 where
  pub bytes : (k : ℕ) → get_or d k 0 < 256
  pub fill : Fills (capacity t) (length d) last

-- the bytes between the check bits and the mark
unfoldable pub carried : ℕ → List ℕ → Bool → List ℕ
carried t d true = d ++ end_byte ∷ replicate (capacity t - 1 - length d) 0
carried t d false = d

-- all 256 bytes, the check bits 0
unfoldable pub content : ℕ → List ℕ → Bool → List ℕ
content t d last = replicate (data_start t) 0 ++ (carried t d last ++ mark_of last ∷ [])

-- the data bits of a word are those of the content
pub record Carries (t : ℕ) (v d : List ℕ) (last : Bool) : Type 0 where
  pub fits : Fits t d last
  pub same : (j : ℕ) → 11 * t ≤ j → j < 2047 → bit_at v j ≡ bit_at (content t d last) j
