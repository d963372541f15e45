-- The pieces of a damaged job file (docs/RULES.md section 11.1): the records that are kept, and the bytes that are
-- dropped.
--   accepts        does an outcome of the reader accept a record?
--   keeps          is a record kept where these bytes begin: would the reader accept it?
--   front_record    the record at the front of bytes
--   Piece          a record that is kept, or a byte that is dropped
--   pieces_behind   the pieces of bytes whose first k belong to the record before
--   pieces         THE PIECES OF A FILE, in order
--   records_of      the records among pieces;  dropped_of  how many bytes are dropped among them
--   bytes_of        the bytes of pieces, one after the other
--   stretch        a dropped stretch, start and length, before others; none where it is empty
--   stretches_from  the dropped stretches of pieces, joined where adjacent, where n bytes from a start on are dropped
--                  already
--   kept_records, kept_file, stretches   of a file: the records kept, the file that they make, the stretches dropped
--   total          how many bytes stretches have
--   Acceptable     bytes are one record that is kept;  AllAcceptable  each of these is
-- Assumes nothing.
use Rattle.std.specs.Prelude.{◌≡◌, Bool, true, false, cond, List, [], ◌∷◌, ◌++◌, ℕ, zero, suc, ◌+◌, ◌-◌, eqb, length, take}
use Rattle.job_records.specs.Layout.{record_length}
use Rattle.job_records.specs.Reading.{Outcome, read_here}
use Rattle.job_records.specs.Files.{Complete, joined_file}

-- under the number 0
abbrev pub accepts : Outcome → Bool
accepts Outcome.ends = false
accepts (Outcome.gives k values) = eqb k 0

-- what stands before them does not matter
abbrev pub keeps : List ℕ → Bool
keeps bytes = accepts (read_here 0 bytes)

abbrev pub front_record : List ℕ → List ℕ
front_record bytes = take (record_length bytes) bytes

pub data Piece : Type 0 where
  kept : (bytes : List ℕ) → Piece
  dropped : (byte : ℕ) → Piece

-- behind a kept record it goes on, else one byte further
unfoldable pub pieces_behind : ℕ → List ℕ → List Piece
pieces_behind k [] = []
pieces_behind (suc k) (b ∷ bs) = pieces_behind k bs
pieces_behind zero (b ∷ bs) =
    cond (keeps (b ∷ bs)) (Piece.kept (front_record (b ∷ bs)) ∷ pieces_behind (record_length (b ∷ bs) - 1) bs)
    (Piece.dropped b ∷ pieces_behind 0 bs)

abbrev pub pieces : List ℕ → List Piece
pieces file = pieces_behind 0 file

unfoldable pub records_of : List Piece → List (List ℕ)
records_of [] = []
records_of (Piece.kept r ∷ ps) = r ∷ records_of ps
records_of (Piece.dropped b ∷ ps) = records_of ps

unfoldable pub dropped_of : List Piece → ℕ
dropped_of [] = 0
dropped_of (Piece.kept r ∷ ps) = dropped_of ps
dropped_of (Piece.dropped b ∷ ps) = suc (dropped_of ps)

unfoldable pub bytes_of : List Piece → List ℕ
bytes_of [] = []
bytes_of (Piece.kept r ∷ ps) = r ++ bytes_of ps
bytes_of (Piece.dropped b ∷ ps) = b ∷ bytes_of ps

unfoldable pub stretch : ℕ → ℕ → List (ℕ × ℕ) → List (ℕ × ℕ)
stretch start zero more = more
stretch start (suc n) more = (start, suc n) ∷ more

unfoldable pub stretches_from : ℕ → ℕ → List Piece → List (ℕ × ℕ)
stretches_from start n [] = stretch start n []
stretches_from start n (Piece.dropped b ∷ ps) = stretches_from start (suc n) ps
stretches_from start n (Piece.kept r ∷ ps) = stretch start n (stretches_from (start + n + length r) 0 ps)

abbrev pub kept_records : List ℕ → List (List ℕ)
kept_records file = records_of (pieces file)

abbrev pub kept_file : List ℕ → List ℕ
kept_file file = joined_file (kept_records file)

abbrev pub stretches : List ℕ → List (ℕ × ℕ)
stretches file = stretches_from 0 0 (pieces file)

unfoldable pub total : List (ℕ × ℕ) → ℕ
total [] = 0
total (s ∷ ss) = s.1 + total ss

-- complete, and the reader accepts it
pub record Acceptable (r : List ℕ) : Type 0 where
  pub complete : Complete r
  pub accepted : keeps r ≡ true

pub data AllAcceptable : List (List ℕ) → Type 0 where
  none : AllAcceptable []
  one : {r : List ℕ} {rs : List (List ℕ)} → Acceptable r → AllAcceptable rs → AllAcceptable (r ∷ rs)
