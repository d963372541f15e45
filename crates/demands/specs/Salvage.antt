-- What is promised of salvage besides demand 1, of whatever its contract admits.
--   Salvage   what is kept, that it is all the file has of it, and that salvaging it again changes nothing
-- Assumes nothing.
use Rattle.std.specs.Prelude.{Result, Ok}
use Rattle.refusals.specs.declared.Refusal.{Refusal}
use Rattle.job_salvage.specs.declared.Kept.{Kept}
use Rattle.std.specs.Prelude.{◌≡◌, true, false, List, [], ◌∷◌, ◌↔◌, ℕ, ◌+◌, ◌≤◌, length, take, drop}
use Rattle.refusals.specs.Order.{Passed}
use Rattle.slices.specs.Lists.{copied}
use Rattle.job_records.specs.Layout.{record_length}
use Rattle.job_records.specs.Reading.{start_tests, record_tests}
use Rattle.job_records.specs.Files.{joined_file}
use Rattle.job_salvage.specs.Pieces.{keeps, front_record, Piece, pieces, bytes_of, kept_records}
use Rattle.job_salvage.specs.Pieces.{stretches, total, AllAcceptable}
use Rattle.job_salvage.specs.Calls.{Salvages}

pub record Salvage : Type 0 where
  -- a record is kept exactly where its mark is, it is complete, and the whole call would not refuse its field,
  -- coefficients or cutoff
  pub exactly : (bytes : List ℕ) → (keeps bytes ≡ true) ↔ (Passed (start_tests bytes) × Passed (record_tests bytes))
  -- behind a kept record it goes on; else one byte is dropped
  pub on : (bytes : List ℕ) → keeps bytes ≡ true
      → pieces bytes ≡ Piece.kept (front_record bytes) ∷ pieces (drop (record_length bytes) bytes)
  pub off : (b : ℕ) (bs : List ℕ) → keeps (b ∷ bs) ≡ false → pieces (b ∷ bs) ≡ Piece.dropped b ∷ pieces bs
  -- the pieces, one after the other, are the file
  pub whole : (file : List ℕ) → bytes_of (pieces file) ≡ file
  -- the records kept stand at the front of the room, unaltered and in order; nothing is written behind them
  pub front : (file room after : List ℕ) (records bytes : ℕ) → Salvages file room (Ok (record { records = records; bytes = bytes })) after
      → (take bytes after ≡ joined_file (kept_records file)) × (drop bytes after ≡ drop bytes room)
  -- the lengths of what is kept and what is dropped add up to that of the file
  pub lengths : (file room after : List ℕ) (records bytes : ℕ) → Salvages file room (Ok (record { records = records; bytes = bytes })) after
      → bytes + total (stretches file) ≡ length file
  -- a file of acceptable records comes back unchanged, and nothing of it is dropped
  pub back : (rs : List (List ℕ)) (room after : List ℕ) (r : Result Kept Refusal) → AllAcceptable rs
      → length (joined_file rs) ≤ length room → Salvages (joined_file rs) room r after
      → (r ≡ Ok (record { records = length rs; bytes = length (joined_file rs) })) × (after ≡ copied (joined_file rs) room)
  pub all : (rs : List (List ℕ)) → AllAcceptable rs → stretches (joined_file rs) ≡ []
  -- salvaging what was kept changes nothing
  pub again : (file room after : List ℕ) (records bytes : ℕ) (room' after' : List ℕ) (r : Result Kept Refusal)
      → Salvages file room (Ok (record { records = records; bytes = bytes })) after → bytes ≤ length room'
      → Salvages (take bytes after) room' r after'
      → (r ≡ Ok (record { records = records; bytes = bytes })) × (take bytes after' ≡ take bytes after)
