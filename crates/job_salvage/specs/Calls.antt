-- What the calls of salvage answer (docs/RULES.md section 11.2).
--   keeps_at        is a record kept at a place of a file?
--   NoneKept       no record is kept from one place on, before another
--   NextIs         THE CONTRACT of `next_kept`: where the first record kept from a place on starts and ends; both are
--                  the end of the file where none is
--   salvage_tests   the test of salvage: 7 where the room is shorter than the file
--   told_kept       the values of an answer: how many bytes are kept, and how many records
--   Salvages       THE CONTRACT of `salvage`: the answer, and what the room holds afterwards
-- Assumes nothing.
use Rattle.std.specs.Prelude.{◌≡◌, Bool, true, false, List, [], ◌∷◌, ℕ, ◌+◌, ◌≤◌, ◌<◌, ltb, length, drop, Result}
use Rattle.refusals.specs.Order.{Answers}
use Rattle.refusals.specs.Admitting.{told}
use Rattle.refusals.specs.declared.Refusal.{Refusal}
use Rattle.slices.specs.Lists.{copied}
use Rattle.job_records.specs.Layout.{record_length}
use Rattle.job_salvage.specs.Pieces.{keeps, kept_records, kept_file}
use Rattle.job_salvage.specs.declared.Kept.{Kept}

abbrev pub keeps_at : List ℕ → ℕ → Bool
keeps_at file at = keeps (drop at file)

abbrev pub NoneKept : List ℕ → ℕ → ℕ → Type 0
NoneKept file from to = (i : ℕ) → from ≤ i → i < to → keeps_at file i ≡ false

pub data NextIs (file : List ℕ) (at : ℕ) : ℕ → ℕ → Type 0 where
  found : {start : ℕ} → at ≤ start → start < length file → NoneKept file at start
      → keeps_at file start ≡ true
      → NextIs file at start (start + record_length (drop start file))
  nothing : NoneKept file at (length file) → NextIs file at (length file) (length file)

abbrev pub salvage_tests : List ℕ → List ℕ → List (ℕ × Bool)
salvage_tests file room = (7, ltb (length room) (length file)) ∷ []

abbrev pub told_kept : Kept → List ℕ
told_kept k = k.bytes ∷ k.records ∷ []

-- the records kept, one after the other, at the front of the room; nothing behind them is written
abbrev pub Salvages : List ℕ → List ℕ → Result Kept Refusal → List ℕ → Type 0
Salvages file room r after =
    Answers (salvage_tests file room) (length (kept_file file) ∷ length (kept_records file) ∷ [])
    (copied (kept_file file) room) room (told told_kept r) after
