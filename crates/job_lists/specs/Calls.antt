-- What the call that writes the record of a line answers, for every text, place and room.
--   Lists     of a whole line: the answer, and what the room holds afterwards. A line that is not legible or has one
--             number alone asks for no record, nor does one with no number; any other asks for that of its field, its
--             cutoff and its roots
--   ListsAt   THE CONTRACT: the same of the line at a place, if it is whole; of one that is cut off nothing is written
-- Assumes nothing.
use Rattle.std.specs.Prelude.{◌≡◌, Bool, true, false, List, [], ◌∷◌, ℕ}
use Rattle.job_writer.specs.Calls.{Writes}
use Rattle.std.specs.Prelude.{Result}
use Rattle.refusals.specs.declared.Refusal.{Refusal}
use Rattle.job_lists.specs.Lines.{line_end, line_at, ends_whole, legible, numbers_of}
use Rattle.job_lists.specs.declared.Listed.{Listed}
use Rattle.job_lists.specs.declared.Listed.TheVariants.{Blank, Illegible, CutOff, Answer}

pub data Lists (line room : List ℕ) : Listed → List ℕ → Type 0 where
  illegible : legible line ≡ false → Lists line room Illegible room
  blank : legible line ≡ true → numbers_of line ≡ [] → Lists line room Blank room
  alone : {m : ℕ} → legible line ≡ true → numbers_of line ≡ m ∷ [] → Lists line room Illegible room
  asks : {m c : ℕ} {roots : List ℕ} {r : Result ℕ Refusal} {after : List ℕ} → legible line ≡ true
      → numbers_of line ≡ m ∷ c ∷ roots → Writes m c roots room r after → Lists line room (Answer r) after

pub data ListsAt (text : List ℕ) (at : ℕ) (ended : Bool) (room : List ℕ) : Listed → List ℕ → Type 0 where
  cut : ends_whole text (line_end text at) ended ≡ false → ListsAt text at ended room CutOff room
  whole : {l : Listed} {after : List ℕ} → ends_whole text (line_end text at) ended ≡ true
      → Lists (line_at text at) room l after → ListsAt text at ended room l after
