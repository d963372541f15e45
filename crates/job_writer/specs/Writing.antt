-- What the parts of the writer may take for granted, and what they leave.
--   head_of      the bytes of a record before its coefficients
--   Expandable  what the polynomial of roots may take for granted: a known field, roots that are elements, and room
--               for one coefficient more than there are roots
--   Recorded    the record stands at the front of the room, with its length
-- Assumes nothing.
use Rattle.std.specs.Prelude.{◌≡◌, true, List, [], ◌∷◌, ℕ, suc, ◌^◌, ◌≤◌, length}
use Rattle.algebra.specs.Polynomial.{Below}
use Rattle.field.specs.Rows.{known}
use Rattle.slices.specs.Lists.{copied}
use Rattle.job_records.specs.Layout.{mark_low, mark_high}
use Rattle.job_writer.specs.Records.{record_of, length_for}

-- the mark, m, the cutoff, n
abbrev pub head_of : ℕ → ℕ → ℕ → List ℕ
head_of m c n = mark_low ∷ mark_high ∷ m ∷ c ∷ n ∷ []

pub record Expandable (m : ℕ) (roots f : List ℕ) : Type 0 where
  pub field : known m ≡ true
  pub small : Below (2 ^ m) roots
  pub room : suc (length roots) ≤ length f

pub record Recorded (m c : ℕ) (roots room : List ℕ) (n : ℕ) (after : List ℕ) : Type 0 where
  pub count : n ≡ length_for (length roots)
  pub bytes : after ≡ copied (record_of m c roots) room
