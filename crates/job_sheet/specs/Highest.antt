-- The record of a field whose steps stand highest against their limit (docs/RULES.md section 13.2), told by what it
-- is.
--   EntryAt     an entry has a number among entries, counted from 1
--   HighestAt   a peak is an entry that competes: at least every other as a fraction, and the first such
--   IsHighest   it is so, or it is none where no entry competes
--   HighestEach so of the figures of each field, in the order of the fields
-- Assumes nothing.
use Rattle.std.specs.Prelude.{◌≡◌, ℕ, suc, ◌*◌, ◌<◌, ◌≤◌, true, List, [], ◌∷◌, ◌≢◌, Option, Some, None}
use Rattle.job_sheet.specs.Entries.{Entry}
use Rattle.job_sheet.specs.Figures.{Peak, peak_of, competes, FieldFigures}

-- the first has the number 1
pub data EntryAt : List Entry → ℕ → Entry → Type 0 where
  here : {e : Entry} {es : List Entry} → EntryAt (e ∷ es) 1 e
  later : {d e : Entry} {es : List Entry} {k : ℕ} → EntryAt es k e → EntryAt (d ∷ es) (suc k) e

-- as fractions, without rounding: s/l is at most t/k where s k is at most t l
pub record HighestAt (m : ℕ) (es : List Entry) (p : Peak) : Type 0 where
  pub entry : Entry
  pub stands : EntryAt es p.place entry
  pub is : p ≡ peak_of p.place entry
  pub one : competes m entry ≡ true
  pub most : (k : ℕ) (e : Entry) → EntryAt es k e → competes m e ≡ true → e.steps * p.limit ≤ p.steps * e.limit
  pub first : (k : ℕ) (e : Entry) → EntryAt es k e → competes m e ≡ true → k < p.place
      → e.steps * p.limit < p.steps * e.limit

pub data IsHighest (m : ℕ) (es : List Entry) (p : Option Peak) : Type 0 where
  some : (q : Peak) → p ≡ Some q → HighestAt m es q → IsHighest m es p
  nothing : p ≡ None → ((k : ℕ) (e : Entry) → EntryAt es k e → competes m e ≢ true) → IsHighest m es p

-- a field is a row, by its degree
pub data HighestEach (es : List Entry) : List (ℕ × ℕ) → List FieldFigures → Type 0 where
  none : HighestEach es [] []
  more : {r : ℕ × ℕ} {rs : List (ℕ × ℕ)} {f : FieldFigures} {fs : List FieldFigures} → IsHighest r.0 es f.highest
      → HighestEach es rs fs
      → HighestEach es (r ∷ rs) (f ∷ fs)
