-- What reading gives at a place of a file (docs/RULES.md sections 5.2 and 5.3).
--   Outcome      reading ends, or it gives a number with its values
--   told_read        the outcome of each answer of the code: a place to go on comes first among the values; an accepted
--                   record also has
--                its m, where its coefficient bytes start, how many they are, and the cutoff that it states
--   start_tests   the tests of the bytes from a place on: one byte remains, no mark, any later shortage
--   call_tests, record_tests  the tests of a complete record, in the whole call's order, and those of the record at the
--                           front of bytes
--   judged       the outcome of a complete record at a place
--   read_here     the outcome of the bytes from a place on
--   read_at       the outcome at a place of a file
--   ReadsAt      THE CONTRACT of the reader: the answers that it admits there
--   HandsBack    an outcome at a place accepts: it gives m, the cutoff as stated, the coefficient bytes as that part
--                of
--                the file, and the place behind
--   bytes_of      the coefficient bytes of what was read, as that part of the file; none where no record was accepted
--   Stands       what was read, with these bytes, stands somewhere in a file
--   answered     the code's answer for a complete record, by what the tests found
--   Spelled      the words of bytes stand at the front of a room; what is behind them is as it was
-- Assumes nothing.
use Rattle.std.specs.Prelude.{Bool, not, List, [], ◌∷◌, ◌≡◌, ℕ, ◌+◌, ◌≤◌, length, drop, ltb, ⊤, Option, Result, Ok, Err}
use Rattle.refusals.specs.Order.{decide}
use Rattle.refusals.specs.Numbers.{number_of}
use Rattle.slices.specs.Lists.{copied}
use Rattle.input.specs.Cutoff.{highest_cutoff}
use Rattle.input.specs.Polynomials.{polynomial_tests}
use Rattle.job_records.specs.Layout.{head_length, marked, degree_byte, cutoff_byte}
use Rattle.job_records.specs.Layout.{body_length, record_length, words, part, coefficients}
use Rattle.job_records.specs.Cutoffs.{stated_cutoff, stated_by}
use Rattle.job_records.specs.declared.Read.{Read}
use Rattle.job_records.specs.declared.Read.TheVariants.{End, Record, Refused, Stopped}
use Rattle.refusals.specs.declared.Refusal.{Refusal}

pub data Outcome : Type 0 where
  ends : Outcome
  gives : (number : ℕ) (values : List ℕ) → Outcome

abbrev pub told_read : Read → Outcome
told_read End = Outcome.ends
told_read (Record j) = Outcome.gives 0 (j.next ∷ j.m ∷ j.start ∷ j.len ∷ stated_by j.cutoff)
told_read (Refused k next) = Outcome.gives (number_of k) (next ∷ [])
told_read (Stopped k) = Outcome.gives (number_of k) []

abbrev pub start_tests : List ℕ → List (ℕ × Bool)
start_tests rest =
    (12, ltb (length rest) 2) ∷ (11, not (marked rest)) ∷ (12, ltb (length rest) (record_length rest)) ∷ []

abbrev pub call_tests : ℕ → ℕ → List ℕ → List (ℕ × Bool)
call_tests m c cs = polynomial_tests m cs ((6, ltb highest_cutoff c) ∷ [])

-- the tests of the record that stands first in these bytes
abbrev pub record_tests : List ℕ → List (ℕ × Bool)
record_tests r = call_tests (degree_byte r) (cutoff_byte r) (coefficients r)

-- refused or accepted, reading goes on behind the record
unfoldable pub judged : ℕ → List ℕ → Outcome
judged at r =
    decide (record_tests r) (λ k. Outcome.gives k ((at + record_length r) ∷ []))
    (Outcome.gives 0 ((at + record_length r) ∷ degree_byte r ∷ (at + head_length) ∷ body_length r
    ∷ stated_cutoff (cutoff_byte r)))

-- 11 and 12 say of no place to go on
unfoldable pub read_here : ℕ → List ℕ → Outcome
read_here at [] = Outcome.ends
read_here at (b ∷ bs) = decide (start_tests (b ∷ bs)) (λ k. Outcome.gives k []) (judged at (b ∷ bs))

abbrev pub read_at : List ℕ → ℕ → Outcome
read_at file at = read_here at (drop at file)

-- the contract of the reader: the answers that it admits at a place
abbrev pub ReadsAt : List ℕ → ℕ → Read → Type 0
ReadsAt file at r = told_read r ≡ read_at file at

-- the part of the file that the values name is the record's coefficient bytes, and all of it lies in the file
pub record HandsBack (file : List ℕ) (at : ℕ) (o : Outcome) : Type 0 where
  pub gives : o
      ≡ Outcome.gives 0
      ((at + record_length (drop at file)) ∷ degree_byte (drop at file) ∷ (at + head_length) ∷ body_length (drop at file)
      ∷ stated_cutoff (cutoff_byte (drop at file)))
  pub bytes : part file (at + head_length) (body_length (drop at file))
      ≡ part (drop at file) head_length (body_length (drop at file))
  pub inside : at + record_length (drop at file) ≤ length file

-- the coefficient bytes of what was read; none where no record was accepted
abbrev pub bytes_of : List ℕ → Read → List ℕ
bytes_of file End = []
bytes_of file (Record j) = part file j.start j.len
bytes_of file (Refused k next) = []
bytes_of file (Stopped k) = []

-- the file and the place are the caller's
pub record Stands (r : Read) (bytes : List ℕ) : Type 0 where
  pub file : List ℕ
  pub at : ℕ
  pub read : told_read r ≡ read_at file at
  pub lent : bytes ≡ bytes_of file r

abbrev pub answered : ℕ → ℕ → Option ℕ → ℕ → Result ⊤ Refusal → Read
answered at m cutoff len (Ok u) =
    Record (record { m = m; cutoff = cutoff; start = at + head_length; len = len; next = at + head_length + len })
answered at m cutoff len (Err k) = Refused k (at + head_length + len)

pub record Spelled (bytes room : List ℕ) (n : ℕ) (after : List ℕ) : Type 0 where
  pub count : n ≡ length (words bytes)
  pub slots : after ≡ copied (words bytes) room
