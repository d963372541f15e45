-- Accepted and refused add up to the outcomes given (docs/RULES.md section 13.3).
--   sum-split         sums of sums
--   weight            how often an entry of a field, with a number, is counted
--   total-more        one entry more
--   Once              an entry is counted once
--   here-once         each entry of a file is;  entries-once  all are
--   adds-up           THE OUTCOMES THAT FIGURES TELL OF are as many as the entries, where each is counted once
--   file-adds-up      so of a file;  outcomes-add-up  as many as the outcomes that reading it gives
-- Assumes nothing.
use Rattle.std.proofs.Common.{◌≡◌, ℕ, zero, suc, ◌+◌, ◌-◌, Bool, true, false, ◌&&◌, eqb, ◌⊎◌, List, [], ◌∷◌, map, length, refl, ◌∙◌, ap₂, inl, inr, arith}
use mathlib.Core.Bool.{and-false}
use borrow.Author.Tests.{not-false}
use Rattle.refusals.specs.Order.{decide, Given, Passed}
use Rattle.refusals.specs.Order.Given.{here, later}
use Rattle.refusals.proofs.Order.{cases, given-decides, passed-decides, failed}
use Rattle.algebra.specs.Trial.{All}
use Rattle.field.specs.Rows.{rows, known}
use Rattle.field.proofs.Known.{by_row, listed}
use Rattle.job_records.specs.Layout.{degree_byte, record_length}
use Rattle.job_records.specs.Reading.{Outcome, start_tests, record_tests}
use Rattle.job_records.specs.Files.{Reads}
use Rattle.job_records.proofs.Forward.{Numbers, among}
use Rattle.job_records.proofs.Forward.Numbers.{none, one}
use Rattle.job_sheet.specs.Entries.{Entry, goes_on, entry_here, entries_behind, entries}
use Rattle.job_sheet.specs.Figures.{count_of, numbered, under, refused_numbers, figures_of}
use Rattle.job_sheet.specs.Joined.{plus, outcomes_in}
use Rattle.job_sheet.proofs.Outcomes.{number-tests, where-on, entries-count}
use Rattle.job_sheet.proofs.Counts.{bit, count-first}

-- ---- sums

sum-split : {A : Type 0} (f g h : A → ℕ) → ((x : A) → f x ≡ g x + h x) → (l : List A)
    → plus (map f l) ≡ plus (map g l) + plus (map h l)
unfolding plus
sum-split f g h e [] = refl
sum-split f g h e (x ∷ l) = omega (arith, e x, sum-split f g h e l)

-- ---- one entry

-- the numbers that a record of a known field may have
abbrev numbers : List ℕ
numbers = 0 ∷ refused_numbers

unfoldable pub weight : ℕ → ℕ → ℕ
unfolding plus
weight m n =
    plus (map (λ r. plus (map (λ k. bit (eqb m r.0 && eqb n k)) numbers)) rows)
    + bit (eqb n 1) + bit (eqb n 11) + bit (eqb n 12)

-- as many as of a field are counted
abbrev in_field : List Entry → ℕ → ℕ
in_field es m = plus (map (λ k. count_of (under m k) es) numbers)

field-more : (e : Entry) (es : List Entry) (m : ℕ)
    → in_field (e ∷ es) m ≡ plus (map (λ k. bit (under m k e)) numbers) + in_field es m
field-more e es m =
    sum-split (λ k. count_of (under m k) (e ∷ es)) (λ k. bit (under m k e)) (λ k. count_of (under m k) es)
    (λ k. count-first (under m k) e es) numbers

-- all that figures tell of
total : (es : List Entry)
    → outcomes_in (figures_of es)
    ≡ plus (map (λ r. in_field es r.0) rows)
    + count_of (numbered 1) es + count_of (numbered 11) es + count_of (numbered 12) es
unfolding plus
total es = refl

total-more : (e : Entry) (es : List Entry)
    → outcomes_in (figures_of (e ∷ es)) ≡ weight e.field e.number + outcomes_in (figures_of es)
unfolding weight
total-more e es =
    omega (
      arith,
      total (e ∷ es),
      total es,
      sum-split (λ r. in_field (e ∷ es) r.0) (λ r. plus (map (λ k. bit (under r.0 k e)) numbers))
          (λ r. in_field es r.0) (λ r. field-more e es r.0) rows,
      count-first (numbered 1) e es,
      count-first (numbered 11) e es,
      count-first (numbered 12) e es,
    )

-- ---- each entry of a file is counted once

abbrev pub Once : Entry → Type 0
Once e = weight e.field e.number ≡ 1

-- 1, 11 and 12 stand apart, whatever the field
apart-1 : (m : ℕ) → weight m 1 ≡ 1
unfolding weight
apart-1 m = simp and-false

apart-11 : (m : ℕ) → weight m 11 ≡ 1
unfolding weight
apart-11 m = simp and-false

apart-12 : (m : ℕ) → weight m 12 ≡ 1
unfolding weight
apart-12 m = simp and-false

-- what is known of a record of a known field: the numbers that it may have
record InField (m : ℕ) : Type 0 where
  accepted : weight m 0 ≡ 1
  empty : weight m 2 ≡ 1
  long : weight m 3 ≡ 1
  element : weight m 4 ≡ 1
  all-zero : weight m 5 ≡ 1
  cutoff : weight m 6 ≡ 1

in_field-known : (m : ℕ) → known m ≡ true → InField m
unfolding weight
in_field-known m k =
    by_row (λ m p. InField m)
    (record { accepted = refl; empty = refl; long = refl; element = refl; all-zero = refl; cutoff = refl })
    (record { accepted = refl; empty = refl; long = refl; element = refl; all-zero = refl; cutoff = refl })
    (record { accepted = refl; empty = refl; long = refl; element = refl; all-zero = refl; cutoff = refl })
    (listed m k)

-- an unknown field is 1; in a known one the tests behind decide
by_field : {k : ℕ} {t : Bool} {ts : List (ℕ × Bool)} (m : ℕ) → (t ≡ false → Numbers (λ n. weight m n ≡ 1) ts)
    → Given k ((1, t) ∷ ts)
    → weight m k ≡ 1
by_field m behind here = apart-1 m
by_field m behind (later g) = among (λ n. weight m n ≡ 1) g (behind refl)

module _ (r : List ℕ) where
  abbrev m : ℕ
  m = degree_byte r

  -- the record's own tests
  record-once : weight m (decide (record_tests r) (λ k. k) 0) ≡ 1
  record-once = go (cases (record_tests r))
    where
      own : {k : ℕ} → Given k (record_tests r) → weight m k ≡ 1
      own g =
          by_field m
          (λ f. let w : InField m = in_field-known m (not-false (known m) f) in
          one w.empty (one w.long (one w.element (one w.all-zero (one w.cutoff none)))))
          g

      go : ((k : ℕ) × Given k (record_tests r)) ⊎ Passed (record_tests r)
          → weight m (decide (record_tests r) (λ k. k) 0) ≡ 1
      go (inl g) = rw (given-decides (λ k. k) 0 g.1) (own g.1)
      go (inr p) = rw (passed-decides (λ k. k) 0 p) (in_field-known m (not-false (known m) (failed p))).accepted

  start-once : weight m (decide (start_tests r) (λ k. k) (decide (record_tests r) (λ k. k) 0)) ≡ 1
  start-once = go (cases (start_tests r))
    where
      go : ((k : ℕ) × Given k (start_tests r)) ⊎ Passed (start_tests r)
          → weight m (decide (start_tests r) (λ k. k) (decide (record_tests r) (λ k. k) 0)) ≡ 1
      go (inl g) =
          rw (given-decides (λ k. k) (decide (record_tests r) (λ k. k) 0) g.1)
          (among (λ n. weight m n ≡ 1) g.1 (one (apart-12 m) (one (apart-11 m) (one (apart-12 m) none))))
      go (inr p) = rw (passed-decides (λ k. k) (decide (record_tests r) (λ k. k) 0) p) record-once

here-once : (b : ℕ) (bs : List ℕ) → Once (entry_here (b ∷ bs))
unfolding entry_here
here-once b bs = rw (number-tests 0 b bs) (start-once (b ∷ bs))

entries-once : (k : ℕ) (bs : List ℕ) → All Once (entries_behind k bs)
unfolding entries_behind
entries-once k [] = tt
entries-once (suc k) (b ∷ bs) = entries-once k bs
entries-once zero (b ∷ bs) =
    (here-once b bs, where-on (All Once) (goes_on (b ∷ bs)) _ tt (entries-once (record_length (b ∷ bs) - 1) bs))

-- ---- all of them

adds-up : (es : List Entry) → All Once es → outcomes_in (figures_of es) ≡ length es
unfolding plus count_of
adds-up [] a = refl
adds-up (e ∷ es) a = total-more e es ∙ ap₂ (λ m n. m + n) a.0 (adds-up es a.1) ∙ omega arith

pub file-adds-up : (file : List ℕ) → outcomes_in (figures_of (entries file)) ≡ length (entries file)
file-adds-up file = adds-up (entries file) (entries-once 0 file)

pub outcomes-add-up : (file : List ℕ) (os : List Outcome) → Reads file 0 os
    → outcomes_in (figures_of (entries file)) ≡ length os
outcomes-add-up file os h = file-adds-up file ∙ entries-count file os h
