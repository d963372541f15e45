-- The figures of a file that a program reads are small: its total of steps is one word.
--   accepted-passes   an entry under 0 is of a record that no test refuses
--   most_steps         the most steps of a record;  steps-few  an accepted one's are at most so many
--   total-few         so those of a file are at most so many for each of its bytes
--   small-printable   THE LINES of the sheet of a file of at most 65,536 bytes can be printed;  printable-at
--                     each of them, by its place
-- Assumes nothing.
use Rattle.std.proofs.Common.{◌≡◌, ℕ, zero, suc, ◌-◌, ◌*◌, ◌/◌, ◌^◌, ◌<◌, ◌≤◌, Bool, true, false, cond, ◌⊎◌, List, [], ◌∷◌, map, length, get_or, sym, refl, ap, ◌∙◌, subst, inl, inr, div-le_self, arith}
use Rattle.algebra.specs.Trial.{All}
use Rattle.refusals.specs.Order.{Given, Passed}
use Rattle.refusals.proofs.Order.{cases, given-decides}
use Rattle.field.specs.Rows.{rows}
use Rattle.field.specs.Field.{roots_at}
use Rattle.input.specs.Cutoff.{in_force}
use Rattle.input.specs.Limit.{limit, widest}
use Rattle.input.specs.Polynomials.{PolynomialIn}
use Rattle.input.proofs.Polynomials.{polynomial-told, roots_few}
use Rattle.table_rules.specs.Splitting.{trace_bit_at}
use Rattle.table_rules.proofs.Counting.{count-bound}
use Rattle.find_solve.proofs.Tracing.{powers-fit}
use Rattle.job_records.specs.Layout.{degree_byte, cutoff_byte, record_length, coefficients}
use Rattle.job_records.specs.Reading.{start_tests, record_tests}
use Rattle.job_sheet.specs.Entries.{Entry, goes_on, entry_here, entries_behind, entries}
use Rattle.job_sheet.specs.Figures.{sum_of, accepted_in, FieldFigures, Figures, figures_at}
use Rattle.job_sheet.specs.Calls.{told_field, Sheets}
use Rattle.job_sheet.specs.Text.{FitsLine}
use Rattle.job_sheet.specs.declared.FieldLine.{FieldLine}
use Rattle.job_sheet.specs.declared.Sheet.{Sheet}
use Rattle.job_sheet.proofs.Outcomes.{where-on}
use Rattle.job_sheet.proofs.Front.{complete-number, stopped}
use Rattle.job_sheet.proofs.Counts.{sum_first, accepted-zero}
use Rattle.job_sheet.proofs.Readings.{refused-least}

-- no refusal has the number 0
accepted-passes : (b : ℕ) (bs : List ℕ) → (entry_here (b ∷ bs)).number ≡ 0 → Passed (record_tests (b ∷ bs))
unfolding entry_here
accepted-passes b bs e = go (cases (start_tests (b ∷ bs))) (cases (record_tests (b ∷ bs)))
  where
    r : List ℕ
    r = b ∷ bs

    some : ((entry_here r).number ≡ 11) ⊎ ((entry_here r).number ≡ 12) → ⊥
    some (inl n) = omega arith
    some (inr n) = omega arith

    go : ((k : ℕ) × Given k (start_tests r)) ⊎ Passed (start_tests r)
        → ((k : ℕ) × Given k (record_tests r)) ⊎ Passed (record_tests r)
        → Passed (record_tests r)
    go (inl g) q = absurd (some (stopped r (omega arith) g.1))
    go (inr p) (inl g) =
        let n = sym (complete-number r (omega arith) p ∙ given-decides (λ k. k) 0 g.1) ∙ e in
        absurd (let x : ⊥ = omega (arith, refused-least r g.1) in x)
    go (inr p) (inr q) = q

-- the widest field's degree times the most roots
abbrev pub most_steps : ℕ
most_steps = widest * limit

steps-few : (b : ℕ) (bs : List ℕ) → (entry_here (b ∷ bs)).number ≡ 0 → (entry_here (b ∷ bs)).steps ≤ most_steps
unfolding entry_here
steps-few b bs e =
    let t : PolynomialIn (degree_byte (b ∷ bs)) (coefficients (b ∷ bs)) = polynomial-told _ _ (accepted-passes b bs e) in
    let m : ℕ = degree_byte (b ∷ bs) in
    let c : ℕ = in_force (cutoff_byte (b ∷ bs)) in
    let roots : List ℕ = roots_at m (coefficients (b ∷ bs)) in
    let few : length roots / suc c ≤ limit = omega (arith, div-le_self (length roots) (suc c), roots_few t) in
    omega (arith, count-bound (trace_bit_at m) c m roots, powers-fit m (length roots / suc c) t.field few)

-- what an entry adds to a field's total
added-few : (m b : ℕ) (bs : List ℕ)
    → cond (accepted_in m (entry_here (b ∷ bs))) (entry_here (b ∷ bs)).steps 0 ≤ most_steps
added-few m b bs = go (accepted_in m (entry_here (b ∷ bs))) refl
  where
    go : (c : Bool) → accepted_in m (entry_here (b ∷ bs)) ≡ c → cond c (entry_here (b ∷ bs)).steps 0 ≤ most_steps
    go true y = steps-few b bs (accepted-zero m (entry_here (b ∷ bs)) y)
    go false n = omega arith

-- the total of a field
abbrev steps_in : ℕ → List Entry → ℕ
steps_in m es = sum_of (λ e. e.steps) (accepted_in m) es

pub total-few : (m k : ℕ) (bs : List ℕ) → steps_in m (entries_behind k bs) ≤ most_steps * length bs
unfolding entries_behind sum_of
total-few m k [] = omega arith
total-few m (suc k) (b ∷ bs) = omega (arith, total-few m k bs)
total-few m zero (b ∷ bs) =
    let more : List Entry = entries_behind (record_length (b ∷ bs) - 1) bs in
    let few = where-on (λ es. steps_in m es ≤ most_steps * length bs) (goes_on (b ∷ bs)) more (omega arith)
    (total-few m (record_length (b ∷ bs) - 1) bs) in
    omega (
      arith,
      sum_first (λ e. e.steps) (accepted_in m) (entry_here (b ∷ bs)) (cond (goes_on (b ∷ bs)) more []),
      added-few m b bs,
    )

-- a line that tells of figures with five refusals and a total of one word
line-printable : (l : FieldLine) (es : List Entry) (m : ℕ) → told_field l ≡ figures_at es m → steps_in m es < 2 ^ 64
    → FitsLine l
line-printable l es m e h = record {
  word = subst (λ n. n < 2 ^ 64) (sym (ap (λ (f : FieldFigures). f.steps) e)) h;
  five = ap (λ (f : FieldFigures). length f.refused) e;
}

lines-printable : (ls : List FieldLine) (es : List Entry) (rs : List (ℕ × ℕ))
    → map told_field ls ≡ map (λ r. figures_at es r.0) rs
    → ((m : ℕ) → steps_in m es < 2 ^ 64)
    → All FitsLine ls
lines-printable [] es rs e h = tt
lines-printable (l ∷ ls) es [] e h =
    absurd (let z : ◌≡◌ {A = ℕ} (suc (length (map told_field ls))) 0 = ap length e in let b : ⊥ = omega arith in b)
lines-printable (l ∷ ls) es (r ∷ rs) e h =
    let one : told_field l ≡ figures_at es r.0 = cc in
    let more : map told_field ls ≡ map (λ r. figures_at es r.0) rs = cc in
    (line-printable l es r.0 one (h r.0), lines-printable ls es rs more h)

pub small-printable : (file : List ℕ) (s : Sheet) → length file ≤ 65536 → Sheets file s → All FitsLine s.lines
small-printable file s h e =
    lines-printable s.lines (entries file) rows (ap (λ (f : Figures). f.fields) e)
    (λ m. omega (arith, total-few m 0 file))

-- each of them, by its place
pub printable-at : (ls : List FieldLine) (i : ℕ) (d : FieldLine) → All FitsLine ls → i < length ls
    → FitsLine (get_or ls i d)
printable-at [] i d a h = absurd (let b : ⊥ = omega arith in b)
printable-at (l ∷ ls) zero d a h = a.0
printable-at (l ∷ ls) (suc i) d a h = printable-at ls i d a.1 (omega arith)
