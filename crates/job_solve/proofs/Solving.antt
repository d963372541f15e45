-- An accepted record is solved: the whole call refuses nothing that the reader accepts.
--   same_tests        the reader's tests and those of the lists' room are the whole call's
--   record-passes     the tests of a record that reading gave;  job-accepted  so of the code's record
--   record-accepted   THE WHOLE CALL REFUSES NO RECORD THAT THE READER ACCEPTS
--   accepted-in       its polynomial is let in
--   solve-asks        what the engine asks of coefficients that were spelled first;  solved-spelled  what it gives
-- Assumes nothing.
use mathlib.Core.Path.{◌≡◌, refl, sym, ap, ◌∙◌, subst}
use mathlib.Core.List.{List, [], ◌∷◌, ◌++◌}
use Prim.Native.Nat.{ℕ, ◌+◌, ◌≤◌}
use borrow.Author.Tests.{le-ltb}
use lib.ListN.{length, get_or, take}
use Rattle.refusals.specs.Order.{Passed}
use Rattle.refusals.specs.Order.Passed.{none}
use Rattle.refusals.proofs.Order.{passes, accepted, passed-both}
use Rattle.slices.proofs.Lists.{copied-front}
use Rattle.field.specs.Field.{roots_at}
use Rattle.input.specs.Cutoff.{highest_cutoff, in_force}
use Rattle.input.specs.Limit.{limit}
use Rattle.input.specs.Polynomials.{PolynomialIn}
use Rattle.input.specs.RootMemory.{room_tests}
use Rattle.input.proofs.Polynomials.{polynomial-told}
use Rattle.table_rules.specs.Demand.{steps_at}
use Rattle.find_solve.specs.Calls.{solve_tests, solve_outcome}
use Rattle.find_solve.specs.Solving.{SolvedOut}
use Rattle.find_solve.proofs.Admitting.{admitted, solved-at}
use Rattle.find_solve.specs.declared.Solved.{Solved}
use Rattle.job_records.specs.Layout.{words, part}
use Rattle.job_records.specs.Cutoffs.{asked}
use Rattle.job_records.specs.Reading.{Outcome, call_tests, told_read, read_at, Spelled}
use Rattle.job_records.specs.declared.Job.{Job}
use Rattle.job_records.specs.declared.Read.TheVariants.{Record}
use Rattle.job_records.proofs.Forward.{accepts}
use Rattle.job_records.proofs.Cutoffs.{asked-stated}
use Rattle.job_solve.specs.Solving.{cutoff_of, Accepted}

-- the reader's tests, and those of the lists' room behind them
pub same_tests : (m c : ℕ) (cs roots mults : List ℕ) → call_tests m c cs ++ room_tests roots mults ≡ solve_tests m c cs roots mults
same_tests m c cs roots mults = refl

-- so what passes the reader's passes the whole call's
passes_on : (m c : ℕ) (cs roots mults : List ℕ) → Passed (call_tests m c cs) → limit ≤ length roots → limit ≤ length mults → Passed (solve_tests m c cs roots mults)
passes_on m c cs roots mults p room beside =
    passed-both p (passes (le-ltb (length roots) limit room) (passes (le-ltb (length mults) limit beside) none))

-- ---- what reading gave

pub record-passes : (file : List ℕ) (at : ℕ) {next m start len : ℕ} {cutoff : List ℕ} → read_at file at ≡ Outcome.gives 0 (next ∷ m ∷ start ∷ len ∷ cutoff)
    → Passed (call_tests m (asked cutoff) (words (part file start len)))
record-passes file at {m = m} {start} {len} e =
    let a = accepts file at e in
    subst (λ c. Passed (call_tests m c (words (part file start len)))) (sym (ap asked a.cutoff-is ∙ asked-stated (get_or file (at + 3) 0))) a.tests

pub record-accepted : (file : List ℕ) (at : ℕ) {next m start len : ℕ} {cutoff : List ℕ} → read_at file at ≡ Outcome.gives 0 (next ∷ m ∷ start ∷ len ∷ cutoff)
    → (roots mults : List ℕ) → limit ≤ length roots → limit ≤ length mults → solve_outcome m (asked cutoff) (words (part file start len)) roots mults
    ≡ (0, length (roots_at m (words (part file start len))) ∷ steps_at m (asked cutoff) (words (part file start len)) ∷ [])
record-accepted file at {m = m} {start} {len} {cutoff} e roots mults room beside =
    accepted _ (passes_on m (asked cutoff) (words (part file start len)) roots mults (record-passes file at e) room beside)

-- with its coefficient bytes
pub job-accepted : (file : List ℕ) (at : ℕ) {j : Job} {bytes : List ℕ} → told_read (Record j) ≡ read_at file at → bytes ≡ part file j.start j.len
    → Accepted j (words bytes)
job-accepted file at {j} e b = subst (λ bs. Accepted j (words bs)) (sym b) (record { passed = record-passes file at (sym e) })

-- ---- coefficients that were spelled into a room

-- the polynomial is let in
pub accepted-in : {j : Job} {cs : List ℕ} → Accepted j cs → PolynomialIn j.m cs
accepted-in {j} {cs} p = polynomial-told j.m cs p.passed

module _ {n : ℕ} {bytes room after : List ℕ} (h : Spelled bytes room n after) where
  front : take n after ≡ words bytes
  front = ap (take n) h.slots ∙ copied-front (words bytes) room (sym h.count)

  module _ {j : Job} {k : ℕ} (p : Accepted j (words bytes)) (e : k ≡ in_force (cutoff_of j)) where
    -- what the engine asks
    pub solve-asks : (list : List ℕ) → limit ≤ length list
        → PolynomialIn j.m (take n after) × (1 ≤ k) × (k ≤ highest_cutoff) × (limit ≤ length list)
    unfolding front
    solve-asks list l =
        admitted j.m (cutoff_of j) (take n after) list
        (subst (λ cs. Passed (solve_tests j.m (cutoff_of j) cs list list)) (sym front) (passes_on j.m (cutoff_of j) (words bytes) list list p.passed l l)) e

    -- it gives the roots and the steps
    pub solved-spelled : {r : Solved} {list list' : List ℕ} → SolvedOut j.m k (take n after) list r list'
        → SolvedOut j.m (in_force (cutoff_of j)) (words bytes) list r list'
    unfolding front
    solved-spelled {r} {list} {list'} o = subst (λ cs. SolvedOut j.m (in_force (cutoff_of j)) cs list r list') front (solved-at e o)
