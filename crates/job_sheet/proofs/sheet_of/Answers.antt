-- `job_sheet::sheet_of` meets its contract: at each turn the lines tell the figures of the entries before the place.
-- Assumes nothing.
use Rattle.std.proofs.Common.{◌≡◌, ℕ, true, List, [], ◌∷◌, drop, refl, sym, ap, ◌∙◌, arith}
use Rattle.refusals.specs.Numbers.{number_of}
use Rattle.job_records.specs.Reading.{Outcome, told_read, read_at, ReadsAt}
use Rattle.job_records.specs.Layout.{degree_byte}
use Rattle.job_records.specs.declared.Job.{Job}
use Rattle.job_records.specs.declared.Read.{Read}
use Rattle.refusals.specs.declared.Refusal.{Refusal}
use Rattle.job_records.specs.declared.Read.TheVariants.{End, Record, Refused, Stopped}
use Rattle.field.specs.Rows.{known}
use Rattle.job_sheet.specs.Figures.{numbered}
use Rattle.job_sheet.proofs.Counts.{count-few}
use Rattle.job_sheet.proofs.Places.{place-below}
use Rattle.job_sheet.proofs.Lines.{no_line}
use Rattle.job_sheet.proofs.Outcomes.{read-on}
use Rattle.job_sheet.proofs.Readings.{read_known, stands, accepted-known}
use Rattle.job_sheet.proofs.Turns.{sheet-from, sheet-unknown, sheet-refused, refusal-room}
use Rattle.job_sheet.proofs.Turns.{sheet-accepted, record-room, sheet-over, sheet-stop}
use Rattle.job_sheet.proofs.sheet_of.Goals as goal

-- reading ends, or stops
over-read : (file : List ℕ) (at : ℕ) {r : Read} → ReadsAt file at r → r ≡ End → read_at file at ≡ Outcome.ends
over-read file at h e = sym h ∙ ap told_read e

stop-read : (file : List ℕ) (at : ℕ) {r : Read} {k : Refusal} → ReadsAt file at r → r ≡ Stopped k
    → read_at file at ≡ Outcome.gives (number_of k) []
stop-read file at h e = sym h ∙ ap told_read e

-- a refused record
refused-read : (file : List ℕ) (at : ℕ) {next : ℕ} {r : Read} {k : Refusal} → ReadsAt file at r → r ≡ Refused k next
    → read_at file at ≡ Outcome.gives (number_of k) (next ∷ [])
refused-read file at h e = sym h ∙ ap told_read e

-- its field
its-field : (file : List ℕ) (at : ℕ) {next n k : ℕ} → read_at file at ≡ Outcome.gives k (next ∷ []) → (k ≡ 1 → ⊥)
    → n ≡ degree_byte (drop at file) → known n ≡ true
its-field file at h other e = ap known e ∙ read_known file at h other

-- an accepted record
accepted-read : (file : List ℕ) (at : ℕ) {r : Read} {j : Job} → ReadsAt file at r → r ≡ Record j → told_read (Record j) ≡ read_at file at
accepted-read file at h e = sym (ap told_read e) ∙ h

pub loop-lines-init : goal.loop-lines-init
loop-lines-init c = sheet-from _ c.empty_line-lines.result c.empty_line-lines.ensures

pub overflow_add-k : goal.overflow_add-k
overflow_add-k c = let i = c.loop-lines.invariant in omega (arith, i.number, i.few, i.within)

pub returns-in-End : goal.returns-in-End
returns-in-End c = sheet-over c.loop-lines.invariant c.ended.ensures (over-read c.args.file.now c.loop-lines.at c.read_record-read.ensures c.in-End.is)

pub returns-in-Stopped : goal.returns-in-Stopped
returns-in-Stopped c =
    sheet-stop c.loop-lines.invariant c.ended-in-Stopped.ensures refl (stop-read c.args.file.now c.loop-lines.at c.read_record-read.ensures c.in-Stopped.is)

pub overflow_add-unknown : goal.overflow_add-unknown
overflow_add-unknown c =
    let i = c.loop-lines.invariant in
    omega (arith, i.strange, count-few (numbered 1) i.front, i.few, i.within)

pub degree_byte-requires : goal.degree_byte-requires
degree_byte-requires c = let o = read-on c.args.file.now c.loop-lines.at (refused-read c.args.file.now c.loop-lines.at c.read_record-read.ensures c.in-Refused.is) in omega (arith, o.ahead, o.within)

pub place_of-i-requires : goal.place_of-i-requires
place_of-i-requires c = (its-field c.args.file.now c.loop-lines.at (refused-read c.args.file.now c.loop-lines.at c.read_record-read.ensures c.in-Refused.is) (λ e. c.if-number-eq1.false (c.from-number.ensures ∙ e)) c.degree_byte.ensures)

pub offset_bounds-lines-i : goal.offset_bounds-lines-i
offset_bounds-lines-i c = omega (arith, place-below c.degree_byte.result (its-field c.args.file.now c.loop-lines.at (refused-read c.args.file.now c.loop-lines.at c.read_record-read.ensures c.in-Refused.is) (λ e. c.if-number-eq1.false (c.from-number.ensures ∙ e)) c.degree_byte.ensures) c.place_of-i.ensures)

pub bounds-lines-i : goal.bounds-lines-i
bounds-lines-i c = place-below c.degree_byte.result (its-field c.args.file.now c.loop-lines.at (refused-read c.args.file.now c.loop-lines.at c.read_record-read.ensures c.in-Refused.is) (λ e. c.if-number-eq1.false (c.from-number.ensures ∙ e)) c.degree_byte.ensures) c.place_of-i.ensures

pub with_refused-requires : goal.with_refused-requires
with_refused-requires c =
    refusal-room c.loop-lines.invariant (refused-read c.args.file.now c.loop-lines.at c.read_record-read.ensures c.in-Refused.is) (λ e. c.if-number-eq1.false (c.from-number.ensures ∙ e)) c.degree_byte.ensures c.place_of-i.ensures no_line c.from-number.ensures (omega arith)

pub offset_bounds-lines-i-else-number-eq1 : goal.offset_bounds-lines-i-else-number-eq1
offset_bounds-lines-i-else-number-eq1 c = omega (arith, place-below c.degree_byte.result (its-field c.args.file.now c.loop-lines.at (refused-read c.args.file.now c.loop-lines.at c.read_record-read.ensures c.in-Refused.is) (λ e. c.if-number-eq1.false (c.from-number.ensures ∙ e)) c.degree_byte.ensures) c.place_of-i.ensures)

pub bounds-lines-i-else-number-eq1 : goal.bounds-lines-i-else-number-eq1
bounds-lines-i-else-number-eq1 c = place-below c.degree_byte.result (its-field c.args.file.now c.loop-lines.at (refused-read c.args.file.now c.loop-lines.at c.read_record-read.ensures c.in-Refused.is) (λ e. c.if-number-eq1.false (c.from-number.ensures ∙ e)) c.degree_byte.ensures) c.place_of-i.ensures

pub loop-lines-smaller-then-number-eq1 : goal.loop-lines-smaller-then-number-eq1
loop-lines-smaller-then-number-eq1 c = let o = read-on c.args.file.now c.loop-lines.at (refused-read c.args.file.now c.loop-lines.at c.read_record-read.ensures c.in-Refused.is) in omega (arith, o.ahead, o.within)

pub loop-lines-preserved-then-number-eq1 : goal.loop-lines-preserved-then-number-eq1
loop-lines-preserved-then-number-eq1 c =
    sheet-unknown c.loop-lines.invariant (refused-read c.args.file.now c.loop-lines.at c.read_record-read.ensures c.in-Refused.is) (sym c.from-number.ensures ∙ c.if-number-eq1.true)

pub loop-lines-smaller-else-number-eq1 : goal.loop-lines-smaller-else-number-eq1
loop-lines-smaller-else-number-eq1 c = let o = read-on c.args.file.now c.loop-lines.at (refused-read c.args.file.now c.loop-lines.at c.read_record-read.ensures c.in-Refused.is) in omega (arith, o.ahead, o.within)

pub loop-lines-preserved-else-number-eq1 : goal.loop-lines-preserved-else-number-eq1
loop-lines-preserved-else-number-eq1 c =
    sheet-refused c.loop-lines.invariant (refused-read c.args.file.now c.loop-lines.at c.read_record-read.ensures c.in-Refused.is) (λ e. c.if-number-eq1.false (c.from-number.ensures ∙ e)) c.degree_byte.ensures c.place_of-i.ensures no_line c.with_refused.result c.from-number.ensures c.with_refused.ensures

pub place_of-i-requires-in-Record : goal.place_of-i-requires-in-Record
place_of-i-requires-in-Record c = (accepted-known c.args.file.now c.loop-lines.at c.in-Record.job (accepted-read c.args.file.now c.loop-lines.at c.read_record-read.ensures c.in-Record.is))

pub offset_bounds-lines-i-in-Record : goal.offset_bounds-lines-i-in-Record
offset_bounds-lines-i-in-Record c = omega (arith, place-below c.in-Record.job.m (accepted-known c.args.file.now c.loop-lines.at c.in-Record.job (accepted-read c.args.file.now c.loop-lines.at c.read_record-read.ensures c.in-Record.is)) c.place_of-i-in-Record.ensures)

pub bounds-lines-i-in-Record : goal.bounds-lines-i-in-Record
bounds-lines-i-in-Record c = place-below c.in-Record.job.m (accepted-known c.args.file.now c.loop-lines.at c.in-Record.job (accepted-read c.args.file.now c.loop-lines.at c.read_record-read.ensures c.in-Record.is)) c.place_of-i-in-Record.ensures

pub count_job-requires : goal.count_job-requires
count_job-requires c = stands c.args.file.now c.loop-lines.at c.in-Record.job (accepted-read c.args.file.now c.loop-lines.at c.read_record-read.ensures c.in-Record.is)

pub with_accepted-requires : goal.with_accepted-requires
with_accepted-requires c =
    record-room c.loop-lines.invariant c.in-Record.job (accepted-read c.args.file.now c.loop-lines.at c.read_record-read.ensures c.in-Record.is) c.count_job.ensures c.place_of-i-in-Record.ensures no_line (omega arith) (omega arith)

pub offset_bounds-lines-i-in-Record-2 : goal.offset_bounds-lines-i-in-Record-2
offset_bounds-lines-i-in-Record-2 c = omega (arith, place-below c.in-Record.job.m (accepted-known c.args.file.now c.loop-lines.at c.in-Record.job (accepted-read c.args.file.now c.loop-lines.at c.read_record-read.ensures c.in-Record.is)) c.place_of-i-in-Record.ensures)

pub bounds-lines-i-in-Record-2 : goal.bounds-lines-i-in-Record-2
bounds-lines-i-in-Record-2 c = place-below c.in-Record.job.m (accepted-known c.args.file.now c.loop-lines.at c.in-Record.job (accepted-read c.args.file.now c.loop-lines.at c.read_record-read.ensures c.in-Record.is)) c.place_of-i-in-Record.ensures

pub loop-lines-smaller : goal.loop-lines-smaller
loop-lines-smaller c = let o = read-on c.args.file.now c.loop-lines.at (sym (accepted-read c.args.file.now c.loop-lines.at c.read_record-read.ensures c.in-Record.is)) in omega (arith, o.ahead, o.within)

pub loop-lines-preserved : goal.loop-lines-preserved
loop-lines-preserved c =
    sheet-accepted c.loop-lines.invariant c.in-Record.job (accepted-read c.args.file.now c.loop-lines.at c.read_record-read.ensures c.in-Record.is) c.count_job.ensures c.place_of-i-in-Record.ensures no_line c.with_accepted.result c.with_accepted.ensures
