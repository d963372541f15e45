-- The lines of the report.
--   stretch-made, count-made   the lines from their parts
--   report-next     THE LINES OF THE STRETCHES ARE THOSE OF THE GAPS: from a place on, that of the gap before the next
--                   record, and then those from its end on
--   prints-report   THE PROGRAM'S LOOP PRINTS THE REPORT: the lines of the stretches, and then the number of records kept
-- Assumes nothing.
use mathlib.Core.Path.{◌≡◌, refl, sym, ap, ◌∙◌}
use mathlib.Core.List.{List, [], ◌∷◌, ◌++◌, append_assoc}
use Prim.Native.Nat.{ℕ, zero, suc, ◌-◌}
use lib.ListN.{length, drop}
use Rattle.job_text.specs.Lines.{decimal, spaced, line_feed}
use Rattle.job_text.proofs.Writing.{begun}
use Rattle.job_salvage.specs.Pieces.{pieces, stretches_from, stretch, kept_records}
use Rattle.job_salvage.specs.Rows.{stretch_row, count_row, stretch_rows, report_of, gap_row, PrintsFrom}
use Rattle.job_salvage.specs.Rows.PrintsFrom.{over, turn}
use Rattle.job_salvage.proofs.Pieces.{pieces-over, Gap, next-gap}
use Rattle.job_salvage.proofs.Whole.{next-stretches}

pub stretch-made : (start len : ℕ) {s t u v : List ℕ} → s ≡ [] → t ≡ s ++ decimal start → u ≡ t ++ spaced (len ∷ []) → v ≡ u ++ (line_feed ∷ []) → v ≡ stretch_row start len
stretch-made start len n e f g =
    g ∙ ap (λ u. u ++ (line_feed ∷ [])) (f ∙ ap (λ t. t ++ spaced (len ∷ [])) (begun n e)) ∙ append_assoc (decimal start) (spaced (len ∷ [])) (line_feed ∷ [])

pub count-made : (n : ℕ) {s t u : List ℕ} → s ≡ [] → t ≡ s ++ decimal n → u ≡ t ++ (line_feed ∷ []) → u ≡ count_row n
unfolding spaced
count-made n z e f = f ∙ ap (λ t. t ++ (line_feed ∷ [])) (begun z e)

stretch-rows : (start n : ℕ) (more : List (ℕ × ℕ)) → stretch_rows (stretch start n more) ≡ gap_row start n ++ stretch_rows more
unfolding stretch_rows stretch gap_row
stretch-rows start zero more = refl
stretch-rows start (suc n) more = refl

report-next : {file : List ℕ} {at start end : ℕ} → Gap file at start end
    → stretch_rows (stretches_from at 0 (pieces (drop at file))) ≡ gap_row at (start - at) ++ stretch_rows (stretches_from end 0 (pieces (drop end file)))
report-next {file} {at} {start} {end} g = ap stretch_rows (next-stretches g) ∙ stretch-rows at (start - at) _

-- from any place on
prints-from : {file : List ℕ} {at : ℕ} {text : List ℕ} → PrintsFrom file at text → text ≡ stretch_rows (stretches_from at 0 (pieces (drop at file)))
unfolding stretch_rows stretches_from stretch
prints-from {file} (over {at = at} h) =
    let none : pieces (drop at file) ≡ [] = pieces-over file {at = at} h in
    rw none
prints-from (turn {at = at} {start = start} l n more) = ap (λ t. gap_row at (start - at) ++ t) (prints-from more) ∙ sym (report-next (next-gap l n))

pub prints-report : (file : List ℕ) {text : List ℕ} → PrintsFrom file 0 text → text ++ count_row (length (kept_records file)) ≡ report_of file
prints-report file p = ap (λ t. t ++ count_row (length (kept_records file))) (prints-from p)
