-- What a sheet says, by the contract alone: of whatever `Sheets` admits.
--   told-add-up    accepted and refused add up to the outcomes given
--   told-highest   the highest of each field
--   told-joined    the sheet of two files one behind the other, where the first ends cleanly
-- Assumes nothing.
use Rattle.std.proofs.Common.{◌≡◌, ℕ, List, [], ◌∷◌, ◌++◌, map, length, sym, ap, ◌∙◌, subst, ap₂}
use Rattle.field.specs.Rows.{rows}
use Rattle.job_records.specs.Reading.{Outcome}
use Rattle.job_records.specs.Files.{Reads}
use Rattle.job_sheet.specs.Entries.{Entry, entries}
use Rattle.job_sheet.specs.Figures.{figures_at}
use Rattle.job_sheet.specs.Highest.{HighestEach}
use Rattle.job_sheet.specs.Highest.HighestEach.{none, more}
use Rattle.job_sheet.specs.Joined.{outcomes_in, joined_figures}
use Rattle.job_sheet.specs.Calls.{told_sheet, Sheets}
use Rattle.job_sheet.specs.declared.Sheet.{Sheet}
use Rattle.job_sheet.proofs.AddUp.{outcomes-add-up}
use Rattle.job_sheet.proofs.Peaks.{is-highest}
use Rattle.job_sheet.proofs.Front.{Clean}
use Rattle.job_sheet.proofs.Joined.{file-joined}

pub told-add-up : (file : List ℕ) (os : List Outcome) (s : Sheet) → Reads file 0 os → Sheets file s
    → outcomes_in (told_sheet s) ≡ length os
told-add-up file os s h t = ap outcomes_in t ∙ outcomes-add-up file os h

-- the figures of each field have its highest
each-highest : (es : List Entry) (rs : List (ℕ × ℕ)) → HighestEach es rs (map (λ r. figures_at es r.0) rs)
each-highest es [] = none
each-highest es (r ∷ rs) = more (is-highest r.0 es) (each-highest es rs)

pub told-highest : (file : List ℕ) (s : Sheet) → Sheets file s
    → HighestEach (entries file) rows (told_sheet s).fields
told-highest file s t = subst (λ f. HighestEach (entries file) rows f.fields) (sym t) (each-highest (entries file) rows)

pub told-joined : (f g : List ℕ) (s t u : Sheet) → Sheets f s → Sheets g t → Sheets (f ++ g) u → (told_sheet s).mark ≡ 0
    → (told_sheet s).short ≡ 0
    → told_sheet u ≡ joined_figures (told_sheet s) (told_sheet t)
told-joined f g s t u p q r a b =
    let mark = sym (ap (λ x. x.mark) p) ∙ a in
    let short = sym (ap (λ x. x.short) p) ∙ b in
    let clean : Clean (entries f) = record { no-mark = mark; no_short = short } in
    r ∙ file-joined f g clean ∙ ap₂ joined_figures (sym p) (sym q)
