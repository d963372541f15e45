-- Two sheets of one file coincide: a sheet is told by its figures.
--   line-told       a line by its figures;  lines-told  so of many
--   sheet-told      a sheet by its figures
--   sheets-coincide THE SHEET IS DETERMINED BY THE FILE
-- Assumes nothing.
use Rattle.std.proofs.Common.{◌≡◌, ℕ, List, [], ◌∷◌, map, sym, refl, ap, ◌∙◌, ap₂, arith}
use Rattle.std.specs.Prelude.{Option, Some, None}
use Rattle.job_sheet.specs.Calls.{told_peak, told_highest, told_field, told_sheet, Sheets}
use Rattle.job_sheet.specs.declared.Highest.{Highest}
use Rattle.job_sheet.specs.declared.FieldLine.{FieldLine}
use Rattle.job_sheet.specs.declared.Sheet.{Sheet}

highest-told : (g h : Option Highest) → told_highest g ≡ told_highest h → g ≡ h
highest-told None None e = refl
highest-told None (Some h) e = let z : ◌≡◌ {A = ℕ} 0 1 = cc in absurd (let f : ⊥ = omega arith in f)
highest-told (Some g) None e = let z : ◌≡◌ {A = ℕ} 0 1 = cc in absurd (let f : ⊥ = omega arith in f)
highest-told (Some g) (Some h) e =
    let one : told_peak g ≡ told_peak h = cc in
    λ i. Some (record { record_number = (one i).place; steps = (one i).steps; limit = (one i).limit })

line-told : (l k : FieldLine) → told_field l ≡ told_field k → l ≡ k
line-told l k e =
    let top : l.highest ≡ k.highest = highest-told l.highest k.highest (ap (λ f. f.highest) e) in
    λ i. record {
      accepted = (e i).accepted;
      refused = (e i).refused;
      roots = (e i).roots;
      steps = (e i).steps;
      highest = top i;
    }

lines-told : (ls ks : List FieldLine) → map told_field ls ≡ map told_field ks → ls ≡ ks
lines-told [] [] e = refl
lines-told [] (k ∷ ks) e = let z : ◌≡◌ {A = ℕ} 0 1 = cc in absurd (let f : ⊥ = omega arith in f)
lines-told (l ∷ ls) [] e = let z : ◌≡◌ {A = ℕ} 0 1 = cc in absurd (let f : ⊥ = omega arith in f)
lines-told (l ∷ ls) (k ∷ ks) e =
    let first : told_field l ≡ told_field k = cc in
    let rest : map told_field ls ≡ map told_field ks = cc in
    ap₂ (λ x xs. x ∷ xs) (line-told l k first) (lines-told ls ks rest)

sheet-told : (s t : Sheet) → told_sheet s ≡ told_sheet t → s ≡ t
sheet-told s t e =
    let ls : s.lines ≡ t.lines = lines-told s.lines t.lines (ap (λ f. f.fields) e) in
    λ i. record { lines = ls i; unknown = (e i).unknown; mark = (e i).mark; short = (e i).short }

pub sheets-coincide : (file : List ℕ) (s t : Sheet) → Sheets file s → Sheets file t → s ≡ t
sheets-coincide file s t h j = sheet-told s t (h ∙ sym j)
