-- `MonthlySheet` of specs/Sheet.antt holds, by the laws of the contract alone.
--   monthly-sheet   it holds
-- Assumes nothing.
use Rattle.job_sheet.proofs.Outcomes.{numbers-of-file}
use Rattle.job_sheet.proofs.Coincide.{sheets-coincide}
use Rattle.job_sheet.proofs.Contract.{told-add-up, told-highest, told-joined}
use Rattle.demands.specs.Sheet.{MonthlySheet}

pub monthly-sheet : MonthlySheet
monthly-sheet = record {
  outcomes = numbers-of-file;
  add-up = told-add-up;
  highest = told-highest;
  joined = told-joined;
  one = sheets-coincide;
}
