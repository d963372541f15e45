-- `print_sheet` lends lines that can be printed: the file is small.
use native.Mathlib.Omega.{arith}
use Rattle.job_sheet.proofs.Bounds.{small-printable}
use Rattle.sheet.proofs.print_sheet.Goals as goal

pub print_lines-requires : goal.print_lines-requires
print_lines-requires c = small-printable c.args.file.now c.sheet_of-sheet.result (omega arith) c.sheet_of-sheet.ensures
