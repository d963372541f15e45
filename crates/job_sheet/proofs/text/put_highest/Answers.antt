-- `job_sheet::text::put_highest` meets its contract: three dashes, or the three numbers.
-- Assumes nothing.
use Rattle.job_sheet.proofs.Texts.{none-put}
use Rattle.job_sheet.proofs.text.put_highest.Goals as goal

pub returns-in-None : goal.returns-in-None
returns-in-None c = rw c.in-None.is (none-put _ c.push_str.ensures.bytes)

pub returns-in-Some : goal.returns-in-Some
returns-in-Some c = rw c.in-Some.is c.put_numbers.ensures
