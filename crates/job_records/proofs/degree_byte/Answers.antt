-- `job_records::degree_byte` meets its contract: a byte of the rest is one of the file.
-- Assumes nothing.
use lib.Seq.{get_or-drop}
use Rattle.job_records.proofs.degree_byte.Goals as goal

pub returns : goal.returns
returns c = rw get_or-drop
