-- `job_text::put_byte` meets its contract: one store.
-- Assumes nothing.
use Rattle.job_text.proofs.Lending.{wrote-byte}
use Rattle.job_text.proofs.put_byte.Goals as goal

pub returns : goal.returns
returns c = wrote-byte c.requires
