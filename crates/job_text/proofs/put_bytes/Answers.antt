-- `job_text::put_bytes` meets its contract: the part is the bytes.
-- Assumes nothing.
use Rattle.job_text.proofs.Writing.{wrote-part}
use Rattle.job_text.proofs.put_bytes.Goals as goal

pub returns : goal.returns
returns c = wrote-part _ _ _ _ c.store.ensures
