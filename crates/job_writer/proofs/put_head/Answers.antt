-- `job_writer::put_head` meets its contract: its five bytes stand in front.
-- Assumes nothing.
use Rattle.poly.proofs.Parts.{part-copied}
use Rattle.job_writer.proofs.put_head.Goals as goal

pub returns : goal.returns
returns c = part-copied _ _ c.copy_from_slice.ensures.after
