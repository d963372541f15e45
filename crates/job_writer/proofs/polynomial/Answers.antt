-- `job_writer::polynomial` meets its contract: at most one root is stored at once.
-- Assumes nothing.
use native.Mathlib.Omega.{arith}
use Rattle.job_writer.proofs.Expanding.{expanded-none, expanded-one}
use Rattle.job_writer.proofs.polynomial.Goals as goal

pub returns-in-empty : goal.returns-in-empty
returns-in-empty c = expanded-none _ _ c.requires (omega (arith, c.in-empty.len_below))

pub returns-in-len1 : goal.returns-in-len1
returns-in-len1 c = expanded-one _ _ c.requires (omega (arith, c.in-len1.len_below, c.in-len1.len_at_least)) c.copy_from_slice.ensures.after
