-- `job_lists::words::grow` meets its contract.
-- Assumes nothing.
use mathlib.Core.Path.{refl, ◌∙◌}
use Rattle.job_lists.proofs.Taking.{digit-least, held-is, grow_word}
use Rattle.job_lists.proofs.words.grow.Goals as goal

pub overflow_sub-digit : goal.overflow_sub-digit
overflow_sub-digit c = digit-least c.args.b c.requires

pub returns : goal.returns
returns c = grow_word c.args.word c.args.b _ (c.unwrap_or.ensures ∙ held-is c.args.word) refl c.saturating_mul.ensures c.saturating_add.ensures
