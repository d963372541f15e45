-- `job_text::strings::put_numbers` meets its contract: at each turn the numbers before this one stand behind the text.
-- Assumes nothing.
use mathlib.Core.Path.{◌≡◌}
use mathlib.Core.List.{◌++◌}
use lib.ListN.{take}
use Rattle.job_text.specs.Lines.{spaced}
use Rattle.job_text.proofs.strings.put_numbers.Given as goal

abbrev pub invariant-loop-x : goal.invariant-loop-x
invariant-loop-x g l = l.text.bytes ≡ l.initial.text.bytes ++ spaced (take l.x-index l.xs)
