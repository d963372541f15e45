-- `job_text::strings::put_line` meets its contract: at each turn the roots before this one stand behind the text.
-- Assumes nothing.
use mathlib.Core.Path.{◌≡◌}
use mathlib.Core.List.{◌++◌}
use lib.ListN.{take}
use Rattle.job_text.specs.Lines.{spaced}
use Rattle.job_text.proofs.strings.put_line.Given as goal

abbrev pub invariant-loop-root : goal.invariant-loop-root
invariant-loop-root g l = l.text.bytes ≡ l.initial.text.bytes ++ spaced (take l.root-index l.roots)
