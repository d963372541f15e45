-- `job_lists::words::legible` meets its contract.
-- Assumes nothing.
use mathlib.Core.Path.{◌∙◌}
use borrow.Author.Tests.{tests}
use Rattle.std.proofs.Common.{rules}
use Rattle.std.proofs.lemmas.Iterator.{YieldsList-from_slice}
use Rattle.std.proofs.lemmas.Iterator.Search.{all_from_yields_List}
use Rattle.job_lists.specs.Lines.{is_legible}
use Rattle.job_lists.proofs.Ends.{legible-all}
use Rattle.job_lists.proofs.words.legible.Goals as goal

pub returns : goal.returns
returns c =
    all_from_yields_List is_legible _ _ _ c.all.ensures.ran (YieldsList-from_slice c.args.line.now (cc)) (λ x b q k. search (rules, tests))
    ∙ legible-all _
