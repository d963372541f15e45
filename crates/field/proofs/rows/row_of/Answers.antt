-- `field::rows::row_of` meets its contract: the first row of that degree is found.
-- Assumes nothing.
use Rattle.std.proofs.Common.{rules, ◌∙◌, eqb}
use borrow.Author.Tests.{tests}
use Rattle.std.proofs.lemmas.Iterator.{YieldsList-from_slice}
use Rattle.std.proofs.lemmas.Iterator.Search.{find_from_yields_List}
use Rattle.field.specs.declared.rows.Row.{Row}
use Rattle.field.proofs.Known.{table, first-is}
use Rattle.field.proofs.rows.row_of.Goals as goal

pub returns : goal.returns
returns c =
    let f = find_from_yields_List (λ (row : Row). eqb row.degree c.args.m) _ _ _ c.find.ensures.ran (YieldsList-from_slice {s = c.iter.result} table cc) (λ x b q k. search (rules, tests)) in
    c.copied.ensures ∙ f ∙ first-is _
