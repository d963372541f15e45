-- `job_sheet::place_of` meets its contract: a known field has a row, and its place is that of the first one.
-- Assumes nothing.
use Rattle.std.proofs.Common.{sym, ap, ◌∙◌, refl, eqb, rules, cond}
use borrow.Author.Tests.{tests}
use lib.Dec.{ltb}
use Rattle.std.specs.Prelude.{Some, None}
use Rattle.std.proofs.lemmas.Iterator.{YieldsList-from_slice}
use Rattle.std.proofs.lemmas.Iterator.Search.{position_from_yields_List}
use Rattle.std.proofs.lemmas.Option.{same_Some}
use Rattle.field.proofs.Known.{table}
use Rattle.job_sheet.proofs.Places.{place-first, place-found}
use Rattle.job_sheet.proofs.place_of.Goals as goal

pub unwrap-requires : goal.unwrap-requires
unwrap-requires c =
    let found =
    place-found c.args.m c.requires
    (position_from_yields_List (λ row. eqb row.degree c.args.m) _ _ _ c.position.ensures.ran (YieldsList-from_slice table (cc)) (λ x b q k. search (rules, tests))
    ∙ ap (λ n. cond (ltb n 3) (Some n) None) (place-first c.args.m)) in
    rw found refl

pub returns : goal.returns
returns c =
    let found =
    place-found c.args.m c.requires
    (position_from_yields_List (λ row. eqb row.degree c.args.m) _ _ _ c.position.ensures.ran (YieldsList-from_slice table (cc)) (λ x b q k. search (rules, tests))
    ∙ ap (λ n. cond (ltb n 3) (Some n) None) (place-first c.args.m)) in
    same_Some _ _ (sym c.unwrap.ensures ∙ found)
