-- `claims::some_empty` meets its contract.
-- Assumes nothing.
use mathlib.Core.Path.{◌∙◌}
use mathlib.Core.List.{[], ◌∷◌}
use borrow.Author.Tests.{tests}
use lib.Dec.{eqb}
use lib.ListN.{length}
use Rattle.std.proofs.Common.{rules}
use Rattle.std.proofs.lemmas.Iterator.{YieldsList-from_slice}
use Rattle.std.proofs.lemmas.Iterator.Search.{any_from_yields_List}
use Rattle.claims.proofs.Asking.{some-any}
use Rattle.claims.proofs.some_empty.Goals as goal

pub returns : goal.returns
returns c =
    any_from_yields_List (λ p. eqb (length p.now) 0) _ _ _ c.any.ensures.ran (YieldsList-from_slice (c.args.f ∷ c.args.claim.now.h ∷ c.args.claim.now.u ∷ c.args.claim.now.v ∷ []) (cc)) (λ x b q k. search (rules, tests))
    ∙ some-any (λ p. eqb (length p) 0) (c.args.f ∷ c.args.claim.now.h ∷ c.args.claim.now.u ∷ c.args.claim.now.v ∷ [])
