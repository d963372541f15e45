-- `claims::some_polynomial_large` meets its contract.
-- Assumes nothing.
use mathlib.Core.Path.{◌∙◌}
use mathlib.Core.List.{[], ◌∷◌}
use borrow.Author.Tests.{tests}
use Rattle.std.proofs.Common.{rules}
use Rattle.std.proofs.lemmas.Iterator.{YieldsList-from_slice}
use Rattle.std.proofs.lemmas.Iterator.Search.{any_from_yields_List}
use Rattle.slices.specs.Bounded.{any_from}
use Rattle.claims.proofs.Asking.{some-any}
use Rattle.claims.proofs.some_polynomial_large.Goals as goal

pub returns : goal.returns
returns c =
    any_from_yields_List (λ p. any_from c.args.bound p.now) _ _ _ c.any.ensures.ran (YieldsList-from_slice (c.args.f ∷ c.args.claim.now.h ∷ c.args.claim.now.u ∷ c.args.claim.now.v ∷ []) (cc)) (λ x b q k. search (rules, tests))
    ∙ some-any (any_from c.args.bound) (c.args.f ∷ c.args.claim.now.h ∷ c.args.claim.now.u ∷ c.args.claim.now.v ∷ [])
