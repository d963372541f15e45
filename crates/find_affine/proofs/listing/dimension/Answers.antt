-- `find_affine::listing::dimension` meets its contract.
-- Assumes nothing.
use mathlib.Core.Path.{◌∙◌}
use mathlib.Core.Bool.{not}
use native.Mathlib.Omega.{arith}
use borrow.Author.Tests.{tests}
use lib.Dec.{eqb}
use lib.ListN.{take}
use Rattle.std.proofs.Common.{rules}
use Rattle.std.proofs.lemmas.Iterator.{YieldsList-from_slice}
use Rattle.std.proofs.lemmas.Iterator.Consumers.{count_from_yields_List, YieldsList-from_filter}
use Rattle.find_affine.proofs.ListLoops.{kept-count}
use Rattle.find_affine.proofs.listing.dimension.Goals as goal

pub returns : goal.returns
returns c =
    count_from_yields_List c.filter.result _ c.count.ensures.ran
    (YieldsList-from_filter _ (λ v. not (eqb v 0)) (YieldsList-from_slice (take c.args.n c.args.vectors.now) (cc)) c.filter.ensures.closure (λ x r q k. search (rules, tests)))
    ∙ kept-count _ _ (omega (arith, c.requires))
