-- `claims::some_root_large` meets its contract.
-- Assumes nothing.
use mathlib.Core.Path.{◌≡◌, refl, ap, ◌∙◌}
use mathlib.Core.Bool.{Bool, not, ◌&&◌}
use mathlib.Core.List.{List, [], ◌∷◌}
use Prim.Native.Nat.{ℕ}
use borrow.Author.Tests.{tests}
use lib.Dec.{ltb}
use Rattle.std.specs.List.{list_all}
use Rattle.std.proofs.Common.{rules}
use Rattle.std.proofs.lemmas.Iterator.{YieldsList-from_slice}
use Rattle.std.proofs.lemmas.Iterator.Search.{all_from_yields_List}
use Rattle.slices.specs.Bounded.{all_below}
use Rattle.claims.proofs.some_root_large.Goals as goal

-- each is asked
below-all : (q : ℕ) (l : List ℕ) → list_all (λ x. ltb x q) l ≡ all_below q l
unfolding all_below
below-all q [] = refl
below-all q (x ∷ l) = ap (λ t. ltb x q && t) (below-all q l)

pub returns : goal.returns
returns c =
    ap not
    (all_from_yields_List (λ x. ltb x c.args.bound) _ _ _ c.all.ensures.ran (YieldsList-from_slice c.args.roots.now (cc)) (λ x b q k. search (rules, tests))
    ∙ below-all _ _)
