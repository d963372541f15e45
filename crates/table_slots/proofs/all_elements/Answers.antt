-- `table_slots::all_elements` meets its contract: each number is asked, or all at once.
-- Assumes nothing.
use mathlib.Core.Path.{◌≡◌, refl, ap, ◌∙◌}
use mathlib.Core.Bool.{◌&&◌}
use mathlib.Core.List.{List, [], ◌∷◌}
use Prim.Native.Nat.{ℕ}
use borrow.Author.Tests.{tests}
use lib.Dec.{ltb}
use Rattle.std.specs.List.{list_all}
use Rattle.std.proofs.Common.{rules}
use Rattle.std.proofs.lemmas.Iterator.{YieldsList-from_slice}
use Rattle.std.proofs.lemmas.Iterator.Search.{all_from_yields_List}
use Rattle.slices.specs.Bounded.{all_below}
use Rattle.table_slots.proofs.all_elements.Goals as goal

-- each is asked
below-all : (q : ℕ) (l : List ℕ) → list_all (λ x. ltb x q) l ≡ all_below q l
unfolding all_below
below-all q [] = refl
below-all q (x ∷ l) = ap (λ t. ltb x q && t) (below-all q l)

pub returns-then-s-lt-FEW : goal.returns-then-s-lt-FEW
returns-then-s-lt-FEW c =
    all_from_yields_List (λ x. ltb x c.args.size) _ _ _ c.all.ensures.ran (YieldsList-from_slice c.args.s.now (cc)) (λ x b q k. search (rules, tests))
    ∙ below-all _ _
