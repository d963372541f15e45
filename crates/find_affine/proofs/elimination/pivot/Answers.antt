-- `find_affine::elimination::pivot` meets its contract.
-- Assumes nothing.
use mathlib.Core.Path.{◌≡◌}
use borrow.Author.Tests.{tests}
use Rattle.std.proofs.Common.{rules}
use Rattle.std.proofs.lemmas.Iterator.{YieldsList-from_slice, IsFirst-from_position}
use Rattle.find_affine.proofs.RowLoops.{pivot-first}
use Rattle.find_affine.proofs.elimination.pivot.Goals as goal

pub returns : goal.returns
returns c =
    pivot-first _ _ c.told-row
    (IsFirst-from_position _ _ _ (λ a. a ≡ 0 → ⊥) (λ a. a ≡ 0) c.position.ensures.ran (YieldsList-from_slice c.args.row.now (cc)) (λ x q k. search (rules, tests)) (λ x q k. search (rules, tests)))
