-- `find_multiplicities::fill_ones` meets its contract.
-- Assumes nothing.
use mathlib.Core.Path.{sym, ap, ap₂, ◌∙◌}
use mathlib.Core.List.{List, ◌++◌}
use Prim.Native.Nat.{ℕ}
use lib.ListN.{drop, replicate, length-replicate}
use lib.Seq.{length-take-le}
use Rattle.slices.specs.Lists.{copied}
use Rattle.find_multiplicities.proofs.fill_ones.Goals as goal

pub returns : goal.returns
unfolding copied
returns c =
    let written = c.fill.ensures.after (λ y e. e) in
    ap₂ (λ (x : List ℕ) (k : ℕ). x ++ drop k c.args.mults.now) (written ∙ ap (λ (k : ℕ). replicate k 1) (length-take-le _ _ c.requires)) (sym (length-replicate {A = ℕ} c.args.n 1))
