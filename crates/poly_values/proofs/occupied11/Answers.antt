-- `poly_values::occupied11` meets its contract.
-- Assumes nothing.
use mathlib.Core.Path.{◌≡◌, ap, ◌∙◌}
use lib.Bits.{bit_or}
use mathlib.Core.List.{reverse}
use Rattle.std.specs.List.{fold}
use borrow.Author.Rules.{rules}
use Rattle.poly_values.specs.Planes.{occupied}
use Rattle.poly_values.proofs.occupied11.Goals as goal

pub returns : goal.returns
unfolding occupied
returns c =
    let e : c.fold.result ≡ fold (λ rest word. bit_or word rest) 0 (reverse c.vector-v.result) = search rules in
    e ∙ ap (λ v. fold (λ rest word. bit_or word rest) 0 (reverse v)) c.vector-v.ensures
