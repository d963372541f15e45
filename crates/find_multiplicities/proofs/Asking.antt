-- What a caller that lists the roots of a polynomial hands over.
--   countable   all its roots at the front of a list, and room for the limit beside them
-- Assumes nothing.
use mathlib.Core.Path.{◌≡◌, sym, ap, ◌∙◌}
use mathlib.Core.List.{List}
use Prim.Native.Nat.{ℕ, ◌≤◌}
use native.Mathlib.Omega.{arith}
use lib.ListN.{length, take}
use Rattle.slices.specs.Lists.{copied}
use Rattle.slices.proofs.Lists.{copied-front}
use Rattle.field.specs.Field.{roots_at}
use Rattle.input.specs.Limit.{limit}
use Rattle.input.specs.Polynomials.{PolynomialIn}
use Rattle.input.proofs.Polynomials.{roots_few}
use Rattle.find_multiplicities.specs.Counting.{Countable}

pub countable : {m n : ℕ} {f roots' mults : List ℕ} (roots : List ℕ) → PolynomialIn m f → n ≡ length (roots_at m f) → roots' ≡ copied (roots_at m f) roots → limit ≤ length mults
    → Countable m f (take n roots') mults
countable {m} {n} {f} {roots'} {mults} roots p e h l =
    let all : take n roots' ≡ roots_at m f = ap (take n) h ∙ copied-front (roots_at m f) roots (sym e) in
    record { polynomial = p; all = all; room = omega (arith, ap length all, roots_few p) }
