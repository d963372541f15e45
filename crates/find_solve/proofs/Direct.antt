-- Degrees 1 to 4 of field 11 without a table.
--   leading_at     a polynomial of that field that was let in, with its leading coefficient
--   direct-within  the roots stand in their list;  direct-below  they are elements
--   direct-out     the roots, and the steps that are counted from them;  direct-at  the same over the field's degree
--   traced-after   the same by traces, in a list that is as it was
-- Assumes nothing.
use mathlib.Core.Path.{◌≡◌, sym, ap, ◌∙◌, subst}
use mathlib.Core.List.{List}
use Prim.Native.Nat.{ℕ, ◌≤◌}
use native.Mathlib.Omega.{arith}
use lib.ListN.{length, take}
use Rattle.algebra.specs.Polynomial.{Below}
use Rattle.algebra.proofs.StaysBelow.{roots_of-below}
use Rattle.field.specs.Field.{G, roots_at}
use Rattle.poly.specs.Monic.{TopIs}
use Rattle.slices.proofs.Lists.{length-copied, copied-front}
use Rattle.input.specs.Limit.{limit}
use Rattle.input.specs.Polynomials.{PolynomialIn}
use Rattle.input.proofs.Polynomials.{roots_few}
use Rattle.table_rules.specs.Demand.{step_count}
use Rattle.find_direct.specs.Listing.{Leading, Listed}
use Rattle.find_solve.specs.Solving.{SolvedOut}
use Rattle.find_solve.specs.declared.Solved.{Solved}

pub leading_at : {m n : ℕ} {f : List ℕ} → m ≡ 11 → PolynomialIn m f → TopIs f n → Leading n f
leading_at {f = f} e p t = record { polynomial = subst (λ (x : ℕ). PolynomialIn x f) e p; top = t }

module _ (f : List ℕ) {roots roots' : List ℕ} {k : ℕ} (l : Listed (roots_at 11 f) roots k roots') where
  front-is : take k roots' ≡ roots_at 11 f
  front-is = ap (take k) l.slots-are ∙ copied-front (roots_at 11 f) roots (sym l.count)

  pub direct-within : {n : ℕ} → Leading n f → limit ≤ length roots → k ≤ length roots'
  direct-within g h =
      let few : length (roots_at 11 f) ≤ length roots = omega (arith, roots_few g.polynomial) in
      omega (arith, l.count, ap length l.slots-are, length-copied (roots_at 11 f) roots few)

  pub direct-below : Below 2048 (take k roots')
  direct-below = subst (Below 2048) (sym front-is) (roots_of-below (G 11) 2048 f)

  pub direct-out : {c : ℕ} {r : Solved} → r.s ≡ k → r.steps ≡ step_count 11 c (take k roots') → SolvedOut 11 c f roots r roots'
  direct-out {c} e t = record { count = e ∙ l.count; steps = t ∙ ap (step_count 11 c) front-is; slots-are = l.slots-are }

pub direct-at : {m d c : ℕ} {f roots roots' : List ℕ} {r : Solved} → m ≡ d → SolvedOut d c f roots r roots' → SolvedOut m c f roots r roots'
direct-at {c = c} {f = f} {roots = roots} {roots' = roots'} {r = r} e s = subst (λ (x : ℕ). SolvedOut x c f roots r roots') (sym e) s

pub traced-after : {c : ℕ} {f roots roots₁ roots' : List ℕ} {r : Solved} → roots₁ ≡ roots → SolvedOut 11 c f roots₁ r roots' → SolvedOut 11 c f roots r roots'
traced-after {c = c} {f = f} {roots' = roots'} {r = r} e s = subst (λ (l : List ℕ). SolvedOut 11 c f l r roots') e s
