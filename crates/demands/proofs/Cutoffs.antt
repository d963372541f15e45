-- At a higher cutoff the lists of the whole call do not move, and its steps fall or stay equal.
--   higher        of any two cutoffs from 0 to 3, by what is in force
--   house-higher  of cutoff 2 and the house default, 3
-- Assumes nothing.
use mathlib.Core.Path.{◌≡◌, sym, ap, ◌∙◌}
use mathlib.Core.Bool.{Bool}
use mathlib.Core.List.{List, ◌∷◌}
use Prim.Native.Nat.{ℕ, ◌≤◌}
use native.Mathlib.Omega.{arith}
use borrow.Author.Tests.{le-ltb}
use Rattle.field.specs.Field.{roots_at}
use Rattle.input.specs.Cutoff.{highest_cutoff, in_force_by, in_force}
use Rattle.input.specs.Polynomials.{polynomial_tests}
use Rattle.input.specs.RootMemory.{room_tests, root_memory, multiplicity_memory}
use Rattle.table_rules.specs.Splitting.{trace_bit_at}
use Rattle.table_rules.proofs.Counting.{count-falls}
use Rattle.find_solve.specs.Calls.{solve_tests}
use Rattle.demands.specs.Cutoffs.{Higher}

-- THE LAW: neither is refused for its cutoff, and the second is no lower
pub higher : (m c d : ℕ) (f list mults : List ℕ) → c ≤ highest_cutoff → d ≤ highest_cutoff → in_force c ≤ in_force d
    → Higher m c d f list mults
higher m c d f list mults hc hd h = record {
  lists = λ r s x y u v p q. (
    p.list ∙ ap (λ t. root_memory t m f list) same ∙ sym q.list,
    p.beside ∙ ap (λ t. multiplicity_memory t m f mults) same ∙ sym q.beside,
  );
  steps = count-falls (trace_bit_at m) (in_force c) (in_force d) m (roots_at m f) h;
}
  where
    same : solve_tests m c f list mults ≡ solve_tests m d f list mults
    same = ap (λ (b : Bool). polynomial_tests m f ((6, b) ∷ room_tests list mults)) (le-ltb highest_cutoff c hc ∙ sym (le-ltb highest_cutoff d hd))

-- what 0 stands for is no lower than 2
house-above : in_force 2 ≤ in_force 0
unfolding in_force_by
house-above = omega arith

-- THE HOUSE DEFAULT beside 2
pub house-higher : (m : ℕ) (f list mults : List ℕ) → Higher m 2 0 f list mults
house-higher m f list mults = higher m 2 0 f list mults (omega arith) (omega arith) house-above
