-- The house default, over its value: what changes where it is raised.
--   DEFAULT-STEPS   under a higher house default step numbers fall or stay equal
--   DEFAULT-ROOTS   and the roots do not move
-- Assumes nothing.
use mathlib.Core.Path.{◌≡◌, sym, ◌∙◌}
use mathlib.Core.Bool.{true}
use mathlib.Core.List.{List}
use Prim.Native.Nat.{ℕ, ◌≤◌}
use Rattle.field.specs.Rows.{known}
use Rattle.field.specs.Field.{roots_at, G}
use Rattle.input.specs.Cutoff.{in_force_by}
use Rattle.input.proofs.Cutoff.{in_force-least, in_force-rises}
use Rattle.table_rules.specs.Splitting.{finished, trace_bit_at}
use Rattle.table_rules.proofs.Counting.{count-falls}
use Rattle.table_rules.specs.Demand.{groups_after, step_count}
use Rattle.table_rules.proofs.Demand.{demand-3}

-- STEP NUMBERS fall or stay equal
pub default-steps : (m d e c : ℕ) (roots : List ℕ) → d ≤ e → step_count m (in_force_by e c) roots ≤ step_count m (in_force_by d c) roots
default-steps m d e c roots h = count-falls (trace_bit_at m) (in_force_by d c) (in_force_by e c) m roots (in_force-rises d e c h)

-- whatever steps were taken under each
pub default-roots : (m : ℕ) → known m ≡ true → (d e c : ℕ) → 1 ≤ d → 1 ≤ e → (f : List ℕ) (n k : ℕ)
    → finished (G m) (groups_after m (in_force_by d c) (roots_at m f) n) ≡ finished (G m) (groups_after m (in_force_by e c) (roots_at m f) k)
default-roots m field d e c hd he f n k =
    (demand-3 m field (in_force_by d c) (in_force-least d c hd) f).finish n ∙ sym ((demand-3 m field (in_force_by e c) (in_force-least e c he) f).finish k)
