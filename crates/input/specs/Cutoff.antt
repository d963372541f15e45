-- The cutoff in force (docs/RULES.md section 3.2). A call and a record may give 0, which stands for the house default.
--   highest_cutoff above it a cutoff is refused
--   house_default  what 0 stands for
--   in_force_by d   the cutoff in force where the house default is d;  in_force  today's
-- Assumes nothing.
use Rattle.std.specs.Prelude.{cond, ℕ, eqb}

abbrev pub highest_cutoff : ℕ
highest_cutoff = 3

abbrev pub house_default : ℕ
house_default = 3

unfoldable pub in_force_by : ℕ → ℕ → ℕ
in_force_by d c = cond (eqb c 0) d c

abbrev pub in_force : ℕ → ℕ
in_force c = in_force_by house_default c
