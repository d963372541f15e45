-- `field_tables::field_types::roots_in` meets its contract: a known field is told by its degree.
-- Assumes nothing.
use mathlib.Core.Path.{◌≡◌, sym, subst}
use Prim.Native.Nat.{ℕ, ◌<◌, ◌^◌}
use borrow.Author.Rules.{rules}
use Rattle.field.proofs.Known.{last_row}
use Rattle.field.specs.Field.{field_at}
use Rattle.field.specs.Quadratics.{SolvesQuadratic}
use Rattle.field.specs.declared.solver.Quadratic.{Quadratic}
use Rattle.field_tables.proofs.field_types.roots_in.Goals as goal

within : {m n : ℕ} (a b : ℕ) → m ≡ n → (a < 2 ^ m) × (b < 2 ^ m) → (a < 2 ^ n) × (b < 2 ^ n)
within a b e h = subst (λ (k : ℕ). (a < 2 ^ k) × (b < 2 ^ k)) e h

carried : {m n : ℕ} (a b : ℕ) (r : Quadratic) → m ≡ n → SolvesQuadratic (field_at n) a b r → SolvesQuadratic (field_at m) a b r
carried a b r e h = subst (λ (k : ℕ). SolvesQuadratic (field_at k) a b r) (sym e) h

pub roots-requires : goal.roots-requires
roots-requires c = within _ _ c.in-4.is (c.requires.1, c.requires.2)

pub roots-requires-in-8 : goal.roots-requires-in-8
roots-requires-in-8 c = within _ _ c.in-8.is (c.requires.1, c.requires.2)

pub roots-requires-in_default : goal.roots-requires-in_default
roots-requires-in_default c = within _ _ (last_row _ c.requires.0 (search rules) (search rules)) (c.requires.1, c.requires.2)

pub returns-in-4 : goal.returns-in-4
returns-in-4 c = carried _ _ c.roots.result c.in-4.is c.roots.ensures

pub returns-in-8 : goal.returns-in-8
returns-in-8 c = carried _ _ c.roots-in-8.result c.in-8.is c.roots-in-8.ensures

pub returns-in_default : goal.returns-in_default
returns-in_default c = carried _ _ c.roots-in_default.result (last_row _ c.requires.0 (search rules) (search rules)) c.roots-in_default.ensures
