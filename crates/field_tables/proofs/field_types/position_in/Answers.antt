-- `field_tables::field_types::position_in` meets its contract: a known field is told by its degree.
-- Assumes nothing.
use mathlib.Core.Path.{◌≡◌, sym, subst}
use Prim.Native.Nat.{ℕ, ◌<◌, ◌^◌}
use borrow.Author.Rules.{rules}
use Rattle.field.proofs.Known.{last_row}
use Rattle.field.specs.Field.{field_at, position}
use Rattle.field_tables.proofs.field_types.position_in.Goals as goal

within : {m n : ℕ} (r : ℕ) → m ≡ n → (0 < r) × (r < 2 ^ m) → (0 < r) × (r < 2 ^ n)
within r e h = (h.0, subst (λ (k : ℕ). r < 2 ^ k) e h.1)

carried : {m n : ℕ} (r : ℕ) {j : ℕ} → m ≡ n → j ≡ position (field_at n) r → j ≡ position (field_at m) r
carried r {j} e h = subst (λ (k : ℕ). j ≡ position (field_at k) r) (sym e) h

pub position-requires : goal.position-requires
position-requires c = within _ c.in-4.is (c.requires.1, c.requires.2)

pub position-requires-in-8 : goal.position-requires-in-8
position-requires-in-8 c = within _ c.in-8.is (c.requires.1, c.requires.2)

pub position-requires-in_default : goal.position-requires-in_default
position-requires-in_default c = within _ (last_row _ c.requires.0 (search rules) (search rules)) (c.requires.1, c.requires.2)

pub returns-in-4 : goal.returns-in-4
returns-in-4 c = carried _ c.in-4.is c.position.ensures

pub returns-in-8 : goal.returns-in-8
returns-in-8 c = carried _ c.in-8.is c.position-in-8.ensures

pub returns-in_default : goal.returns-in_default
returns-in_default c = carried _ (last_row _ c.requires.0 (search rules) (search rules)) c.position-in_default.ensures
