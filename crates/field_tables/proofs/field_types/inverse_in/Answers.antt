-- `field_tables::field_types::inverse_in` meets its contract: a known field is told by its degree.
-- Assumes nothing.
use mathlib.Core.Path.{◌≡◌, sym, subst}
use Prim.Native.Nat.{ℕ, ◌<◌, ◌^◌}
use borrow.Author.Rules.{rules}
use Rattle.field.proofs.Known.{last_row}
use Rattle.field.specs.Field.{field_at, inverse}
use Rattle.field_tables.proofs.field_types.inverse_in.Goals as goal

within : {m n : ℕ} (a : ℕ) → m ≡ n → (0 < a) × (a < 2 ^ m) → (0 < a) × (a < 2 ^ n)
within a e h = (h.0, subst (λ (k : ℕ). a < 2 ^ k) e h.1)

carried : {m n : ℕ} (a : ℕ) {r : ℕ} → m ≡ n → r ≡ inverse (field_at n) a → r ≡ inverse (field_at m) a
carried a {r} e h = subst (λ (k : ℕ). r ≡ inverse (field_at k) a) (sym e) h

pub inverse-requires : goal.inverse-requires
inverse-requires c = within _ c.in-4.is (c.requires.1, c.requires.2)

pub inverse-requires-in-8 : goal.inverse-requires-in-8
inverse-requires-in-8 c = within _ c.in-8.is (c.requires.1, c.requires.2)

pub inverse-requires-in_default : goal.inverse-requires-in_default
inverse-requires-in_default c =
    let e = last_row _ c.requires.0 (search rules) (search rules) in
    within _ e (c.requires.1, c.requires.2)

pub returns-in-4 : goal.returns-in-4
returns-in-4 c = carried _ c.in-4.is c.inverse.ensures

pub returns-in-8 : goal.returns-in-8
returns-in-8 c = carried _ c.in-8.is c.inverse-in-8.ensures

pub returns-in_default : goal.returns-in_default
returns-in_default c =
    let e = last_row _ c.requires.0 (search rules) (search rules) in
    carried _ e c.inverse-in_default.ensures
