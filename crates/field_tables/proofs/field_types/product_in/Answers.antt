-- `field_tables::field_types::product_in` meets its contract: a known field is told by its degree.
-- Assumes nothing.
use mathlib.Core.Path.{◌≡◌, sym, subst}
use Prim.Native.Nat.{ℕ, ◌<◌, ◌^◌}
use borrow.Author.Rules.{rules}
use Rattle.field.proofs.Known.{last_row}
use Rattle.field.specs.Field.{field_at, mul}
use Rattle.field_tables.proofs.field_types.product_in.Goals as goal

within : {m n : ℕ} (b : ℕ) → m ≡ n → b < 2 ^ m → b < 2 ^ n
within b e h = subst (λ (k : ℕ). b < 2 ^ k) e h

carried : {m n : ℕ} (a b : ℕ) {r : ℕ} → m ≡ n → r ≡ mul (field_at n) a b → r ≡ mul (field_at m) a b
carried a b {r} e h = subst (λ (k : ℕ). r ≡ mul (field_at k) a b) (sym e) h

pub mul-requires : goal.mul-requires
mul-requires c = within _ c.in-4.is c.requires.1

pub mul-requires-in-8 : goal.mul-requires-in-8
mul-requires-in-8 c = within _ c.in-8.is c.requires.1

pub mul-requires-in_default : goal.mul-requires-in_default
mul-requires-in_default c =
    within _ (last_row _ c.requires.0 (search rules) (search rules)) c.requires.1

pub returns-in-4 : goal.returns-in-4
returns-in-4 c = carried _ _ c.in-4.is c.mul.ensures

pub returns-in-8 : goal.returns-in-8
returns-in-8 c = carried _ _ c.in-8.is c.mul-in-8.ensures

pub returns-in_default : goal.returns-in_default
returns-in_default c =
    let e = last_row _ c.requires.0 (search rules) (search rules) in
    carried _ _ e c.mul-in_default.ensures
