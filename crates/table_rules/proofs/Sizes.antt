-- A table's size says which limit it is under.
--   limit-most    no table's limit is above that of new tables
--   limit-new, limit-stored   a table as begin writes it is under the limit of new tables, a stored one under its own
--   size-exactly  a table has the slots that its limit makes, and no other number
--   sound-size    so has a sound table
--   sound-under   what is sound under the limit of its size is sound
-- Assumes nothing.
use mathlib.Core.Path.{◌≡◌, refl, ap, ◌∙◌}
use mathlib.Core.Logic.{◌↔◌}
use mathlib.Core.Bool.{Bool, true, false, cond, ◌||◌}
use mathlib.Core.List.{List}
use Prim.Native.Nat.{ℕ, ◌≤◌}
use native.Mathlib.Omega.{arith}
use borrow.Author.Tests.{eqb-true, eq-eqb}
use lib.Dec.{eqb}
use lib.ListN.{length}
use Rattle.field.specs.Rows.{known}
use Rattle.input.specs.Limit.{limit}
use Rattle.table_rules.specs.Layout.{by_factor}
use Rattle.table_rules.specs.Table.{slots_for, sound}
use Rattle.table_rules.specs.Sizes.{slots, stored_limit, stored_slots, is_table_size, limit_for, limit_by, is_sound}
use Rattle.table_rules.proofs.Keeping.{sound-length}
use Rattle.table_rules.proofs.Layouts.{by_factor-lawful}

-- of either
pub limit-most : (n : ℕ) → limit_for n ≤ limit
unfolding limit_for
limit-most n = go (eqb n stored_slots)
  where
    go : (b : Bool) → cond b stored_limit limit ≤ limit
    go true = omega arith
    go false = omega arith

-- the sizes differ
pub limit-new : {n : ℕ} → n ≡ slots → limit_for n ≡ limit
unfolding limit_for
limit-new {n} e = ap limit_for e

-- by the size that it makes
pub limit-stored : limit_for (slots_for stored_limit) ≡ stored_limit
unfolding limit_for
limit-stored = refl

-- the size of a stored table, or that of a new one
pub size-exactly : (n : ℕ) → (is_table_size n ≡ true) ↔ (n ≡ slots_for (limit_for n))
unfolding is_table_size limit_for
size-exactly n = go (eqb n stored_slots) refl
  where
    go : (b : Bool) → eqb n stored_slots ≡ b → ((b || eqb n slots) ≡ true) ↔ (n ≡ slots_for (cond b stored_limit limit))
    go true e = ((λ _. eqb-true n stored_slots e), (λ _. refl))
    go false e = (eqb-true n slots, eq-eqb n slots)

-- by the first of its rules
pub sound-size : (l : List ℕ) → is_sound l ≡ true → length l ≡ slots_for (limit_by l)
sound-size l s = sound-length by_factor-lawful (limit_by l) l s

-- a table that is sound under a limit is sound, if the limit is that of its size
pub sound-under : (lim : ℕ) → limit_for (slots_for lim) ≡ lim → (l : List ℕ) → sound by_factor known lim l ≡ true → is_sound l ≡ true
sound-under lim own l s =
    let e : limit_by l ≡ lim = ap limit_for (sound-length by_factor-lawful lim l s) ∙ own in
    ap (λ n. sound by_factor known n l) e ∙ s
