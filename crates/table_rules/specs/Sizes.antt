-- The tables that the house's limits make: a table's size says which limit it is under, and when it is sound.
--   slots        the slots of a new table: 196
--   stored_limit  the highest sum of degrees in a table that was stored before the limit rose: 32
--   stored_slots  the slots of such a table: 100
--   is_table_size  does some table have n slots?
--   limit_for     the limit that a table of n slots is under;  limit_by  that of the table itself
--   two_factors   the slots of two factors: two heads, and as many coefficients as there can be
--   is_sound      the rules for a table (docs/RULES.md section 4.5), in its layout and under its limit, over the known
--                fields
-- Assumes nothing.
use Rattle.std.specs.Prelude.{Bool, cond, ◌||◌, List, ℕ, ◌+◌, ◌*◌, eqb, length}
use Rattle.field.specs.Rows.{known}
use Rattle.input.specs.Limit.{limit}
use Rattle.table_rules.specs.Layout.{factor_slots, by_factor}
use Rattle.table_rules.specs.Table.{slots_for, sound}

abbrev pub slots : ℕ
slots = slots_for limit

abbrev pub stored_limit : ℕ
stored_limit = 32

abbrev pub stored_slots : ℕ
stored_slots = slots_for stored_limit

unfoldable pub is_table_size : ℕ → Bool
is_table_size n = eqb n stored_slots || eqb n slots

-- that of new tables, but for the size of a stored one
unfoldable pub limit_for : ℕ → ℕ
limit_for n = cond (eqb n stored_slots) stored_limit limit

abbrev pub limit_by : List ℕ → ℕ
limit_by l = limit_for (length l)

abbrev pub two_factors : ℕ
two_factors = 2 * factor_slots + limit

abbrev pub is_sound : List ℕ → Bool
is_sound l = sound by_factor known (limit_by l) l
