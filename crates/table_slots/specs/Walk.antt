-- What the passes over the slots compute, as functions of lists that follow the code.
--   front_slots  the slots of the factor at the front of s where it is within the rules and its degree at most `room`
--   tally       the sum of the degrees where n factors within the rules stand in s, and then zeros
--   seek        the place of the first of n factors, from the place `at` on, whose degree is above c
--   sought_in    that of all factors of a table
--   summed      the sum of the degrees, where the table is sound
-- Assumes nothing.
use Rattle.std.specs.Prelude.{cond, Option, Some, None, List, ℕ, zero, suc, ◌+◌, leb, ltb, length, get_or}
use Rattle.table_rules.specs.Layout.{factor_slots, degree_sum, stated_sum, by_factor, read_blocks, fair_front, fair_blocks}
use Rattle.table_rules.specs.Table.{head_slots, decode}
use Rattle.table_rules.specs.Sizes.{is_sound}
use Rattle.table_slots.specs.Slots.{count_of, degree_at}

-- its degree, and those of its head
unfoldable pub front_slots : ℕ → ℕ → List ℕ → Option ℕ
front_slots m room s = cond (fair_front m room s) (Some (get_or s 1 0 + factor_slots)) None

-- by the rules in one pass
unfoldable pub tally : ℕ → ℕ → ℕ → List ℕ → Option ℕ
tally m limit n s = cond (fair_blocks m limit n s) (Some (stated_sum (read_blocks n s))) None

-- by the degrees alone
unfoldable pub seek : ℕ → List ℕ → ℕ → ℕ → Option ℕ
seek c s zero at = None
seek c s (suc n) at =
    cond (leb (length s) (at + 1)) None
    (cond (ltb c (degree_at s at)) (Some at)
    (seek c s n (at + (degree_at s at + factor_slots))))

-- as many as the head counts, behind it
abbrev pub sought_in : ℕ → List ℕ → Option ℕ
sought_in c l = seek c l (count_of l) head_slots

-- of the factors that the slots hold
unfoldable pub summed : List ℕ → Option ℕ
summed l = cond (is_sound l) (Some (degree_sum (decode by_factor l).factors)) None
