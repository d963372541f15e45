-- The definitions compute: figures of docs/RULES.md section 10 in the field of 16 elements, by evaluation.
--   counts-three, counts_all   the steps of the roots 1, 2, 3, and of all 16 elements, at cutoffs 1, 2, 3
--   table-three                the table of 1, 2, 3 after step 3
--   sound-at-limit             slot 3 at its limit is sound;  unsound-steps  above it is not;  unsound-last  the last
--                              slot is looked at
-- Assumes nothing.
use mathlib.Core.Path.{◌≡◌, refl}
use mathlib.Core.Bool.{true, false}
use mathlib.Core.List.{[], ◌∷◌, ◌++◌, map}
use lib.ListN.{take}
use Rattle.algebra.specs.Field.{power, trace}
use Rattle.algebra.specs.Trial.{up_from}
use Rattle.algebra.specs.Polynomial.{add, mul, from_roots}
use Rattle.algebra.specs.Routines.{monic_roots}
use Rattle.field.specs.Rows.{known, known_in, poly_in}
use Rattle.slices.specs.Bounded.{all_below}
use Rattle.field.specs.Field as F
use Rattle.table_rules.specs.Entries.{unless_empty, parts, split_entries, first_above, step, steps}
use Rattle.table_rules.specs.Groups.{bit_words, sum_below, agrees, groups_at, group_count}
use Rattle.table_rules.specs.Layout.{stated_sum, blocks, read_blocks, rest_blocks, by_factor}
use Rattle.table_rules.specs.Table.{padded, every, encode, sound}
use Rattle.table_rules.specs.Demand.{groups_after, step_count}

-- roots 1, 2, 3: steps 4, 3, 0 at cutoffs 1, 2, 3
counts-three : map (λ c. step_count 4 c (1 ∷ 2 ∷ 3 ∷ [])) (1 ∷ 2 ∷ 3 ∷ []) ≡ 4 ∷ 3 ∷ 0 ∷ []
unfolding power trace F.mul poly_in bit_words sum_below agrees groups_at group_count
counts-three = refl

-- all 16 elements: 15, 7, 7
counts_all : map (λ c. step_count 4 c (up_from 0 16)) (1 ∷ 2 ∷ 3 ∷ []) ≡ 15 ∷ 7 ∷ 7 ∷ []
unfolding power trace F.mul poly_in bit_words sum_below agrees groups_at group_count up_from
counts_all = refl

-- at cutoff 1 the table after step 3 begins 4,1,2,3, 3,1,1, 3,2,6,1
table-three : take 12 (encode by_factor 100 (groups_after 4 1 (1 ∷ 2 ∷ 3 ∷ []) 3)) ≡ 4 ∷ 1 ∷ 2 ∷ 3 ∷ 3 ∷ 1 ∷ 1 ∷ 3 ∷ 2 ∷ 6 ∷ 1 ∷ 0 ∷ []
unfolding power trace F.mul poly_in unless_empty parts split_entries first_above step steps encode blocks monic_roots from_roots mul add
table-three = refl

-- a table in the field of 16 elements, cutoff 2, one factor of degree 5: slot 3 may be 4 times the whole part of 5/3,
-- which is 4
sound-at-limit : sound by_factor known 32 (padded 100 (4 ∷ 2 ∷ 1 ∷ 4 ∷ 0 ∷ 5 ∷ 1 ∷ 2 ∷ 3 ∷ 4 ∷ 15 ∷ [])) ≡ true
unfolding sound read_blocks rest_blocks stated_sum every all_below known_in
sound-at-limit = refl

-- and no more
unsound-steps : sound by_factor known 32 (padded 100 (4 ∷ 2 ∷ 1 ∷ 5 ∷ 0 ∷ 5 ∷ 1 ∷ 2 ∷ 3 ∷ 4 ∷ 15 ∷ [])) ≡ false
unfolding sound read_blocks rest_blocks stated_sum every all_below known_in
unsound-steps = refl

-- the last slot is looked at
unsound-last : sound by_factor known 32 (padded 99 (4 ∷ 1 ∷ 0 ∷ 0 ∷ []) ++ 1 ∷ []) ≡ false
unfolding sound read_blocks rest_blocks stated_sum every all_below known_in
unsound-last = refl
