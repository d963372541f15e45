-- DEMAND 3, of begun tables: what is promised of the table after each step and of the number of steps, over the field
-- degree m, the cutoff c and the roots. The law that it holds in each known field, at each cutoff from 1, for the
-- roots of each polynomial, is `demand-3`.
--   groups_after  the table after n steps, told by groups
--   step_count    how many groups, levels 0 to m-1, have more than c members: the number of steps
--   steps_at      the same of a polynomial's roots, at the cutoff in force
--   groups_under  the slots of the table after n steps, told by the groups of a polynomial's roots, under a limit
--   groups_slots  those of a new table
--   Demand3      all of it: the table after each step, the order of factors, the levels, the steps to "done", no
--                refusal, the bound, finish, the slots
-- Assumes nothing.
use Rattle.std.specs.Prelude.{◌≡◌, Bool, true, false, List, map, ℕ, suc, ◌*◌, ◌/◌, ◌≤◌, ◌<◌, length}
use Rattle.algebra.specs.Trial.{All}
use Rattle.algebra.specs.Routines.{monic_roots}
use Rattle.field.specs.Rows.{known}
use Rattle.field.specs.Field.{roots_at, G}
use Rattle.input.specs.Cutoff.{highest_cutoff, in_force}
use Rattle.input.specs.Limit.{limit}
use Rattle.table_rules.specs.Groups.{InOrder, group, group_count}
use Rattle.table_rules.specs.Layout.{Layout, Lawful, by_factor}
use Rattle.table_rules.specs.Table.{Table, slots_for, encode, sound}
use Rattle.table_rules.specs.Splitting.{is_done, stuck, table_after, begun_table}
use Rattle.table_rules.specs.Splitting.{grouped_table, finished, trace_bit_at, halving_at, slots_after}

abbrev pub groups_after : ℕ → ℕ → List ℕ → ℕ → Table
groups_after m c roots n = grouped_table (G m) m 2 c roots n

abbrev pub step_count : ℕ → ℕ → List ℕ → ℕ
step_count m c roots = group_count (trace_bit_at m) c m roots

-- of a polynomial, at the cutoff that is asked for
abbrev pub steps_at : ℕ → ℕ → List ℕ → ℕ
steps_at m c f = step_count m (in_force c) (roots_at m f)

-- in the house's layout
abbrev pub groups_under : ℕ → ℕ → ℕ → List ℕ → ℕ → List ℕ
groups_under limit m c f n = encode by_factor (slots_for limit) (groups_after m c (roots_at m f) n)

-- and size
abbrev pub groups_slots : ℕ → ℕ → List ℕ → ℕ → List ℕ
groups_slots m c f n = groups_under limit m c f n

pub record Demand3 (m c : ℕ) (roots : List ℕ) : Type 0 where
  -- THE TABLE AFTER n STEPS, from begin's one factor over all roots, is the table of the groups after n steps: the
  -- first group above c is parted by its next trace bit, 0 before 1, and the others are untouched
  pub each : (n : ℕ) → table_after (halving_at m) n (begun_table m c (monic_roots (G m) roots)) ≡ groups_after m c roots n
  -- its factors are the products over groups, in ascending order of trace bits, each at the level of its group
  pub order : (n : ℕ)
      → (ws : List (List Bool)) × InOrder ws × All (λ w. 0 < length (group (trace_bit_at m) w roots)) ws
      × ((groups_after m c roots n).factors ≡ map (λ w. (length w, monic_roots (G m) (group (trace_bit_at m) w roots))) ws)
  -- level m is never passed
  pub level : (n : ℕ) → All (λ e. e.0 ≤ m) (groups_after m c roots n).factors
  -- THE STEPS TO "DONE" are as many as there are groups above c: after fewer the table is not done, and 9 is not met;
  -- after as many it is done
  pub before : (n : ℕ) → n < step_count m c roots → (is_done (groups_after m c roots n) ≡ false)
      × (stuck (groups_after m c roots n) ≡ false)
  pub end : is_done (groups_after m c roots (step_count m c roots)) ≡ true
  -- they are at most m times the whole part of s/(c+1)
  pub bound : step_count m c roots ≤ m * (length roots / suc c)
  -- finish lists the roots
  pub finish : (n : ℕ) → finished (G m) (groups_after m c roots n) ≡ roots
  -- in slots, of any layout and any limit that has room for the roots: sound after each step, and a step goes from one
  -- to the next
  pub sounds : {Y : Layout} → Lawful Y → (limit : ℕ) → c ≤ highest_cutoff → length roots ≤ limit → (n : ℕ)
      → n ≤ step_count m c roots
      → sound Y known limit (encode Y (slots_for limit) (groups_after m c roots n)) ≡ true
  pub slots : {Y : Layout} → Lawful Y → (limit : ℕ) → c ≤ highest_cutoff → length roots ≤ limit → (n : ℕ)
      → n ≤ step_count m c roots
      → slots_after Y n (encode Y (slots_for limit) (groups_after m c roots 0))
      ≡ encode Y (slots_for limit) (groups_after m c roots n)
