-- Which slot of a work table holds what, and what is written to slots.
--   width_of, cutoff_of, count_of, taken_of   the head: field degree, cutoff in force, number of factors, steps taken
--   Heads        it is told
--   level_at, degree_at, factor_at   the level, the degree and the coefficients of the factor at o
--   next_at       the place behind it
--   StandsWhole       it is within the slots, whole
--   Appended     a factor was written to w at `at` unless it is constant, and r is the place behind it
--   Replaceable  the factor at o can give way to parts whose slots are `new`, one or two of them
--   replaced_at   the slots after that: the parts in its place, the factors counted again, and the step counted
-- Assumes nothing.
use Rattle.std.specs.Prelude.{◌≡◌, List, ℕ, ◌+◌, ◌-◌, ◌*◌, ◌/◌, ◌≤◌, ◌<◌, length, get_or, take, drop, set}
use Rattle.slices.specs.Lists.{pasted, spliced}
use Rattle.input.specs.Limit.{limit, widest}
use Rattle.table_rules.specs.Entries.{unless_empty}
use Rattle.table_rules.specs.Layout.{factor_slots, blocks}
use Rattle.table_slots.specs.declared.Head.{Head}

-- ---- the head

abbrev pub width_of : List ℕ → ℕ
width_of l = get_or l 0 0

abbrev pub cutoff_of : List ℕ → ℕ
cutoff_of l = get_or l 1 0

abbrev pub count_of : List ℕ → ℕ
count_of l = get_or l 2 0

abbrev pub taken_of : List ℕ → ℕ
taken_of l = get_or l 3 0

pub record Heads (l : List ℕ) (h : Head) : Type 0 where
  pub width : h.m ≡ width_of l
  pub cutoff : h.cutoff ≡ cutoff_of l
  pub count : h.factors ≡ count_of l
  pub taken : h.steps ≡ taken_of l

-- ---- a factor

abbrev pub level_at : List ℕ → ℕ → ℕ
level_at l o = get_or l o 0

abbrev pub degree_at : List ℕ → ℕ → ℕ
degree_at l o = get_or l (o + 1) 0

-- as many as its degree says
abbrev pub factor_at : List ℕ → ℕ → List ℕ
factor_at l o = take (degree_at l o) (drop (o + factor_slots) l)

abbrev pub next_at : List ℕ → ℕ → ℕ
next_at l o = o + factor_slots + degree_at l o

abbrev pub StandsWhole : List ℕ → ℕ → Type 0
StandsWhole l o = next_at l o ≤ length l

-- ---- what is written

-- its slots, and nothing else
pub record Appended (at i : ℕ) (low w : List ℕ) (r : ℕ) (w' : List ℕ) : Type 0 where
  pub slots : w' ≡ pasted at (blocks (unless_empty i low)) w
  pub place : r ≡ at + length (blocks (unless_empty i low))

-- with room for the head of one factor more
pub record Replaceable (l : List ℕ) (o : ℕ) (new : List ℕ) : Type 0 where
  pub some : 1 ≤ count_of l
  pub count : count_of l ≤ limit
  pub taken : taken_of l < widest * limit
  pub room : next_at l o + factor_slots ≤ length l
  pub least : degree_at l o + factor_slots ≤ length new
  pub most : length new ≤ degree_at l o + 2 * factor_slots

-- two slots for each part, and the coefficients
abbrev pub replaced_at : ℕ → List ℕ → List ℕ → List ℕ
replaced_at o new l =
    set
    (set (spliced o (degree_at l o + factor_slots) new l) 2 (count_of l - 1 + (length new - degree_at l o) / factor_slots))
    3 (taken_of l + 1)
