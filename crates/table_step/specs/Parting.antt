-- What the routines of a step take and leave.
--   Splittable   the factor p at a level can be split: it is within the rules and below level m
--   Partable     the same with a polynomial t that has the greatest common divisor with p that Tr(a^i z) has
--   Parted       the parts of the factor p stand at the front of w, in r slots
--   StepReady    the factor at o of a table is the one that a step splits, and such a polynomial t is lent
-- Assumes nothing.
use Rattle.std.specs.Prelude.{◌≡◌, List, ℕ, ◌^◌, ◌≤◌, ◌<◌, length, take}
use Rattle.algebra.specs.Polynomial.{Below}
use Rattle.algebra.specs.Routines.{gcd}
use Rattle.field.specs.Field.{G}
use Rattle.input.specs.Limit.{limit}
use Rattle.table_rules.specs.Entries.{parts}
use Rattle.table_rules.specs.Layout.{blocks}
use Rattle.table_rules.specs.Splitting.{halving_at}
use Rattle.table_slots.specs.Slots.{width_of, level_at, factor_at}
use Rattle.table_slots.specs.Verdicts.{Chosen}

-- over the field of degree m
pub record Splittable (m : ℕ) (p : List ℕ) (i : ℕ) : Type 0 where
  pub small : Below (2 ^ m) p
  pub few : length p ≤ limit
  pub level : i < m

-- t stands for Tr(a^i z)
pub record Partable (m : ℕ) (p : List ℕ) (i : ℕ) (t : List ℕ) : Type 0 where
  pub splittable : Splittable m p i
  pub small : Below (2 ^ m) t
  pub few : length t ≤ limit
  pub same : gcd (G m) p t ≡ (halving_at m).low i p

-- one level further
pub record Parted (m i : ℕ) (p : List ℕ) (r : ℕ) (w : List ℕ) : Type 0 where
  pub slots : take r w ≡ blocks (parts (halving_at m) (i, p))
  pub count : r ≡ length (blocks (parts (halving_at m) (i, p)))

-- m is the degree of the table's field, and the level that of the factor
pub record StepReady (m : ℕ) (l : List ℕ) (o : ℕ) (t : List ℕ) : Type 0 where
  pub chosen : Chosen l o
  pub width : m ≡ width_of l
  pub small : Below (2 ^ m) t
  pub few : length t ≤ limit
  pub same : gcd (G m) (factor_at l o) t ≡ (halving_at m).low (level_at l o) (factor_at l o)
