-- The whole call's engine, over the tables of a field of degree m.
--   Stepping     a table that begin made of an accepted polynomial and our steps alone wrote
--   level_sum     Tr(a^i z) modulo the polynomial, as a sum of rows;  level_sums  those of the levels below k, one
--                behind the other
--   Traced       traces hold the sums of the levels below k, and zeros behind;  Traceable, TracedTo  up to a level
--   Reached      the sums of a polynomial are those up to a level
--   held_at      that of a level, where it stands;  Held  it does
--   Running      what the engine may take for granted;  RunOut  what it leaves: the table after as many steps as
--                groups outnumber c
--   Solvable, SolvedOut   the same from a polynomial that passed its tests to the list: the roots at its front, their
--                         number and that of the steps
--   SolvedAtAny  the list is the same at every cutoff from 1 on
--   AtMostLinear        a polynomial that was let in has n coefficients up to its leading one, at most 2
-- Assumes nothing.
use Rattle.std.specs.Prelude.{◌≡◌, true, List, [], ◌++◌, ℕ, zero, suc, ◌+◌, ◌-◌, ◌*◌, ◌≤◌, ◌<◌, length, take, drop, replicate}
use Rattle.algebra.specs.Field.{power}
use Rattle.algebra.specs.Polynomial.{add}
use Rattle.field.specs.Rows.{known}
use Rattle.input.specs.Cutoff.{highest_cutoff}
use Rattle.input.specs.Limit.{limit}
use Rattle.input.specs.Polynomials.{PolynomialIn}
use Rattle.table_rules.specs.Demand.{step_count, groups_slots}
use Rattle.poly.specs.Lent.{LogRow}
use Rattle.poly.specs.Monic.{TopIs}
use Rattle.poly_powers.specs.Powers.{trace_sum}
use Rattle.slices.specs.Lists.{copied}
use Rattle.field.specs.Field.{field_at, G, roots_at}
use Rattle.field.specs.Tables.{Halves}
use Rattle.table_slots.specs.Slots.{taken_of}
use Rattle.table_begin.specs.SplitPart.{Powered}
use Rattle.find_solve.specs.declared.Solved.{Solved}
use Rattle.find_solve.specs.declared.Sums.{Sums}

pub record Stepping (m c : ℕ) (f table : List ℕ) : Type 0 where
  pub field : known m ≡ true
  pub least : 1 ≤ c
  pub most : c ≤ highest_cutoff
  pub few : length (roots_at m f) ≤ limit
  pub taken : taken_of table ≤ step_count m c (roots_at m f)
  pub slots-are : table ≡ groups_slots m c f (taken_of table)

-- a sum of rows is added to zeros
unfoldable pub level_sum : ℕ → ℕ → List ℕ → ℕ → List ℕ
level_sum m n rows i = add (G m) (replicate n 0) (trace_sum m n m (power (G m) 2 i) rows)

unfoldable pub level_sums : ℕ → ℕ → List ℕ → ℕ → List ℕ
level_sums m n rows zero = []
level_sums m n rows (suc k) = level_sums m n rows k ++ level_sum m n rows k

pub record Traced (m n : ℕ) (rows : List ℕ) (k : ℕ) (traces : List ℕ) : Type 0 where
  pub front : take (k * n) traces ≡ level_sums m n rows k
  pub rest : drop (k * n) traces ≡ replicate (length traces - k * n) 0

-- with rows and room for all levels
pub record Traceable (m n : ℕ) (rows traces : List ℕ) (k i : ℕ) : Type 0 where
  pub logs : LogRow m rows
  pub rows_long : m * n ≤ length rows
  pub room : m * n ≤ length traces
  pub within : k ≤ m
  pub level : i < m
  pub traced : Traced m n rows k traces

pub record TracedTo (m n : ℕ) (rows : List ℕ) (i k : ℕ) (traces : List ℕ) : Type 0 where
  pub above : i < k
  pub within : k ≤ m
  pub traced : Traced m n rows k traces

-- the rows stay
pub record Reached (m : ℕ) (s : Sums) (i : ℕ) (s' : Sums) : Type 0 where
  pub places : s'.n ≡ s.n
  pub rows_are : s'.rows.now ≡ s.rows.now
  pub long : length s'.traces ≡ length s.traces
  pub traced : TracedTo m s.n s.rows.now i s'.ready s'.traces

-- the place of a level
abbrev pub held_at : Sums → ℕ → List ℕ
held_at s i = take s.n (drop (i * s.n) s.traces)

abbrev pub Held : Sums → ℕ → Type 0
Held s i = i * s.n + s.n ≤ length s.traces

pub record Running (m c : ℕ) (f : List ℕ) (n : ℕ) (rows table : List ℕ) : Type 0 where
  pub polynomial : PolynomialIn m f
  pub powers : Powered m f n rows
  pub stepping : Stepping m c f table

pub record RunOut (m c : ℕ) (f table : List ℕ) : Type 0 where
  pub slots-are : table ≡ groups_slots m c f (step_count m c (roots_at m f))

pub record Solvable (m c : ℕ) (f hs roots : List ℕ) : Type 0 where
  pub polynomial : PolynomialIn m f
  pub least : 1 ≤ c
  pub most : c ≤ highest_cutoff
  pub halves : Halves (field_at m) hs
  pub room : limit ≤ length roots

pub record SolvedOut (m c : ℕ) (f roots : List ℕ) (r : Solved) (roots' : List ℕ) : Type 0 where
  pub count : r.s ≡ length (roots_at m f)
  pub steps : r.steps ≡ step_count m c (roots_at m f)
  pub slots-are : roots' ≡ copied (roots_at m f) roots

-- the count of steps is 0 then
abbrev pub SolvedAtAny : ℕ → List ℕ → List ℕ → Solved → List ℕ → Type 0
SolvedAtAny m f roots r roots' = (c : ℕ) → 1 ≤ c → SolvedOut m c f roots r roots'

pub record AtMostLinear (m : ℕ) (f : List ℕ) (n : ℕ) : Type 0 where
  pub polynomial : PolynomialIn m f
  pub top : TopIs f n
  pub low : n ≤ 2
