-- DEMAND 3: the splitting can be followed. From a table begun by an accepted polynomial and written by our steps
-- alone, each step parts the first group of roots above the cutoff by its next trace bit and leaves the rest be; the
-- steps to the end number exactly the groups, level by level, that outnumber the cutoff; never more than m times the
-- whole part of s/(c+1). All is over demand 2's root set.
--   After       a table is what so many calls of step leave of another, each admitted by the contract of step
--   Followed    step and finish from a table under a limit, begun by a polynomial that begin accepts, at the cutoff c:
--               whatever their contracts admit
--   stored_begun the table of 100 slots that begin left of a polynomial before the limit rose
-- Assumes nothing.
use Rattle.std.specs.Prelude.{Result, Ok}
use Rattle.refusals.specs.declared.Refusal.{Refusal}
use Rattle.std.specs.Prelude.{◌≡◌, List, ℕ, suc, ◌*◌, ◌/◌, ◌<◌, ◌≤◌, length}
use Rattle.slices.specs.Lists.{copied}
use Rattle.input.specs.Cutoff.{in_force}
use Rattle.input.specs.Limit.{limit as highest}
use Rattle.table_rules.specs.Sizes.{stored_limit}
use Rattle.field.specs.Field.{roots_at}
use Rattle.table_rules.specs.Demand.{Demand3, groups_under, steps_at}
use Rattle.table_step.specs.Calls.{Steps}
use Rattle.table_step.specs.declared.Stepped.{Stepped}
use Rattle.table_step.specs.declared.Stepped.TheVariants.{Taken, Done}
use Rattle.table_finish.specs.Calls.{Finishes}
use Rattle.find_solve.specs.Calls.{Solves}
use Rattle.find_solve.specs.declared.Solved.{Solved}

-- t is what n calls of step leave of the table: each is one that the contract of step admits
pub data After (table : List ℕ) : ℕ → List ℕ → Type 0 where
  start : After table 0 table
  call : {n : ℕ} {t : List ℕ} (u : List ℕ) (r : Result Stepped Refusal) → After table n t → Steps t r u → After table (suc n) u

-- by the groups of all roots: no step is taken yet
abbrev pub stored_begun : ℕ → ℕ → List ℕ → List ℕ
stored_begun m c f = groups_under stored_limit m (in_force c) f 0

-- begun is a table that begin leaves, or left when the limit was lower
pub record Followed (limit m c : ℕ) (f begun : List ℕ) : Type 0 where
  -- what the groups do: each step parts the first group above the cutoff by its next trace bit, their order, their
  -- count, the bound
  pub groups : Demand3 m (in_force c) (roots_at m f)
  -- the table after each step is that of the groups
  pub each : (n : ℕ) (t : List ℕ) → n ≤ steps_at m c f → After begun n t → t ≡ groups_under limit m (in_force c) f n
  -- as many steps are taken as there are groups above the cutoff; then the answer is "done", and nothing is written
  -- any more
  pub taken : (n : ℕ) (t u : List ℕ) (r : Result Stepped Refusal) → n < steps_at m c f → After begun n t → Steps t r u → r ≡ Ok Taken
  pub done : (n : ℕ) (t u : List ℕ) (r : Result Stepped Refusal) → steps_at m c f ≤ n → After begun n t → Steps t r u
      → (r ≡ Ok Done) × (u ≡ t)
  pub still : (n : ℕ) (t : List ℕ) → steps_at m c f ≤ n → After begun n t
      → t ≡ groups_under limit m (in_force c) f (steps_at m c f)
  -- never more than the bound
  pub bound : steps_at m c f ≤ m * (length (roots_at m f) / suc (in_force c))
  -- finish lists the roots, and the whole call gives the roots and steps of begin, steps until done, finish
  pub finish-gives : (t list : List ℕ) (r : Result ℕ Refusal) (after : List ℕ) → After begun (steps_at m c f) t
      → highest ≤ length list
      → Finishes t list r after → (r ≡ Ok (length (roots_at m f))) × (after ≡ copied (roots_at m f) list)
  pub whole-gives : (t list mults : List ℕ) (r : Result ℕ Refusal) (s : Result Solved Refusal) (x y u : List ℕ)
      → After begun (steps_at m c f) t
      → highest ≤ length list → highest ≤ length mults
      → Finishes t list r x → Solves m c f list mults s y u
      → (s ≡ Ok (record { s = length (roots_at m f); steps = steps_at m c f })) × (y ≡ x)
