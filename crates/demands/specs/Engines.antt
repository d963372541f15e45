-- Three ways to the roots: the trace engine (the whole call), a plain trial of every element (the search), and
-- successive resultants. Whatever their contracts admit is the same list.
--   Engines   on a polynomial that the whole call accepts, at the cutoff c
-- Assumes nothing.
use Rattle.std.specs.Prelude.{Result, Ok}
use Rattle.refusals.specs.declared.Refusal.{Refusal}
use Rattle.std.specs.Prelude.{◌≡◌, List, ℕ, ◌≤◌, length}
use Rattle.field.specs.Field.{roots_at}
use Rattle.input.specs.Limit.{limit}
use Rattle.input.specs.Polynomials.{PolynomialIn}
use Rattle.table_rules.specs.Demand.{steps_at}
use Rattle.find_solve.specs.Calls.{Solves}
use Rattle.find_solve.specs.declared.Solved.{Solved}
use Rattle.find_search.specs.Calls.{Searches}
use Rattle.find_search.specs.Searching.{SearchedOut}
use Rattle.demands.specs.Demand2.{Holds}

pub record Engines (m c : ℕ) (f list mults : List ℕ) : Type 0 where
  -- what successive resultants ask (find_resultants `find_in`) holds
  pub asked : PolynomialIn m f × (limit ≤ length list)
  -- successive resultants: whatever that contract admits
  pub resultants-give : (k : ℕ) (after : List ℕ) → SearchedOut m f list k after → (k ≡ length (roots_at m f)) × Holds (roots_at m f) list after
  -- all three tell the same number of roots, and leave the same list
  pub agree : (r : Result Solved Refusal) (s : Result ℕ Refusal) (k : ℕ) (x y z u v : List ℕ)
      → Solves m c f list mults r x u → Searches m f list mults s y v → SearchedOut m f list k z
      → (r ≡ Ok (record { s = k; steps = steps_at m c f })) × (s ≡ Ok k) × (x ≡ y) × (y ≡ z)
