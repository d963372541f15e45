-- DEMAND 2: for every accepted polynomial the list holds each field element at which it is zero, once, ascending, and
-- no other, and the second list beside each its multiplicity, the largest e for which (z + r)^e divides it. The trace
-- engine and a plain trial of every element agree on both.
--   value_at    the value of a polynomial at an element of the field of degree m
--   RootsBy    a list is that of the elements at which a function is 0;  RootList  of the values of f
--   MultiplicityList   a list has beside each root its multiplicity
--   Holds      a list fills the front of a lent list, and what is behind it is as it was
--   Demand2    on a polynomial that they accept, at the cutoff c: whatever the contracts of the whole call and of the
--              search admit
-- Assumes nothing.
use Rattle.std.specs.Prelude.{Result, Ok}
use Rattle.refusals.specs.declared.Refusal.{Refusal}
use Rattle.std.specs.Prelude.{◌≡◌, ◌↔◌, ◌≢◌, ℕ, ◌^◌, ◌<◌, ◌≤◌, length, get_or, take, drop}
use mathlib.Core.List.{List, Memᴰ, []}
use Rattle.algebra.specs.Trial.{All, Ascending, Distinct}
use Rattle.algebra.specs.Polynomial.{eval, DividesBelow, from_roots}
use Rattle.algebra.specs.Multiplicity.{IsMultiplicityBelow, multiplicity, spread, total}
use Rattle.field.specs.Field.{roots_at, multiplicities_at, G}
use Rattle.input.specs.Limit.{limit}
use Rattle.table_rules.specs.Demand.{steps_at}
use Rattle.find_solve.specs.Calls.{Solves}
use Rattle.find_solve.specs.declared.Solved.{Solved}
use Rattle.find_search.specs.Calls.{Searches}

abbrev pub value_at : ℕ → List ℕ → ℕ → ℕ
value_at m f x = eval (G m) f x

pub record RootsBy (m : ℕ) (value : ℕ → ℕ) (roots : List ℕ) : Type 0 where
  pub ascending : Ascending roots
  pub once : Distinct roots
  pub exactly : (x : ℕ) → Memᴰ x roots ↔ ((x < 2 ^ m) × (value x ≡ 0))
  pub empty : (roots ≡ []) ↔ ((x : ℕ) → x < 2 ^ m → value x ≢ 0)
  -- no other list is
  pub only : (l : List ℕ) → Ascending l → ((x : ℕ) → Memᴰ x l ↔ ((x < 2 ^ m) × (value x ≡ 0))) → l ≡ roots

abbrev pub RootList : ℕ → List ℕ → List ℕ → Type 0
RootList m f roots = RootsBy m (value_at m f) roots

-- e is the multiplicity of r in f: (z + r)^k divides f exactly for the k up to e
abbrev pub HasMultiplicity : ℕ → List ℕ → ℕ → ℕ → Type 0
HasMultiplicity m f r e = IsMultiplicityBelow (G m) (2 ^ m) f r e

pub record MultiplicityList (m : ℕ) (f roots mults : List ℕ) : Type 0 where
  pub beside : length mults ≡ length roots
  pub largest : (i : ℕ) → i < length roots → HasMultiplicity m f (get_or roots i 0) (get_or mults i 0)
  pub least : All (λ e. 1 ≤ e) mults
  -- no other list is
  pub only : (l : List ℕ) → length l ≡ length roots
      → ((i : ℕ) → i < length roots → HasMultiplicity m f (get_or roots i 0) (get_or l i 0)) → l ≡ mults
  -- they add up to at most the degree n
  pub sum : (n : ℕ) → get_or f n 0 ≢ 0 → ((k : ℕ) → n < k → get_or f k 0 ≡ 0) → total mults ≤ n
  -- the product of (z + r)^e over the roots divides f, and the cofactor has no root
  pub whole : DividesBelow (G m) (2 ^ m) (from_roots (G m) (spread (multiplicity (G m) f) roots)) f
  pub rest : (x : ℕ) → x < 2 ^ m → value_at m whole.quotient x ≢ 0

pub record Holds (roots list after : List ℕ) : Type 0 where
  pub front : take (length roots) after ≡ roots
  pub behind : drop (length roots) after ≡ drop (length roots) list

pub record Demand2 (m c : ℕ) (f list mults : List ℕ) : Type 0 where
  pub roots : RootList m f (roots_at m f)
  pub multiplicities : MultiplicityList m f (roots_at m f) (multiplicities_at m f)
  pub few : length (roots_at m f) ≤ limit
  -- the trace engine: whatever the whole call's contract admits
  pub solve-gives : (r : Result Solved Refusal) (after beside : List ℕ) → Solves m c f list mults r after beside
      → (r ≡ Ok (record { s = length (roots_at m f); steps = steps_at m c f })) × Holds (roots_at m f) list after
      × Holds (multiplicities_at m f) mults beside
  -- the plain trial: whatever the search's contract admits
  pub search-gives : (r : Result ℕ Refusal) (after beside : List ℕ) → Searches m f list mults r after beside
      → (r ≡ Ok (length (roots_at m f))) × Holds (roots_at m f) list after × Holds (multiplicities_at m f) mults beside
  -- they agree on both lists
  pub agree : (r : Result Solved Refusal) (s : Result ℕ Refusal) (x y u v : List ℕ)
      → Solves m c f list mults r x u → Searches m f list mults s y v → (x ≡ y) × (u ≡ v)
