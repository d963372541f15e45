-- DEMAND 2 of affine polynomials: for every one that is accepted the list holds each field element at which it is
-- zero, once, ascending, and no other. There is none, or there are 2^k of them.
--   ToldNone, ToldSpace   the two answers, and what they leave
--   Demand2Affine   on an affine polynomial that the call accepts: whatever its contract admits
-- Assumes nothing.
use Rattle.std.specs.Prelude.{Option, Some, None, Result, Ok}
use Rattle.refusals.specs.declared.Refusal.{Refusal}
use Rattle.find_affine.specs.declared.Space.{Space}
use Rattle.std.specs.Prelude.{◌≡◌, List, [], ◌++◌, ◌⊎◌, ℕ, ◌^◌, ◌≤◌, length, replicate}
use Rattle.field.specs.Field.{roots_at}
use Rattle.find_affine.specs.Affine.{value_at, affine_roots, dense}
use Rattle.find_affine.specs.Calls.{Spans}
use Rattle.demands.specs.Demand2.{RootsBy, Holds}

-- the answer "none", exactly where there is no root: nothing is written
pub record ToldNone (m : ℕ) (roots list : List ℕ) (r : Result (Option Space) Refusal) (after : List ℕ) : Type 0 where
  pub answer : r ≡ Ok None
  pub empty : roots ≡ []
  pub memory : after ≡ list

-- the answer k, where there are 2^k roots, k at most m
pub record ToldSpace (m : ℕ) (roots list : List ℕ) (r : Result (Option Space) Refusal) (after : List ℕ) : Type 0 where
  pub dimension : ℕ
  pub most : dimension ≤ m
  pub count : length roots ≡ 2 ^ dimension
  pub answer : r ≡ Ok (Some (record { dimension = dimension; count = 2 ^ dimension }))
  pub memory : Holds roots list after

pub record Demand2Affine (m : ℕ) (cs : List ℕ) (constant : ℕ) (list : List ℕ) : Type 0 where
  pub roots : RootsBy m (value_at m cs constant) (affine_roots m cs constant)
  -- whatever the call's contract admits
  pub gives : (r : Result (Option Space) Refusal) (after : List ℕ) → Spans m cs constant list r after
      → ToldNone m (affine_roots m cs constant) list r after ⊎ ToldSpace m (affine_roots m cs constant) list r after
  -- where the coefficients behind some are 0, the roots are those of a polynomial of a lower degree: within the limit
  -- those of the whole call and the search (demand 2)
  pub within : (low : List ℕ) (n : ℕ) → cs ≡ low ++ replicate n 0
      → roots_at m (dense low constant) ≡ affine_roots m cs constant
