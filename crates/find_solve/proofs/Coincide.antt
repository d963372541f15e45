-- Two outcomes that the contract of the whole call admits coincide: the answer is told by its number and values, and
-- the lists by functions.
--   solved-told      two answers with one number and one list of values are one
--   solve-coincide   so for the call
-- Assumes nothing.
use mathlib.Core.Path.{◌≡◌, refl}
use mathlib.Core.List.{List}
use Prim.Native.Nat.{ℕ}
use lib.ListN.{get_or}
use Rattle.std.specs.Prelude.{Result}
use Rattle.refusals.specs.Admitting.{told}
use Rattle.refusals.specs.declared.Refusal.{Refusal}
use Rattle.refusals.proofs.Told.{told-one}
use Rattle.input.proofs.RootMemory.{lists-coincide}
use Rattle.find_solve.specs.Calls.{solved_values, Solves}
use Rattle.find_solve.specs.declared.Solved.{Solved}

-- two answers with one number and values are one; the values are the numbers of roots and of steps
pub solved-told : (r s : Result Solved Refusal) → told solved_values r ≡ told solved_values s → r ≡ s
solved-told = told-one solved_values (λ l. record { s = get_or l 0 0; steps = get_or l 1 0 }) (λ a. refl)

-- the answer and the lent lists
pub solve-coincide : (m c : ℕ) (cs roots mults : List ℕ) (r s : Result Solved Refusal) (x y u v : List ℕ)
    → Solves m c cs roots mults r x u → Solves m c cs roots mults s y v → (r ≡ s) × (x ≡ y) × (u ≡ v)
solve-coincide m c cs roots mults r s x y u v h k = lists-coincide (told solved_values) solved-told r s h k
