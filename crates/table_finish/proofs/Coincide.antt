-- Two outcomes that the contract of finish admits coincide: the answer is told by its number and value, and the list
-- by a function.
--   finished-told     two answers with one number and value are one
--   finish-coincide   so for the call
-- Assumes nothing.
use mathlib.Core.Path.{◌≡◌, refl}
use mathlib.Core.List.{List, [], ◌∷◌}
use Prim.Native.Nat.{ℕ}
use lib.ListN.{get_or}
use Rattle.std.specs.Prelude.{Result}
use Rattle.refusals.specs.Admitting.{told}
use Rattle.refusals.specs.declared.Refusal.{Refusal}
use Rattle.refusals.proofs.Told.{told-one, told-coincide}
use Rattle.table_finish.specs.Calls.{finish_outcome, finish_memory, Finishes}

-- two answers with one number and value are one; the value is the number of roots
pub finished-told : (r s : Result ℕ Refusal) → told (λ s. s ∷ []) r ≡ told (λ s. s ∷ []) s → r ≡ s
finished-told = told-one (λ s. s ∷ []) (λ l. get_or l 0 0) (λ s. refl)

-- the answer and the lent list
pub finish-coincide : (table list : List ℕ) (r s : Result ℕ Refusal) (x y : List ℕ)
    → Finishes table list r x → Finishes table list s y → (r ≡ s) × (x ≡ y)
finish-coincide table list = told-coincide (λ s. s ∷ []) (λ l. get_or l 0 0) (λ s. refl) (finish_outcome table list) (finish_memory table list)
