-- Two outcomes that the contract of begin admits coincide: the answer is told by its number, and the memory by a
-- function.
--   begun-told       two answers with one number are one
--   begin-coincide   so for the call
-- Assumes nothing.
use mathlib.Core.Path.{◌≡◌, refl}
use mathlib.Core.List.{List, []}
use Prim.Native.Nat.{ℕ}
use Rattle.std.specs.Prelude.{Result, ⊤}
use Rattle.refusals.specs.Admitting.{told}
use Rattle.refusals.specs.declared.Refusal.{Refusal}
use Rattle.refusals.proofs.Told.{told-one, told-coincide}
use Rattle.table_begin.specs.Calls.{begin_outcome, begin_memory, Begins}

-- two answers of begin with one number are one
pub begun-told : (r s : Result ⊤ Refusal) → told (λ _. []) r ≡ told (λ _. []) s → r ≡ s
begun-told = told-one (λ _. []) (λ _. tt) (λ a. refl)

-- the answer and the lent memory of begin
pub begin-coincide : (m c : ℕ) (cs table : List ℕ) (r s : Result ⊤ Refusal) (x y : List ℕ)
    → Begins m c cs table r x → Begins m c cs table s y → (r ≡ s) × (x ≡ y)
begin-coincide m c cs table = told-coincide (λ _. []) (λ _. tt) (λ a. refl) (begin_outcome m c cs table) (begin_memory m c cs table)
