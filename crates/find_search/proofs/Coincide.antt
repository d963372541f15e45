-- Two outcomes that the contract of the plain search admits coincide: the answer is told by its number and value, and
-- the lists by functions.
--   searched-told     two answers with one number and value are one
--   search-coincide   so for the call
-- Assumes nothing.
use mathlib.Core.Path.{◌≡◌, refl}
use mathlib.Core.List.{List, [], ◌∷◌}
use Prim.Native.Nat.{ℕ}
use lib.ListN.{get_or}
use Rattle.std.specs.Prelude.{Result}
use Rattle.refusals.specs.Admitting.{told}
use Rattle.refusals.specs.declared.Refusal.{Refusal}
use Rattle.refusals.proofs.Told.{told-one}
use Rattle.input.proofs.RootMemory.{lists-coincide}
use Rattle.find_search.specs.Calls.{Searches}

-- two answers with one number and value are one; the value is the number of roots
pub searched-told : (r s : Result ℕ Refusal) → told (λ s. s ∷ []) r ≡ told (λ s. s ∷ []) s → r ≡ s
searched-told = told-one (λ s. s ∷ []) (λ v. get_or v 0 0) (λ s. refl)

-- the answer and the lent lists
pub search-coincide : (m : ℕ) (cs roots mults : List ℕ) (r s : Result ℕ Refusal) (x y u v : List ℕ)
    → Searches m cs roots mults r x u → Searches m cs roots mults s y v → (r ≡ s) × (x ≡ y) × (u ≡ v)
search-coincide m cs roots mults r s x y u v h k = lists-coincide (told (λ s. s ∷ [])) searched-told r s h k
