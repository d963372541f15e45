-- Two outcomes that a contract of an element call admits coincide: an answer is told by its number and values.
--   answer-told, roots-told   two answers with one number and one list of values are one
--   product-coincide ..       so for each call
-- Assumes nothing.
use mathlib.Core.Path.{◌≡◌, refl, sym, ◌∙◌}
use mathlib.Core.List.{List, [], ◌∷◌}
use Prim.Native.Nat.{ℕ}
use lib.ListN.{get_or}
use Rattle.std.specs.Prelude.{Result}
use Rattle.refusals.specs.declared.Refusal.{Refusal}
use Rattle.refusals.proofs.Told.{told-one}
use Rattle.field_elements.specs.Calls.{told_answer, roots_told, told_quadratic, TellsProduct, TellsInverse, TellsPosition, TellsQuadratic}
use Rattle.field.specs.declared.solver.Quadratic.{Quadratic}
use Rattle.field.specs.declared.solver.Quadratic.TheVariants.{NoRoot, Double, Two}

-- two answers with one number and value are one
pub answer-told : (r s : Result ℕ Refusal) → told_answer r ≡ told_answer s → r ≡ s
answer-told = told-one (λ v. v ∷ []) (λ l. get_or l 0 0) (λ v. refl)

-- the roots in a list behind the number of double ones, taken back
roots_from : List ℕ → Quadratic
roots_from [] = NoRoot
roots_from (d ∷ []) = NoRoot
roots_from (d ∷ x ∷ []) = Double x
roots_from (d ∷ x ∷ y ∷ l) = Two x y

roots-back : (q : Quadratic) → roots_from (roots_told q) ≡ q
unfolding roots_from
roots-back = elim [ NoRoot ↦ refl | Double x ↦ refl | Two x y ↦ refl ]

-- two answers with one number and one list of roots are one
pub roots-told : (r s : Result Quadratic Refusal) → told_quadratic r ≡ told_quadratic s → r ≡ s
roots-told = told-one roots_told roots_from roots-back

-- so for each call
pub product-coincide : (m a b : ℕ) (r s : Result ℕ Refusal) → TellsProduct m a b r → TellsProduct m a b s → r ≡ s
product-coincide m a b r s h k = answer-told r s (h ∙ sym k)

pub inverse-coincide : (m a : ℕ) (r s : Result ℕ Refusal) → TellsInverse m a r → TellsInverse m a s → r ≡ s
inverse-coincide m a r s h k = answer-told r s (h ∙ sym k)

pub position-coincide : (m x convention : ℕ) (r s : Result ℕ Refusal)
    → TellsPosition m x convention r → TellsPosition m x convention s → r ≡ s
position-coincide m x convention r s h k = answer-told r s (h ∙ sym k)

pub quadratic-coincide : (m a b : ℕ) (r s : Result Quadratic Refusal) → TellsQuadratic m a b r → TellsQuadratic m a b s → r ≡ s
quadratic-coincide m a b r s h k = roots-told r s (h ∙ sym k)
