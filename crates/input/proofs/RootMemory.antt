-- Calls that find all roots of a polynomial: what follows from the shape of their contract.
--   lists-refused, lists-accepted   how it is met: a refusal writes neither list, and what is let in fills both
--   lists-coincide                  two answers that it admits are one, and so are both lists
-- Assumes nothing.
use mathlib.Core.Path.{◌≡◌, sym, ◌∙◌}
use mathlib.Core.Bool.{Bool}
use mathlib.Core.List.{List, []}
use Prim.Native.Nat.{ℕ}
use Rattle.refusals.specs.Order.{Given, Passed}
use Rattle.refusals.proofs.Order.{refused, accepted, unwritten, written}
use Rattle.slices.specs.Lists.{copied}
use Rattle.field.specs.Field.{roots_at, multiplicities_at}
use Rattle.input.specs.RootMemory.{ListsRoots}

module _ {tests : List (ℕ × Bool)} {values : List ℕ} {m : ℕ} {cs roots mults : List ℕ} where
  -- a refusal writes neither list
  pub lists-refused : {k : ℕ} → Given k tests → ListsRoots tests values m cs roots mults (k, []) roots mults
  lists-refused g = record { answer = sym (refused values g); list = sym (unwritten _ roots g); beside = sym (unwritten _ mults g) }

  -- what is let in fills both
  pub lists-accepted : {told : ℕ × List ℕ} {roots' mults' : List ℕ} → Passed tests → told ≡ (0, values) → roots' ≡ copied (roots_at m cs) roots
      → mults' ≡ copied (multiplicities_at m cs) mults → ListsRoots tests values m cs roots mults told roots' mults'
  lists-accepted p t r e = record { answer = t ∙ sym (accepted values p); list = r ∙ sym (written _ roots p); beside = e ∙ sym (written _ mults p) }

-- two answers that it admits are one, and so are both lists
pub lists-coincide : {A : Type 0} (there : A → ℕ × List ℕ) → ((a b : A) → there a ≡ there b → a ≡ b)
    → {tests : List (ℕ × Bool)} {values : List ℕ} {m : ℕ} {cs roots mults : List ℕ} (r s : A) {x y u v : List ℕ}
    → ListsRoots tests values m cs roots mults (there r) x u → ListsRoots tests values m cs roots mults (there s) y v → (r ≡ s) × (x ≡ y) × (u ≡ v)
lists-coincide there tells r s h k = (tells r s (h.answer ∙ sym k.answer), h.list ∙ sym k.list, h.beside ∙ sym k.beside)
