-- What an admission says.
--   let-in, turned-away   what was let in passed every test; what was turned away is given
--   passed-on             the refusal that a `?` passes on
--   admits-also           a test behind the others keeps the order
-- Assumes nothing.
use mathlib.Core.Path.{◌≡◌, sym, ap, subst}
use mathlib.Core.Bool.{Bool, true, false}
use mathlib.Core.List.{List, [], ◌∷◌, ◌++◌}
use Prim.Native.Nat.{ℕ}
use Rattle.refusals.specs.Order.{Given, Passed}
use Rattle.refusals.specs.Order.Given.{here}
use Rattle.refusals.specs.Order.Passed.{none, more}
use Rattle.refusals.specs.Numbers.{number_of}
use Rattle.refusals.specs.Admitting.{Admits, with_test}
use Rattle.refusals.specs.declared.Refusal.{Refusal}
use Rattle.std.specs.Prelude.{⊤, Result, Ok, Err, IsErrAnd}
use Rattle.refusals.proofs.Order.{given-before, given-behind, passed-both}

pub let-in : {ts : List (ℕ × Bool)} {r : Result ⊤ Refusal} {u : ⊤} → Admits ts r → r ≡ Ok u → Passed ts
let-in {ts} h e = subst (Admits ts) e h

pub turned-away : {ts : List (ℕ × Bool)} {r : Result ⊤ Refusal} {k : Refusal} → Admits ts r → r ≡ Err k → Given (number_of k) ts
turned-away {ts} h e = subst (Admits ts) e h

-- the refusal that a `?` passes on
pub passed-on : {A : Type 0} (r : Result A Refusal) {k : Refusal} → IsErrAnd r (λ j. j ≡ k) → r ≡ Err k
passed-on (Ok a) h = absurd h
passed-on (Err j) h = ap Err h

-- a test behind the others keeps the order
pub admits-also : (ts : List (ℕ × Bool)) (found : Result ⊤ Refusal) (t : Bool) (k : Refusal) {r : Result ⊤ Refusal} → r ≡ with_test found t k → Admits ts found
    → Admits (ts ++ (number_of k, t) ∷ []) r
admits-also ts found t k e h = subst (Admits (ts ++ (number_of k, t) ∷ [])) (sym e) (go found t h)
  where
    go : (f : Result ⊤ Refusal) (b : Bool) → Admits ts f → Admits (ts ++ (number_of k, b) ∷ []) (with_test f b k)
    go (Err j) b g = given-before _ g
    go (Ok u) true p = given-behind p here
    go (Ok u) false p = passed-both p (more none)
