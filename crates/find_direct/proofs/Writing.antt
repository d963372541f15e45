-- The solver's answer, written to the front of a list.
--   listed-none, listed-one, listed-two   by how many roots there are;  listed-as  a list that is told in another way
--   written_one                           a root that is known
--   lead-as                               the leading place told in another way
--   found-direct                          what is found over the degree
-- Assumes nothing.
use mathlib.Core.Path.{◌≡◌, refl, sym, ap, ◌∙◌, subst}
use mathlib.Core.List.{List, [], ◌∷◌}
use Prim.Native.Nat.{ℕ, ◌≤◌}
use native.Mathlib.Nat.{not-suc-le-zero, le_of_suc-le-suc}
use native.Mathlib.Omega.{arith}
use lib.ListN.{length, set}
use Rattle.slices.specs.Lists.{copied}
use Rattle.field.specs.Quadratics.{roots_in}
use Rattle.field.specs.declared.solver.Quadratic.{Quadratic}
use Rattle.field.specs.declared.solver.Quadratic.TheVariants.{NoRoot, Double, Two}
use Rattle.find_direct.specs.Listing.{Listed, DirectOut, Leading}
use Rattle.std.specs.Prelude.{Some}

-- a list that is told and written
told : {rs l roots roots' : List ℕ} {k : ℕ} → l ≡ rs → k ≡ length l → roots' ≡ copied l roots → Listed rs roots k roots'
told {roots = roots} e c w = record { count = c ∙ ap length e; slots-are = w ∙ ap (λ (x : List ℕ). copied x roots) e }

set-one : (s : List ℕ) (x : ℕ) → 1 ≤ length s → set s 0 x ≡ copied (x ∷ []) s
unfolding copied
set-one [] x h = absurd (not-suc-le-zero h)
set-one (z ∷ s) x h = refl

set-two : (s : List ℕ) (x y : ℕ) → 2 ≤ length s → set (set s 0 x) 1 y ≡ copied (x ∷ y ∷ []) s
unfolding copied
set-two [] x y h = absurd (not-suc-le-zero h)
set-two (z ∷ []) x y h = absurd (not-suc-le-zero (le_of_suc-le-suc h))
set-two (z ∷ w ∷ s) x y h = refl

pub listed-none : {rs roots : List ℕ} {r : Quadratic} → roots_in r ≡ rs → r ≡ NoRoot → Listed rs roots 0 roots
unfolding copied
listed-none e k = told (sym (ap roots_in k) ∙ e) refl refl

pub listed-one : {rs roots : List ℕ} {r : Quadratic} (x : ℕ) → 1 ≤ length roots → roots_in r ≡ rs → r ≡ Double x → Listed rs roots 1 (set roots 0 x)
listed-one {roots = roots} x h e k = told (sym (ap roots_in k) ∙ e) refl (set-one roots x h)

pub listed-two : {rs roots : List ℕ} {r : Quadratic} (x y : ℕ) → 2 ≤ length roots → roots_in r ≡ rs → r ≡ Two x y
    → Listed rs roots 2 (set (set roots 0 x) 1 y)
listed-two {roots = roots} x y h e k = told (sym (ap roots_in k) ∙ e) refl (set-two roots x y h)

pub listed-as : {rs ss roots roots' : List ℕ} {k : ℕ} → rs ≡ ss → Listed rs roots k roots' → Listed ss roots k roots'
listed-as {roots = roots} {roots' = roots'} {k = k} e l = subst (λ (x : List ℕ). Listed x roots k roots') e l

pub written_one : {rs roots : List ℕ} (x : ℕ) → 1 ≤ length roots → rs ≡ x ∷ [] → Listed rs roots 1 (set roots 0 x)
written_one {roots = roots} x h e = told (sym e) refl (set-one roots x h)

-- ---- over the degree

pub lead-as : {n k : ℕ} {f : List ℕ} → n ≡ k → Leading n f → Leading k f
lead-as {f = f} e g = subst (λ (i : ℕ). Leading i f) e g

pub found-direct : {rs roots roots' : List ℕ} {k : ℕ} → Listed rs roots k roots' → DirectOut rs roots (Some k) roots'
found-direct {rs} {roots} {roots'} {k} l = record {
  found = λ j e. subst (λ (i : ℕ). Listed rs roots i roots') (cc) l;
  missed = λ e. absurd (let z : ◌≡◌ {A = ℕ} 0 1 = cc in let b : ⊥ = omega arith in b);
}
