-- Two outcomes that the contract of the affine call admits coincide: the answer is told by its number and values, and
-- the list by a function.
--   spanned-told      two answers with one number and values are one
--   affine-coincide   so for the call
--   space-counted     a space has at least one root
-- Assumes nothing.
use mathlib.Core.Path.{◌≡◌, refl, ap, ◌∙◌}
use mathlib.Core.Bool.{Bool, true, false, cond}
use mathlib.Core.Logic.{◌⊎◌, inl, inr}
use mathlib.Core.List.{List, [], ◌∷◌}
use Prim.Native.Nat.{ℕ, ◌<◌}
use native.Mathlib.Omega.{arith}
use borrow.Author.Tests.{eqb-false}
use lib.Dec.{eqb}
use lib.ListN.{length, get_or}
use Rattle.std.specs.Prelude.{Option, Some, None, Result, Ok}
use Rattle.refusals.specs.Admitting.{told}
use Rattle.refusals.specs.declared.Refusal.{Refusal}
use Rattle.refusals.specs.Order.{memory, Given, Passed}
use Rattle.refusals.proofs.Order.{cases, refused, accepted}
use Rattle.refusals.proofs.Told.{told-one, told-coincide}
use Rattle.slices.specs.Lists.{copied}
use Rattle.find_affine.specs.Affine.{affine_roots, dimension_of, space_values}
use Rattle.find_affine.specs.Calls.{spanned_values, affine_outcome, affine_tests, Spans}
use Rattle.find_affine.specs.declared.Space.{Space}

-- one value is "none", two are a space
space_back : List ℕ → Option Space
space_back [] = None
space_back (n ∷ []) = None
space_back (n ∷ k ∷ l) = Some (record { dimension = k; count = n })

-- it takes the values back
space-back : (r : Option Space) → space_back (spanned_values r) ≡ r
unfolding space_back
space-back None = refl
space-back (Some s) = refl

pub spanned-told : (r s : Result (Option Space) Refusal) → told spanned_values r ≡ told spanned_values s → r ≡ s
spanned-told = told-one spanned_values space_back space-back

-- the answer and the lent list
pub affine-coincide : (m : ℕ) (cs : List ℕ) (constant : ℕ) (list : List ℕ) (r s : Result (Option Space) Refusal) (x y : List ℕ)
    → Spans m cs constant list r x → Spans m cs constant list s y → (r ≡ s) × (x ≡ y)
affine-coincide m cs constant list =
    told-coincide spanned_values space_back space-back (affine_outcome m cs constant list)
    (memory (affine_tests m cs constant (length list)) (copied (affine_roots m cs constant) list) list)

-- a space has at least one root
pub space-counted : (m : ℕ) (cs : List ℕ) (constant : ℕ) (list : List ℕ) (k n : ℕ) (after : List ℕ) → Spans m cs constant list (Ok (Some (record { dimension = k; count = n }))) after → 0 < n
unfolding space_values
space-counted m cs constant list k n after h = go (cases (affine_tests m cs constant (length list)))
  where
    roots : List ℕ
    roots = affine_roots m cs constant

    by_values : (b : Bool) → (b ≡ false → length roots ≡ 0 → ⊥) → n ∷ k ∷ [] ≡ cond b (0 ∷ []) (length roots ∷ dimension_of m (length roots) ∷ []) → 0 < n
    by_values true d e = absurd (let z : ◌≡◌ {A = ℕ} 2 1 = ap length e in let b : ⊥ = omega arith in b)
    by_values false d e =
        let f : n ≡ length roots = ap (λ (l : List ℕ). get_or l 0 0) e in
        let o = d refl in
        omega arith

    go : ((j : ℕ) × Given j (affine_tests m cs constant (length list))) ⊎ Passed (affine_tests m cs constant (length list)) → 0 < n
    go (inl g) = absurd (let z : ◌≡◌ {A = ℕ} 2 0 = ap (λ (o : ℕ × List ℕ). length o.1) (h.0 ∙ refused _ g.1) in let b : ⊥ = omega arith in b)
    go (inr p) = by_values (eqb (length roots) 0) (eqb-false (length roots) 0) (ap (λ (o : ℕ × List ℕ). o.1) (h.0 ∙ accepted _ p))
