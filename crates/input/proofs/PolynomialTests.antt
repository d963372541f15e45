-- Refusals 1 to 5, as the code's tests show them, and that the two numbers by which it decides tell as much as the
-- polynomial.
--   empty-given, long-given,
--   element-given, zero-given   which refusal is given
--   values-in                   all five pass
--   values-admit                what the tests by number and largest admit, those of the polynomial admit
-- Assumes nothing.
use mathlib.Core.Path.{◌≡◌, refl, sym, ap, subst}
use mathlib.Core.Bool.{Bool, true, false, not, true≢false}
use mathlib.Core.List.{List, [], ◌∷◌}
use Prim.Native.Nat.{ℕ, suc, ◌≤◌, ◌<◌, ◌^◌}
use native.Mathlib.Omega.{arith}
use borrow.Author.Tests.{eq-eqb, ne_eqb, lt-ltb, le-ltb, ltb-false}
use lib.Dec.{eqb, ltb}
use lib.ListN.{length}
use lib.Pow.{pow_pos}
use Rattle.slices.specs.Bounded.{all_below}
use Rattle.refusals.specs.Order.{Given, Passed}
use Rattle.refusals.specs.Order.Given.{here, later}
use Rattle.refusals.specs.Order.Passed.{none}
use Rattle.refusals.specs.Admitting.{Admits}
use Rattle.std.specs.Prelude.{⊤, Result, Ok, Err}
use Rattle.refusals.specs.declared.Refusal.{Refusal}
use Rattle.refusals.proofs.Order.{holds, fails, passes, failed, others}
use Rattle.field.specs.Rows.{known, IsRow}
use Rattle.field.specs.declared.rows.Row.{Row}
use Rattle.field.proofs.Known.{listed-on}
use Rattle.input.specs.Limit.{limit}
use Rattle.input.specs.Polynomials.{polynomial_tests}
use Rattle.input.specs.Values.{Measured, value_tests}

-- ---- which refusal the code's tests show

module _ {m : ℕ} (n top : ℕ) {row : Row} (i : IsRow m row) where
  -- there are no coefficients
  pub empty-given : n ≡ 0 → Given 2 (value_tests m n top [])
  empty-given e = fails (listed-on i) (holds (eq-eqb n 0 e))

  module _ (some : n ≡ 0 → ⊥) where
    -- there are too many
    pub long-given : suc limit < n → Given 3 (value_tests m n top [])
    long-given h = fails (listed-on i) (fails (ne_eqb n 0 some) (holds (lt-ltb (suc limit) n h)))

    module _ (few : n ≤ suc limit) where
      -- one is no element
      pub element-given : row.size ≤ top → Given 4 (value_tests m n top [])
      element-given h =
          fails (listed-on i) (fails (ne_eqb n 0 some) (fails (le-ltb (suc limit) n few)
          (holds (ap not (le-ltb top (2 ^ m) (subst (λ k. k ≤ top) i.size h))))))

      module _ (below : top < row.size) where
        -- all are elements
        elements : not (ltb top (2 ^ m)) ≡ false
        elements = ap not (lt-ltb top (2 ^ m) (subst (λ k. top < k) i.size below))

        -- all are 0
        pub zero-given : top ≡ 0 → Given 5 (value_tests m n top [])
        zero-given e =
            fails (listed-on i)
            (fails (ne_eqb n 0 some) (fails (le-ltb (suc limit) n few) (fails elements (holds (lt-ltb top 1 (omega arith))))))

        -- or one is not
        pub values-in : (top ≡ 0 → ⊥) → Passed (value_tests m n top [])
        values-in u =
            passes (listed-on i)
            (passes (ne_eqb n 0 some) (passes (le-ltb (suc limit) n few) (passes elements (passes (le-ltb top 1 (omega arith)) none))))

-- ---- the two numbers tell as much

-- behind a third test that holds nothing matters
given-cut : {k l : ℕ} {s t : ℕ × Bool} {us : List (ℕ × Bool)} (vs : List (ℕ × Bool)) → Given k (s ∷ t ∷ (l, true) ∷ us)
    → Given k (s ∷ t ∷ (l, true) ∷ vs)
given-cut vs here = here
given-cut vs (later here) = later here
given-cut vs (later (later here)) = later (later here)

admits-cut : (s t : ℕ × Bool) (l : ℕ) (us vs : List (ℕ × Bool)) (d : Bool) → d ≡ true → (r : Result ⊤ Refusal)
    → Admits (s ∷ t ∷ (l, d) ∷ us) r → Admits (s ∷ t ∷ (l, d) ∷ vs) r
admits-cut s t l us vs true e (Ok u) p = absurd (true≢false (failed (others (others p))))
admits-cut s t l us vs true e (Err k) g = given-cut vs g
admits-cut s t l us vs false e r p = absurd (true≢false (sym e))

-- the tests of a polynomial with the fourth and the fifth as they come
abbrev shape : ℕ → List ℕ → Bool → Bool → List (ℕ × Bool) → List (ℕ × Bool)
shape m cs b c more = (1, not (known m)) ∷ (2, eqb (length cs) 0) ∷ (3, ltb (suc limit) (length cs)) ∷ (4, not b) ∷ (5, c) ∷ more

pub values-admit : (m : ℕ) (cs : List ℕ) {n top : ℕ} (us : List (ℕ × Bool)) (r : Result ⊤ Refusal) → Measured cs n top
    → Admits (value_tests m n top us) r → Admits (polynomial_tests m cs us) r
values-admit m cs {n} {top} us r s h =
    go (ltb (suc limit) (length cs)) refl (subst (λ k. Admits (value_tests m k top us) r) s.count h)
  where
    go : (b : Bool) → ltb (suc limit) (length cs) ≡ b → Admits (value_tests m (length cs) top us) r → Admits (polynomial_tests m cs us) r
    go true e h = admits-cut _ _ 3 _ _ (ltb (suc limit) (length cs)) e r h
    go false e h =
        let l = s.largest (ltb-false (suc limit) (length cs) e) in
        subst (λ b. Admits (shape m cs b (all_below 1 cs) us) r) (sym (l.same (2 ^ m) (pow_pos m)))
        (subst (λ b. Admits (shape m cs (ltb top (2 ^ m)) b us) r) (sym (l.same 1 (omega arith))) h)
