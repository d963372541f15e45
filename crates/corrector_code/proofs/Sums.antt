-- Power sums over distinct elements: weights whose sums with the first powers are all 0 are themselves 0
-- (Vandermonde). It shows both that no two codewords lie within t of one word, and that the key equation has one
-- solution.
--   total-add, total-mul, total-zero   the sum of sums, of multiples, of zeros;  times-one  x 1 = x
--   vandermonde    weights with as many sums 0 as there are elements are 0
--   sums_apart     no n or fewer distinct nonzero elements have power sums 0 for the powers 1 to n
-- Assumes nothing.
use mathlib.Core.Path.{◌≡◌, refl, sym, ap, ap₂, ◌∙◌, fun_ext}
use mathlib.Core.Logic.{◌≢◌}
use mathlib.Core.List.{List, [], ◌∷◌}
use Prim.Native.Nat.{ℕ, suc, ◌≤◌, ◌<◌}
use native.Mathlib.Omega.{arith}
use lib.ListN.{length}
use Rattle.algebra.specs.Field.{Ops, Laws, power}
use Rattle.algebra.proofs.Elements as E
use Rattle.algebra.specs.Trial.{All, Distinct}
use Rattle.algebra.proofs.Trial.{all_map}
use Rattle.corrector_code.specs.Word.{total}

module _ {K : Type 0} {F : Ops K} (L : Laws F) where
  infixl 60 ◌⊕◌
  infixl 70 ◌⊗◌
  open F use {zero as 0#, one as 1#, add as ◌⊕◌, mul as ◌⊗◌}
  open L use {add_comm, add_assoc, zero-add, add-self, mul_comm, mul_assoc, one-mul, mul-add, one≢zero}

  -- ---- sums

  pub total-add : (f g : K → K) (s : List K) → total F (λ x. f x ⊕ g x) s ≡ total F f s ⊕ total F g s
  unfolding total
  total-add f g [] = sym (zero-add 0#)
  total-add f g (x ∷ s) = ap (λ w. f x ⊕ g x ⊕ w) (total-add f g s) ∙ simp (add_assoc, E.add_left_comm L)

  pub total-mul : (c : K) (f : K → K) (s : List K) → total F (λ x. c ⊗ f x) s ≡ c ⊗ total F f s
  unfolding total
  total-mul c f [] = sym (E.mul-zero L c)
  total-mul c f (x ∷ s) = ap (λ w. c ⊗ f x ⊕ w) (total-mul c f s) ∙ sym (mul-add c (f x) (total F f s))

  pub total-zero : (f : K → K) (s : List K) → All (λ x. f x ≡ 0#) s → total F f s ≡ 0#
  unfolding total
  total-zero f [] h = refl
  total-zero f (x ∷ s) h = ap₂ ◌⊕◌ h.0 (total-zero f s h.1) ∙ zero-add 0#

  -- f is 0 where its product with something nonzero is
  divided : (g : K → K) → ((x y : K) → g x ≡ g y → x ≡ y) → (x : K) (u : K → K) (s : List K) → All (λ y. x ≢ y) s → All (λ y. (g x ⊕ g y) ⊗ u y ≡ 0#) s → All (λ y. u y ≡ 0#) s
  divided g inj x u [] d h = tt
  divided g inj x u (y ∷ s) d h = (E.zero-of-product L (g x ⊕ g y) (u y) (λ z. d.0 (inj x y (E.equal-of-sum L (g x) (g y) z))) h.0, divided g inj x u s d.1 h.1)

  pub times-one : (x : K) → x ⊗ 1# ≡ x
  times-one x = mul_comm x 1# ∙ one-mul x

  -- (x + y) u y^j = x (u y^j) + u y^(j+1)
  shifted : (x y u p : K) → (x ⊕ y) ⊗ u ⊗ p ≡ x ⊗ (u ⊗ p) ⊕ u ⊗ (y ⊗ p)
  shifted x y u p = mul_assoc (x ⊕ y) u p ∙ E.add-mul L x y (u ⊗ p) ∙ ap (λ w. x ⊗ (u ⊗ p) ⊕ w) (E.mul_left_comm L y u p)

  -- distinct elements, g one-to-one: weights u with sum u(x) g(x)^j = 0 for j = 0, 1, .., one power for each element,
  -- are 0
  pub vandermonde : (g : K → K) → ((x y : K) → g x ≡ g y → x ≡ y) → (s : List K) (u : K → K) → Distinct s
      → ((j : ℕ) → j < length s → total F (λ x. u x ⊗ power F (g x) j) s ≡ 0#) → All (λ x. u x ≡ 0#) s
  unfolding total power
  vandermonde g inj [] u d h = tt
  vandermonde g inj (x ∷ s) u d h =
      let others : All (λ y. u y ≡ 0#) s = divided g inj x u s d.0 (vandermonde g inj s (λ y. (g x ⊕ g y) ⊗ u y) d.1 rest) in
      (sym (times-one (u x)) ∙ sym (E.add-zero L _) ∙ ap (λ w. u x ⊗ 1# ⊕ w) (sym (total-zero (λ y. u y ⊗ 1#) s (all_map (λ y e. times-one (u y) ∙ e) s others))) ∙ h 0 (omega arith), others)
    where
      -- the sum over all, times g(x) + g(y), has no term at x
      gone : (j : ℕ) → (g x ⊕ g x) ⊗ u x ⊗ power F (g x) j ≡ 0#
      gone j = ap (λ w. w ⊗ u x ⊗ power F (g x) j) (add-self (g x)) ∙ ap (λ w. w ⊗ power F (g x) j) (E.zero-mul L (u x)) ∙ E.zero-mul L (power F (g x) j)

      rest : (j : ℕ) → j < length s → total F (λ y. (g x ⊕ g y) ⊗ u y ⊗ power F (g y) j) s ≡ 0#
      rest j l =
          sym (ap (λ w. w ⊕ total F (λ y. (g x ⊕ g y) ⊗ u y ⊗ power F (g y) j) s) (gone j) ∙ zero-add _)
          ∙ ap (λ f. total F f (x ∷ s)) (fun_ext λ y. shifted (g x) (g y) (u y) (power F (g y) j))
          ∙ total-add (λ y. g x ⊗ (u y ⊗ power F (g y) j)) (λ y. u y ⊗ power F (g y) (suc j)) (x ∷ s)
          ∙ ap₂ ◌⊕◌ (total-mul (g x) (λ y. u y ⊗ power F (g y) j) (x ∷ s) ∙ ap (λ w. g x ⊗ w) (h j (omega arith)) ∙ E.mul-zero L (g x)) (h (suc j) (omega arith))
          ∙ zero-add 0#

  -- no set of n or fewer distinct nonzero elements has power sums 0 for the powers 1 to n
  pub sums_apart : (s : List K) (n : ℕ) → Distinct s → All (λ x. x ≢ 0#) s → length s ≤ n
      → ((i : ℕ) → 0 < i → i ≤ n → total F (λ x. power F x i) s ≡ 0#) → s ≡ []
  unfolding power
  sums_apart [] n d z l h = refl
  sums_apart (x ∷ s) n d z l h = absurd (z.0 (vandermonde (λ y. y) (λ x y e. e) (x ∷ s) (λ y. y) d (λ j k. h (suc j) (omega arith) (omega arith))).0)
