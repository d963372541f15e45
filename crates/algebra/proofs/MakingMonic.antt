-- Making monic: `norm` gives nothing where the polynomial is 0, and otherwise its monic multiple.
--   Normed    r is 0, or the monic polynomial of a list shorter than k, but for a nonzero factor
--   normed    so it is for what `norm` gives
-- Assumes nothing.
use mathlib.Core.Path.{◌∙◌, ◌≡◌, ap, fun_ext, refl, sym}
use mathlib.Core.Logic.{◌↔◌, ◌≢◌, ⊎_elim}
use mathlib.Core.Bool.{Bool, cond, false, true}
use mathlib.Core.Option.{Option, none, some}
use mathlib.Core.List.{List, [], ◌∷◌, map}
use Prim.Native.Nat.{◌<◌, ◌≤◌, suc, zero, ℕ}
use native.Mathlib.Nat.{eq-or-lt_of_le}
use native.Mathlib.Omega.{arith}
use lib.Dec.{T}
use lib.ListN.{length, length-map, take}
use Rattle.algebra.specs.Field.{Laws, Ops}
use Rattle.algebra.specs.Polynomial.{coef}
use Rattle.algebra.specs.Routines.{monic, norm}
use Rattle.algebra.proofs.Elements.{mul-zero}
use Rattle.algebra.proofs.Series.{Series, nought, scale}

-- r is 0, or the monic polynomial of a list shorter than k, but for a nonzero factor
pub data Normed {K : Type 0} (F : Ops K) (r : Series K) (k : ℕ) : Option (List K) → Type 0 where
  vanished : r ≡ nought F → Normed F r k none
  led : (s : List K) (c : K) → length s < k → c ≢ F.zero → r ≡ scale F c (coef F (monic F s)) → Normed F r k (some s)

module _ {K : Type 0} {F : Ops K} (L : Laws F) where
  infixl 70 ◌⊗◌
  open F use {zero as 0#, one as 1#, mul as ◌⊗◌}
  open L use {mul_comm, mul_assoc, one-mul, mul-inv, zero_test}

  lead-length : (k : ℕ) (r : List K) → coef F r k ≢ 0# → length (take k r) ≡ k
  lead-length zero r h = refl
  lead-length (suc k) [] h = absurd (h refl)
  lead-length (suc k) (c ∷ r) h = ap suc (lead-length k r h)

  lead-at : (k : ℕ) (r : List K) (x : K) → coef F r k ≡ x → x ≢ 0# → ((j : ℕ) → k < j → coef F r j ≡ 0#)
      → (j : ℕ) → coef F r j ≡ x ⊗ coef F (monic F (map (F.mul (F.inv x)) (take k r))) j
  lead-at zero [] x e h v j = absurd (h (sym e))
  lead-at (suc k) [] x e h v j = absurd (h (sym e))
  lead-at zero (c ∷ r) x e h v zero = e ∙ sym (mul_comm x 1# ∙ one-mul x)
  lead-at zero (c ∷ r) x e h v (suc j) = v (suc j) (omega arith) ∙ sym (mul-zero L x)
  lead-at (suc k) (c ∷ r) x e h v zero = sym (sym (mul_assoc x (F.inv x) c) ∙ ap (λ w. w ⊗ c) (mul-inv x h) ∙ one-mul c)
  lead-at (suc k) (c ∷ r) x e h v (suc j) = lead-at k r x e h (λ i l. v (suc i) (omega arith)) j

  -- so it is for what `norm` gives
  pub normed : (k : ℕ) (r : List K) → ((j : ℕ) → k ≤ j → coef F r j ≡ 0#) → Normed F (coef F r) k (norm F k r)
  unfolding norm scale
  normed zero r v = vanished (fun_ext λ j. v j (omega arith))
  normed (suc k) r v = go (F.is_zero (coef F r k)) (zero_test (coef F r k)) (normed k r)
    where
      go : (b : Bool) → T b ↔ (coef F r k ≡ 0#) → (((j : ℕ) → k ≤ j → coef F r j ≡ 0#) → Normed F (coef F r) k (norm F k r))
          → Normed F (coef F r) (suc k) (cond b (norm F k r) (some (map (F.mul (F.inv (coef F r k))) (take k r))))
      go true e rec = wider (norm F k r) (rec (λ j l. ⊎_elim (λ i. ap (coef F r) (sym i) ∙ e.0 tt) (λ i. v j i) (eq-or-lt_of_le l)))
        where
          wider : (o : Option (List K)) → Normed F (coef F r) k o → Normed F (coef F r) (suc k) o
          wider o (vanished z) = vanished z
          wider o (led s c l h q) = led s c (omega arith) h q
      go false e rec =
          led (map (F.mul (F.inv (coef F r k))) (take k r)) (coef F r k)
          (omega (arith, length-map (take k r) (F.mul (F.inv (coef F r k))), lead-length k r e.1))
          e.1 (fun_ext (lead-at k r (coef F r k) refl e.1 (λ j l. v j (omega arith))))
