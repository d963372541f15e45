-- Sums of lists of numbers, as the loops that add make them: over exclusive or, for numbers of any size.
--   add_at          an element of a sum
--   add-rest        behind the end of the second list the first stands as it was
--   add_none        a multiple by 0 changes nothing
--   add-nil         nothing is added
--   add_assoc       sums of three
--   long-row        a sum with a multiple of a shorter list
-- Assumes nothing.
use mathlib.Core.Path.{◌≡◌, refl, ap, ap₂, ◌∙◌}
use mathlib.Core.List.{List, [], ◌∷◌, map}
use Prim.Native.Nat.{ℕ, zero, suc, ◌≤◌, ◌<◌}
use native.Mathlib.Nat.{not-suc-le-zero, le_of_suc-le-suc}
use native.Mathlib.Omega.{arith}
use lib.Bits.{bit_xor, xor_zero_r}
use lib.ListN.{length, get_or, drop, length-map}
use Rattle.algebra.specs.Polynomial.{add}
use Rattle.algebra.proofs.Lengths.{length-add-left}
use Rattle.field.specs.Field.{mul, field_at, G}
use Rattle.field.proofs.Xor.{xor_assoc}

module _ (m : ℕ) where
  pub add_at : (r q : List ℕ) (i : ℕ) → length q ≤ length r → i < length q → get_or (add (G m) r q) i 0 ≡ bit_xor (get_or r i 0) (get_or q i 0)
  unfolding add
  add_at r [] i a h = absurd (not-suc-le-zero h)
  add_at [] (d ∷ q) i a h = absurd (not-suc-le-zero a)
  add_at (c ∷ r) (d ∷ q) zero a h = refl
  add_at (c ∷ r) (d ∷ q) (suc i) a h = add_at r q i (le_of_suc-le-suc a) (le_of_suc-le-suc h)

  pub add-rest : (r q : List ℕ) → length q ≤ length r → drop (length q) (add (G m) r q) ≡ drop (length q) r
  unfolding add
  add-rest [] [] a = refl
  add-rest (c ∷ r) [] a = refl
  add-rest [] (d ∷ q) a = absurd (not-suc-le-zero a)
  add-rest (c ∷ r) (d ∷ q) a = add-rest r q (le_of_suc-le-suc a)

  pub add-nil : (r : List ℕ) → add (G m) r [] ≡ r
  unfolding add
  add-nil [] = refl
  add-nil (c ∷ r) = refl

  pub add_none : ((x : ℕ) → mul (field_at m) 0 x ≡ 0) → (r p : List ℕ) → length p ≤ length r → add (G m) r (map ((G m).mul 0) p) ≡ r
  unfolding add
  add_none z [] [] a = refl
  add_none z (c ∷ r) [] a = refl
  add_none z [] (d ∷ p) a = absurd (not-suc-le-zero a)
  add_none z (c ∷ r) (d ∷ p) a = ap₂ (λ x u. x ∷ u) (ap (bit_xor c) (z d) ∙ xor_zero_r c) (add_none z r p (le_of_suc-le-suc a))

  pub add_assoc : (p q r : List ℕ) → add (G m) (add (G m) p q) r ≡ add (G m) p (add (G m) q r)
  unfolding add
  add_assoc [] q r = refl
  add_assoc (c ∷ p) [] r = refl
  add_assoc (c ∷ p) (d ∷ q) [] = refl
  add_assoc (c ∷ p) (d ∷ q) (e ∷ r) = ap₂ (λ x u. x ∷ u) (xor_assoc c d e) (add_assoc p q r)

  -- as long as the first
  pub long-row : (r p : List ℕ) (t : ℕ) → length p ≤ length r → length (add (G m) r (map ((G m).mul t) p)) ≡ length r
  long-row r p t h = length-add-left (G m) r (map ((G m).mul t) p) (omega (arith, length-map p ((G m).mul t)))
