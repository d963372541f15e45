-- Laws of lists that the other files share.
--   Test, test                          what a test a < b has found
--   true-or-false                       a test is true or false
--   keep_all, keep_append, keep-keep    of what a test keeps
--   keep-both                           those that pass a test and those that do not
--   all_append, all_of_map, all-to-map  of what holds of each element
-- Assumes nothing.
use mathlib.Core.Path.{◌≡◌, refl, ap}
use mathlib.Core.Logic.{◌⊎◌, inl, inr}
use mathlib.Core.Bool.{Bool, true, false, not, cond, ◌&&◌}
use mathlib.Core.List.{List, [], ◌∷◌, ◌++◌, map}
use Prim.Native.Nat.{ℕ, suc, ◌+◌, ◌≤◌, ◌<◌}
use native.Mathlib.Omega.{arith}
use borrow.Author.Tests.{ltb-true, ltb-false}
use lib.Dec.{ltb}
use lib.ListN.{length}
use Rattle.algebra.specs.Trial.{keep, All}

-- a < b, or not
pub data Test (a b : ℕ) : Bool → Type 0 where
  less : a < b → Test a b true
  least : b ≤ a → Test a b false

-- what it has found
pub test : (a b : ℕ) → Test a b (ltb a b)
test a b = go (ltb a b) refl
  where
    go : (t : Bool) → ltb a b ≡ t → Test a b t
    go true e = less (ltb-true a b e)
    go false e = least (ltb-false a b e)

-- one of both
pub true-or-false : (b : Bool) → (b ≡ true) ⊎ (b ≡ false)
true-or-false true = inl refl
true-or-false false = inr refl

module _ {A : Type 0} where
  pub keep_all : (s : List A) → keep (λ r. true) s ≡ s
  keep_all [] = refl
  keep_all (r ∷ s) = ap (λ l. r ∷ l) (keep_all s)

  pub keep_append : (t : A → Bool) (s u : List A) → keep t (s ++ u) ≡ keep t s ++ keep t u
  keep_append t [] u = refl
  keep_append t (r ∷ s) u = go (t r) (keep_append t s u)
    where
      go : (b : Bool) → keep t (s ++ u) ≡ keep t s ++ keep t u
          → cond b (r ∷ keep t (s ++ u)) (keep t (s ++ u)) ≡ cond b (r ∷ keep t s) (keep t s) ++ keep t u
      go true e = ap (λ l. r ∷ l) e
      go false e = e

  pub keep-keep : (t u : A → Bool) (s : List A) → keep t (keep u s) ≡ keep (λ r. u r && t r) s
  keep-keep t u [] = refl
  keep-keep t u (r ∷ s) = go (u r) (keep-keep t u s)
    where
      go : (b : Bool) → keep t (keep u s) ≡ keep (λ x. u x && t x) s
          → keep t (cond b (r ∷ keep u s) (keep u s)) ≡ cond (b && t r) (r ∷ keep (λ x. u x && t x) s) (keep (λ x. u x && t x) s)
      go true e = ap (λ l. cond (t r) (r ∷ l) l) e
      go false e = e

  pub keep-both : (t : A → Bool) (s : List A) → length (keep (λ r. not (t r)) s) + length (keep t s) ≡ length s
  keep-both t [] = refl
  keep-both t (r ∷ s) = go (t r) (keep (λ x. not (t x)) s) (keep t s) (keep-both t s)
    where
      go : (b : Bool) (k l : List A) → length k + length l ≡ length s → length (cond (not b) (r ∷ k) k) + length (cond b (r ∷ l) l) ≡ suc (length s)
      go true k l e = omega arith
      go false k l e = omega arith

  pub all_append : (P : A → Type 0) (s t : List A) → All P s → All P t → All P (s ++ t)
  all_append P [] t h k = k
  all_append P (x ∷ s) t h k = (h.0, all_append P s t h.1 k)

module _ {A B : Type 0} where
  pub all-to-map : (P : B → Type 0) (Q : A → Type 0) (f : A → B) (s : List A) → ((x : A) → Q x → P (f x)) → All Q s → All P (map f s)
  all-to-map P Q f [] h k = tt
  all-to-map P Q f (x ∷ s) h k = (h x k.0, all-to-map P Q f s h k.1)

  -- where it holds of every f x
  pub all-mapped : (P : B → Type 0) (f : A → B) (s : List A) → ((x : A) → P (f x)) → All P (map f s)
  all-mapped P f [] h = tt
  all-mapped P f (x ∷ s) h = (h x, all-mapped P f s h)

  pub all_of_map : (P : B → Type 0) (f : A → B) (s : List A) → All P (map f s) → All (λ x. P (f x)) s
  all_of_map P f [] h = tt
  all_of_map P f (x ∷ s) h = (h.0, all_of_map P f s h.1)
