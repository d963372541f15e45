-- Lists that the other files build on: what stands at a place of a table, of zeros, of a sum and of a multiple.
--   length-tabulate, get_d_tabulate   the length of a table, and its entry at a place
--   tabulate-below, tabulate-same    two tables with the same entries
--   get_or-zeros          zeros at every place, and behind them
--   get_or-ended          a 0 more at the end changes no place
--   get_or-add, get_or-scaled   the places of a sum and of a multiple of polynomials
--   length-add-le       the length of a sum whose second part is no longer
-- Assumes nothing.
use mathlib.Core.Path.{◌≡◌, refl, sym, ap, ap₂}
use mathlib.Core.List.{List, [], ◌∷◌, ◌++◌}
use Prim.Native.Nat.{ℕ, zero, suc, ◌<◌, ◌≤◌}
use native.Mathlib.Omega.{arith}
use lib.ListN.{get_or, length, replicate}
use Rattle.algebra.specs.Field.{Ops}
use Rattle.algebra.specs.Polynomial.{add}
use Rattle.poly_values.specs.Transform.{scaled}
use Rattle.poly_values.specs.Planes.{tabulate}

-- ---- tables

pub length-tabulate : (n : ℕ) (f : ℕ → ℕ) → length (tabulate n f) ≡ n
length-tabulate zero f = refl
length-tabulate (suc n) f = ap suc (length-tabulate n (λ k. f (suc k)))

pub get_d_tabulate : (n : ℕ) (f : ℕ → ℕ) (i : ℕ) → i < n → get_or (tabulate n f) i 0 ≡ f i
get_d_tabulate zero f i h = absurd (omega arith)
get_d_tabulate (suc n) f zero h = refl
get_d_tabulate (suc n) f (suc i) h = get_d_tabulate n (λ k. f (suc k)) i (omega arith)

pub tabulate-below : (n : ℕ) (f g : ℕ → ℕ) → ((k : ℕ) → k < n → f k ≡ g k) → tabulate n f ≡ tabulate n g
tabulate-below zero f g h = refl
tabulate-below (suc n) f g h =
    ap₂ ◌∷◌ (h 0 (omega arith)) (tabulate-below n (λ k. f (suc k)) (λ k. g (suc k)) (λ k l. h (suc k) (omega arith)))

pub tabulate-same : (n : ℕ) (f g : ℕ → ℕ) → ((k : ℕ) → f k ≡ g k) → tabulate n f ≡ tabulate n g
tabulate-same n f g h = tabulate-below n f g (λ k l. h k)

-- ---- places

pub get_or-zeros : (n i : ℕ) → get_or {A = ℕ} (replicate {A = ℕ} n 0) i 0 ≡ 0
get_or-zeros zero i = refl
get_or-zeros (suc n) zero = refl
get_or-zeros (suc n) (suc i) = get_or-zeros n i

pub get_or-ended : (b : List ℕ) (i : ℕ) → get_or (b ++ 0 ∷ []) i 0 ≡ get_or b i 0
get_or-ended [] zero = refl
get_or-ended [] (suc i) = refl
get_or-ended (x ∷ b) zero = refl
get_or-ended (x ∷ b) (suc i) = get_or-ended b i

-- over any operations whose 0 adds nothing
module _ {K : Type 0} (F : Ops K) where
  pub get_or-add : ((x : K) → F.add F.zero x ≡ x) → ((x : K) → F.add x F.zero ≡ x) → (a b : List K) (k : ℕ)
      → get_or (add F a b) k F.zero ≡ F.add (get_or a k F.zero) (get_or b k F.zero)
  unfolding add
  get_or-add l r [] b k = sym (l (get_or b k F.zero))
  get_or-add l r (x ∷ a) [] k = sym (r (get_or (x ∷ a) k F.zero))
  get_or-add l r (x ∷ a) (y ∷ b) zero = refl
  get_or-add l r (x ∷ a) (y ∷ b) (suc k) = get_or-add l r a b k

  pub get_or-scaled : (e : K) → F.mul e F.zero ≡ F.zero → (a : List K) (k : ℕ) → get_or (scaled F e a) k F.zero ≡ F.mul e (get_or a k F.zero)
  get_or-scaled e z [] k = sym z
  get_or-scaled e z (x ∷ a) zero = refl
  get_or-scaled e z (x ∷ a) (suc k) = get_or-scaled e z a k

  pub length-add-le : (a b : List K) → length b ≤ length a → length (add F a b) ≡ length a
  unfolding add
  length-add-le [] [] h = refl
  length-add-le [] (y ∷ b) h = absurd (omega arith)
  length-add-le (x ∷ a) [] h = refl
  length-add-le (x ∷ a) (y ∷ b) h = ap suc (length-add-le a b (omega arith))
