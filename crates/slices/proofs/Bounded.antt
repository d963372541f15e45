-- The tests of a list against a bound mean what they say.
--   all_below-exactly  `all_below q l` passes exactly where all elements are below q
--   From              an element of l that is at least q
--   any_from-exactly   `any_from q l` passes exactly where there is one
--   all_zero-exactly   `all_zero l` passes exactly where l is a list of zeros
--   all_below-append   of two lists, one behind the other, both pass
-- Assumes nothing.
use mathlib.Core.Path.{◌≡◌, refl, sym, ap, ap₂, ◌∙◌}
use mathlib.Core.Logic.{◌↔◌}
use mathlib.Core.Bool.{Bool, true, false, not, ◌&&◌, and_assoc, and-eq-true_iff}
use mathlib.Core.List.{List, [], ◌∷◌, ◌++◌, Memᴰ}
use Prim.Native.Nat.{ℕ, zero, suc, ◌≤◌, ◌<◌}
use native.Mathlib.Omega.{arith}
use borrow.Author.Tests.{lt-ltb, ltb-true, ltb-false, not-true}
use lib.Dec.{ltb}
use lib.ListN.{length, replicate}
use Rattle.algebra.specs.Polynomial.{Below}
use Rattle.algebra.proofs.Trial.{all-at}
use Rattle.slices.specs.Bounded.{all_below, any_from, all_zero}

-- what a passed test says
passed : (q : ℕ) (l : List ℕ) → all_below q l ≡ true → Below q l
unfolding all_below
passed q [] e = tt
passed q (x ∷ l) e = let p = (and-eq-true_iff (ltb x q) (all_below q l)).0 e in (ltb-true x q p.0, passed q l p.1)

-- when the test passes
passes : (q : ℕ) (l : List ℕ) → Below q l → all_below q l ≡ true
unfolding all_below
passes q [] h = refl
passes q (x ∷ l) h = rw (lt-ltb x q h.0) (passes q l h.1)

-- the test passes exactly where all elements are below q
pub all_below-exactly : (q : ℕ) (l : List ℕ) → (all_below q l ≡ true) ↔ Below q l
all_below-exactly q l = (passed q l, passes q l)

-- an element of l that is at least q
pub record From (q : ℕ) (l : List ℕ) : Type 0 where
  pub element : ℕ
  pub among : Memᴰ element l
  pub least : q ≤ element

-- where the test fails, some element is at least q
found : (q : ℕ) (l : List ℕ) → all_below q l ≡ false → From q l
unfolding all_below
found q [] e = let x : ◌≡◌ {A = ℕ} 0 1 = cc in absurd (omega arith)
found q (x ∷ l) e = go (ltb x q) refl e (found q l)
  where
    go : (b : Bool) → ltb x q ≡ b → (b && all_below q l) ≡ false → (all_below q l ≡ false → From q l) → From q (x ∷ l)
    go true t f i = let r = i f in record { element = r.element; among = Memᴰ.tail r.among; least = r.least }
    go false t f i = record { element = x; among = Memᴰ.head refl; least = ltb-false x q t }

-- exactly where some element is at least q
pub any_from-exactly : (q : ℕ) (l : List ℕ) → (any_from q l ≡ true) ↔ From q l
any_from-exactly q l = (λ e. found q l (not-true (all_below q l) e), λ r. go r (all_below q l) refl)
  where
    go : From q l → (b : Bool) → all_below q l ≡ b → not b ≡ true
    go r true e = absurd (omega (arith, r.least, all-at (λ x. x < q) l (passed q l e) r.among))
    go r false e = refl

-- exactly where the list is one of zeros
pub all_zero-exactly : (l : List ℕ) → (all_zero l ≡ true) ↔ (l ≡ replicate (length l) 0)
all_zero-exactly l = (λ e. zeros l (passed 1 l e), λ e. ap (all_below 1) e ∙ passes 1 (replicate (length l) 0) (below (length l)))
  where
    zeros : (s : List ℕ) → Below 1 s → s ≡ replicate (length s) 0
    zeros [] h = refl
    zeros (x ∷ s) h = let z : x ≡ 0 = omega (arith, h.0) in ap₂ (λ y u. y ∷ u) z (zeros s h.1)

    below : (n : ℕ) → Below 1 (replicate n 0)
    below zero = tt
    below (suc n) = (omega arith, below n)

-- both parts pass
pub all_below-append : (q : ℕ) (s l : List ℕ) → all_below q (s ++ l) ≡ (all_below q s && all_below q l)
unfolding all_below
all_below-append q [] l = refl
all_below-append q (x ∷ s) l = ap (λ b. ltb x q && b) (all_below-append q s l) ∙ sym (and_assoc (ltb x q) (all_below q s) (all_below q l))
