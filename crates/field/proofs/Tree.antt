-- A list as a binary tree, so that antt looks an entry up in as many steps as its place has digits.
--   grow n xs   the first 2^n entries as a tree, by the digits of their place, the lowest first
--   look        the entry at a place
--   look_is     it is the list's entry
-- Assumes nothing.
use mathlib.Core.Path.{◌≡◌, refl, sym, ap, ◌∙◌, subst}
use mathlib.Core.Bool.{Bool, true, false}
use mathlib.Core.List.{List, [], ◌∷◌}
use Prim.Native.Nat.{ℕ, zero, suc, ◌*◌, ◌/◌, ◌%◌, ◌^◌, ◌<◌}
use native.Mathlib.Nat.{pow-suc, div-lt_iff_lt-mul, zero-lt-suc, div-add-mod'}
use native.Mathlib.Omega.{arith}
use borrow.Author.Tests.{eqb-true, eqb-false}
use lib.Arith.{lt-one}
use lib.Dec.{eqb}
use lib.ListN.{get_or}

pub data Tree : Type 0 where
  leaf : ℕ → Tree
  node : Tree → Tree → Tree

-- the entries at even places, and those at odd places
unfoldable pub evens : List ℕ → List ℕ
evens [] = []
evens (x ∷ []) = x ∷ []
evens (x ∷ y ∷ xs) = x ∷ evens xs

unfoldable pub odds : List ℕ → List ℕ
odds [] = []
odds (x ∷ []) = []
odds (x ∷ y ∷ xs) = y ∷ odds xs

unfoldable pub grow : ℕ → List ℕ → Tree
unfolding evens odds
grow zero xs = leaf (get_or xs 0 0)
grow (suc n) xs = node (grow n (evens xs)) (grow n (odds xs))

-- `elim`, since its cases wait: the arguments of `cond` would be computed both, so that each look went through the
-- whole tree
unfoldable pub look : Tree → ℕ → ℕ
look (leaf v) x = v
look (node l r) x = elim (eqb (x % 2) 0) [ true ↦ look l (x / 2) | false ↦ look r (x / 2) ]

even-at : (xs : List ℕ) (k : ℕ) → get_or (evens xs) k 0 ≡ get_or xs (k * 2) 0
unfolding evens
even-at [] k = refl
even-at (x ∷ []) zero = refl
even-at (x ∷ []) (suc k) = ap (λ (n : ℕ). get_or (x ∷ []) n 0) (sym (let e : suc k * 2 ≡ suc (suc (k * 2)) = omega arith in e))
even-at (x ∷ y ∷ xs) zero = refl
even-at (x ∷ y ∷ xs) (suc k) = even-at xs k ∙ ap (λ (n : ℕ). get_or (x ∷ y ∷ xs) n 0) (sym (let e : suc k * 2 ≡ suc (suc (k * 2)) = omega arith in e))

odd-at : (xs : List ℕ) (k : ℕ) → get_or (odds xs) k 0 ≡ get_or xs (suc (k * 2)) 0
unfolding odds
odd-at [] k = refl
odd-at (x ∷ []) k = refl
odd-at (x ∷ y ∷ xs) zero = refl
odd-at (x ∷ y ∷ xs) (suc k) = odd-at xs k ∙ ap (λ (n : ℕ). get_or (x ∷ y ∷ xs) (suc n) 0) (sym (let e : suc k * 2 ≡ suc (suc (k * 2)) = omega arith in e))

pub look_is : (n : ℕ) (xs : List ℕ) (x : ℕ) → x < 2 ^ n → look (grow n xs) x ≡ get_or xs x 0
unfolding grow look
look_is zero xs x h = ap (λ (k : ℕ). get_or xs k 0) (sym (lt-one h))
look_is (suc n) xs x h =
    go (look_is n (evens xs) (x / 2) half) (look_is n (odds xs) (x / 2) half) (eqb (x % 2) 0) refl
  where
    half : x / 2 < 2 ^ n
    half = (div-lt_iff_lt-mul (zero-lt-suc 1)).1 (subst (λ (t : ℕ). x < t) (pow-suc 2 n) h)

    go : look (grow n (evens xs)) (x / 2) ≡ get_or (evens xs) (x / 2) 0 → look (grow n (odds xs)) (x / 2) ≡ get_or (odds xs) (x / 2) 0
        → (b : Bool) → eqb (x % 2) 0 ≡ b → elim b [ true ↦ look (grow n (evens xs)) (x / 2) | false ↦ look (grow n (odds xs)) (x / 2) ] ≡ get_or xs x 0
    go l r true e =
        l ∙ even-at xs (x / 2) ∙ ap (λ (k : ℕ). get_or xs k 0) (let z = eqb-true (x % 2) 0 e in omega (arith, div-add-mod' x 2))
    go l r false e =
        r ∙ odd-at xs (x / 2) ∙ ap (λ (k : ℕ). get_or xs k 0) (let z = eqb-false (x % 2) 0 e in omega (arith, div-add-mod' x 2))
