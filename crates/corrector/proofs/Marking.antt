-- The places of a locator polynomial: place j is named exactly where the polynomial is zero at the inverse of a^j, and
-- each is named once.
--   place-below       a place stands in the word, and tells its root
--   roots-nonzero     no root is 0
--   places-distinct   each place once;  places-member  exactly these;  places-below  all in the word
-- Assumes nothing.
use mathlib.Core.Path.{◌≡◌, refl, sym, ap, ap₂, ◌∙◌, subst}
use mathlib.Core.Logic.{◌≢◌, ◌↔◌, ⊎_elim}
use mathlib.Core.List.Memᴰ
use mathlib.Core.List.{List, [], ◌∷◌, map, Memᴰ}
use Prim.Native.Nat.{ℕ, zero, suc, ◌+◌, ◌-◌, ◌<◌}
use native.Mathlib.Omega.{arith}
use lib.Bits.{bit_xor}
use lib.Dec.{T, eqb→eq}
use lib.ListN.{get_or}
use Rattle.algebra.specs.Field.{power}
use Rattle.algebra.specs.Trial.{All, Distinct}
use Rattle.algebra.specs.Polynomial.{eval, is_root}
use Rattle.algebra.proofs.RootList.{roots_of-distinct, roots_of-member}
use Rattle.field.specs.Field.{field_at, mul, inverse, position, roots_at}
use Rattle.field.proofs.Ring.{ring, power-lt, power-add}
use Rattle.field.proofs.Generator.{one_below, inverse-lt, inverse-only, mul-inverse, position-only, position-is, power-order}
use Rattle.field_elements.specs.Calls.{position_under}
use Rattle.field_elements.proofs.Mirror.{goppa, of-inverse}
use Rattle.corrector_code.specs.Eleven.{F11}
use Rattle.corrector_code.proofs.Eleven.{gen11}
use Rattle.corrector.specs.Places.{places_of, IsRoot}
open ring (field_at 11) gen11.monic use {mul_comm, mul-zero-l, mul-zero-r}

-- ---- inverses

inverse-positive : (x : ℕ) → 0 < x → x < 2048 → 0 < inverse (field_at 11) x
inverse-positive x h l = go (inverse (field_at 11) x) refl
  where
    go : (y : ℕ) → inverse (field_at 11) x ≡ y → 0 < y
    go zero e = let z : ◌≡◌ {A = ℕ} 0 1 = sym (mul-zero-r x) ∙ ap (mul (field_at 11) x) (sym e) ∙ mul-inverse (field_at 11) gen11 x h l in absurd (let b : ⊥ = omega arith in b)
    go (suc y) e = omega arith

inverse-twice : (x : ℕ) → 0 < x → x < 2048 → inverse (field_at 11) (inverse (field_at 11) x) ≡ x
inverse-twice x h l =
    inverse-only (field_at 11) gen11 (inverse (field_at 11) x) x (inverse-positive x h l) (inverse-lt (field_at 11) gen11 x) l
    (mul_comm (inverse (field_at 11) x) x ∙ mul-inverse (field_at 11) gen11 x h l)

-- the place of a root is the position of its inverse
place_is : (r : ℕ) → 0 < r → r < 2048 → position_under 1 (field_at 11) r ≡ position (field_at 11) (inverse (field_at 11) r)
place_is r h l = of-inverse (field_at 11) gen11 r h l ∙ goppa (field_at 11) (inverse (field_at 11) r) 0 refl

pub place-below : (r : ℕ) → 0 < r → r < 2048 → (position_under 1 (field_at 11) r < 2047) × (inverse (field_at 11) (power F11 2 (position_under 1 (field_at 11) r)) ≡ r)
place-below r h l =
    let p = position-is (field_at 11) gen11 (inverse (field_at 11) r) (inverse-positive r h l) (inverse-lt (field_at 11) gen11 r) in
    (subst (λ (n : ℕ). n < 2047) (sym (place_is r h l)) p.0, ap (λ (n : ℕ). inverse (field_at 11) (power F11 2 n)) (place_is r h l) ∙ ap (inverse (field_at 11)) p.1 ∙ inverse-twice r h l)

power-positive : (j : ℕ) → j < 2047 → 0 < power F11 2 j
power-positive j h = go (power F11 2 j) refl
  where
    -- 0 would have to be a power of its own position
    go : (y : ℕ) → power F11 2 j ≡ y → 0 < y
    go zero e =
        let z : ◌≡◌ {A = ℕ} 0 1 = sym (mul-zero-l (power F11 2 (2047 - j))) ∙ ap (λ (x : ℕ). mul (field_at 11) x (power F11 2 (2047 - j))) (sym e) ∙ sum in
        absurd (let b : ⊥ = omega arith in b)
      where
        sum : mul (field_at 11) (power F11 2 j) (power F11 2 (2047 - j)) ≡ 1
        sum = sym (power-add (field_at 11) gen11.monic (one_below (field_at 11) gen11) 2 j (2047 - j)) ∙ ap (power F11 2) (let e : j + (2047 - j) ≡ 2047 = omega arith in e) ∙ power-order (field_at 11) gen11
    go (suc y) e = omega arith

place-back : (j : ℕ) → j < 2047 → position_under 1 (field_at 11) (inverse (field_at 11) (power F11 2 j)) ≡ j
place-back j h =
    let x : ℕ = power F11 2 j in
    let p : 0 < x = power-positive j h in
    let l : x < 2048 = power-lt (field_at 11) gen11.monic (one_below (field_at 11) gen11) 2 j in
    place_is (inverse (field_at 11) x) (inverse-positive x p l) (inverse-lt (field_at 11) gen11 x) ∙ ap (position (field_at 11)) (inverse-twice x p l) ∙ position-only (field_at 11) gen11 x j h refl

-- ---- members and distinctness of a list of images

mem-map : (f : ℕ → ℕ) (s : List ℕ) (y : ℕ) → Memᴰ y s → Memᴰ (f y) (map f s)
mem-map f [] y m = absurd (Memᴰ.not-nil m)
mem-map f (x ∷ s) y m = ⊎_elim (λ e. Memᴰ.head (ap f e)) (λ i. Memᴰ.tail (mem-map f s y i)) (Memᴰ.cases_cons m)

map-mem : (f : ℕ → ℕ) (s : List ℕ) (x : ℕ) → Memᴰ x (map f s) → (y : ℕ) × Memᴰ y s × (x ≡ f y)
map-mem f [] x m = absurd (Memᴰ.not-nil m)
map-mem f (y ∷ s) x m = ⊎_elim (λ e. (y, Memᴰ.head refl, e)) (λ i. let r = map-mem f s x i in (r.0, Memᴰ.tail r.1, r.2)) (Memᴰ.cases_cons m)

distinct-map : (f : ℕ → ℕ) (P : ℕ → Type 0) → ((x y : ℕ) → P x → P y → f x ≡ f y → x ≡ y) → (s : List ℕ) → All P s → Distinct s → Distinct (map f s)
distinct-map f P inj [] a d = tt
distinct-map f P inj (x ∷ s) a d = (go s a.1 d.0, distinct-map f P inj s a.1 d.1)
  where
    go : (s : List ℕ) → All P s → All (λ y. x ≢ y) s → All (λ y. f x ≢ y) (map f s)
    go [] a d = tt
    go (y ∷ s) b d = (λ e. d.0 (inj x y a.0 b.0 e), go s b.1 d.1)

all-mem : (P : ℕ → Type 0) (s : List ℕ) → ((x : ℕ) → Memᴰ x s → P x) → All P s
all-mem P [] h = tt
all-mem P (x ∷ s) h = (h x (Memᴰ.head refl), all-mem P s (λ y m. h y (Memᴰ.tail m)))

-- ---- the roots of a polynomial that is 1 at 0

module _ (p : List ℕ) (first : get_or p 0 0 ≡ 1) where
  at_zero : (q : List ℕ) → get_or q 0 0 ≡ 1 → eval F11 q 0 ≡ 1
  unfolding eval
  at_zero [] e = e
  at_zero (c ∷ q) e = ap₂ bit_xor e (mul-zero-l (eval F11 q 0))

  root-positive : (r : ℕ) → T (is_root F11 p r) → 0 < r
  root-positive zero t = let z : ◌≡◌ {A = ℕ} 1 0 = sym (at_zero p first) ∙ eqb→eq (eval F11 p 0) 0 t in absurd (let b : ⊥ = omega arith in b)
  root-positive (suc r) t = omega arith

  root_in : (r : ℕ) → Memᴰ r (roots_at 11 p) → IsRoot r × T (is_root F11 p r)
  root_in r m = let h = (roots_of-member F11 2048 p r).0 m in ((root-positive r h.1, h.0), h.1)

  pub roots-nonzero : All IsRoot (roots_at 11 p)
  roots-nonzero = all-mem IsRoot (roots_at 11 p) (λ r m. (root_in r m).0)

  -- each place once
  pub places-distinct : Distinct (places_of p)
  unfolding places_of
  places-distinct =
      distinct-map (position_under 1 (field_at 11)) IsRoot
      (λ x y a b e. sym (place-below x a.0 a.1).1 ∙ ap (λ (n : ℕ). inverse (field_at 11) (power F11 2 n)) e ∙ (place-below y b.0 b.1).1)
      (roots_at 11 p) roots-nonzero (roots_of-distinct F11 2048 p)

  -- exactly these places
  pub places-member : (x : ℕ) → Memᴰ x (places_of p) ↔ ((x < 2047) × T (is_root F11 p (inverse (field_at 11) (power F11 2 x))))
  unfolding places_of
  places-member x = (
    λ m. let r = map-mem (position_under 1 (field_at 11)) (roots_at 11 p) x m in
        let h = root_in r.0 r.1 in
        let b = place-below r.0 h.0.0 h.0.1 in
        (subst (λ (n : ℕ). n < 2047) (sym r.2) b.0, subst (λ (n : ℕ). T (is_root F11 p n)) (sym (ap (λ (n : ℕ). inverse (field_at 11) (power F11 2 n)) r.2 ∙ b.1)) h.1),
    λ h. let y : ℕ = inverse (field_at 11) (power F11 2 x) in
        subst (λ (n : ℕ). Memᴰ n (map (position_under 1 (field_at 11)) (roots_at 11 p))) (place-back x h.0)
        (mem-map (position_under 1 (field_at 11)) (roots_at 11 p) y ((roots_of-member F11 2048 p y).1 (inverse-lt (field_at 11) gen11 (power F11 2 x), h.1))),
  )

  pub places-below : All (λ j. j < 2047) (places_of p)
  places-below = all-mem (λ j. j < 2047) (places_of p) (λ j m. ((places-member j).0 m).0)
