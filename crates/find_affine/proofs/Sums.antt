-- The sums of one number and any of the vectors.
--   spanned-all        what holds of `first` and is kept by each vector holds of all sums
--   spanned-member     a sum over the digits of any number is among them
--   spanned-shifted    a number added to all is added to `first`
--   spanned-ascending  they ascend, where each vector leads at its own place and no other has a digit there
-- Assumes nothing.
use mathlib.Core.Path.{◌≡◌, refl, sym, ap, ap₂, ◌∙◌, subst}
use mathlib.Core.Bool.{Bool, true, false, cond}
use mathlib.Core.Logic.{◌⊎◌, ⊎_elim}
use mathlib.Core.List.Memᴰ
use mathlib.Core.List.{List, [], ◌∷◌, ◌++◌, map, map-append, Memᴰ}
use Prim.Native.Nat.{ℕ, zero, suc, ◌+◌, ◌*◌, ◌/◌, ◌%◌, ◌^◌, ◌≤◌, ◌<◌}
use native.Mathlib.Nat.{zero-mul, one-mul, mul-zero, div-eq_of_lt}
use native.Mathlib.Decide.{dec_lt}
use native.Mathlib.Omega.{arith}
use borrow.Author.Tests.{eqb-true, eqb-false}
use lib.Bits.{bit_xor, xor_comm, xor_zero_l, xor_zero_r, xor_shr, xor_shifted}
use lib.Dec.{eqb}
use lib.ListN.{get_or}
use lib.Pow.{shr_mono}
use Rattle.algebra.specs.Trial.{All, Ascending}
use Rattle.algebra.proofs.Trial.{all_map}
use Rattle.field.proofs.Digits.{bit-cases}
use Rattle.field.proofs.Xor.{xor_assoc, xor-digits}
use Rattle.find_affine.specs.Spaces.{spanned}
use Rattle.find_affine.proofs.Maps.{digit_of, digit-xor, sum_over}
use Rattle.find_affine.proofs.Turns.{lead-lt}

-- ---- lists

all_append : (P : ℕ → Type 0) (a b : List ℕ) → All P a → All P b → All P (a ++ b)
all_append P [] b h k = k
all_append P (x ∷ a) b h k = (h.0, all_append P a b h.1 k)

all-mapped : (P Q : ℕ → Type 0) (f : ℕ → ℕ) (l : List ℕ) → ((x : ℕ) → P x → Q (f x)) → All P l → All Q (map f l)
all-mapped P Q f [] g h = tt
all-mapped P Q f (x ∷ l) g h = (g x h.0, all-mapped P Q f l g h.1)

member-front : {x : ℕ} (a b : List ℕ) → Memᴰ x a → Memᴰ x (a ++ b)
member-front [] b m = absurd (Memᴰ.not-nil m)
member-front (y ∷ a) b m = ⊎_elim (λ e. Memᴰ.head e) (λ i. Memᴰ.tail (member-front a b i)) (Memᴰ.cases_cons m)

member-behind : {x : ℕ} (a b : List ℕ) → Memᴰ x b → Memᴰ x (a ++ b)
member-behind [] b m = m
member-behind (y ∷ a) b m = Memᴰ.tail (member-behind a b m)

member-mapped : (f : ℕ → ℕ) {x : ℕ} (l : List ℕ) → Memᴰ x l → Memᴰ (f x) (map f l)
member-mapped f [] m = absurd (Memᴰ.not-nil m)
member-mapped f (y ∷ l) m = ⊎_elim (λ e. Memᴰ.head (ap f e)) (λ i. Memᴰ.tail (member-mapped f l i)) (Memᴰ.cases_cons m)

ascending-append : (a b : List ℕ) → Ascending a → Ascending b → All (λ x. All (λ y. x < y) b) a → Ascending (a ++ b)
ascending-append [] b h k l = k
ascending-append (x ∷ a) b h k l = (all_append (λ y. x < y) a b h.0 l.0, ascending-append a b h.1 k l.1)

-- two sums in either order
map-swap : (u v : ℕ) (l : List ℕ) → map (bit_xor u) (map (bit_xor v) l) ≡ map (bit_xor v) (map (bit_xor u) l)
map-swap u v [] = refl
map-swap u v (x ∷ l) =
    ap₂ (λ (a : ℕ) (k : List ℕ). a ∷ k) (sym (xor_assoc u v x) ∙ ap (λ a. bit_xor a x) (xor_comm u v) ∙ xor_assoc v u x) (map-swap u v l)

module _ (vectors : List ℕ) where
  abbrev v : ℕ → ℕ
  v j = get_or vectors j 0

  -- ---- what holds of all sums

  pub spanned-all : (P : ℕ → Type 0) (n first : ℕ) → P first → ((j : ℕ) → j < n → (z : ℕ) → P z → P (bit_xor (v j) z)) → All P (spanned n vectors first)
  unfolding spanned
  spanned-all P zero first h k = (h, tt)
  spanned-all P (suc n) first h k = go (eqb (v n) 0) (spanned-all P n first h (λ j l. k j (omega arith)))
    where
      go : (b : Bool) → All P (spanned n vectors first) → All P (cond b (spanned n vectors first) (spanned n vectors first ++ map (bit_xor (v n)) (spanned n vectors first)))
      go true a = a
      go false a = all_append P (spanned n vectors first) (map (bit_xor (v n)) (spanned n vectors first)) a (all-mapped P P (bit_xor (v n)) (spanned n vectors first) (k n (omega arith)) a)

  -- ---- every sum is among them

  pub spanned-member : (n first e : ℕ) → Memᴰ (bit_xor first (sum_over n v e)) (spanned n vectors first)
  unfolding spanned sum_over
  spanned-member zero first e = Memᴰ.head (xor_zero_r first)
  spanned-member (suc n) first e = go (eqb (v n) 0) (eqb-true (v n) 0) (sum_over n v e) (spanned n vectors first) (spanned-member n first e)
    where
      by-digit : (s : ℕ) (l : List ℕ) → Memᴰ (bit_xor first s) l → (d : ℕ) → Memᴰ (bit_xor first (bit_xor s (d % 2 * v n))) (l ++ map (bit_xor (v n)) l)
      by-digit s l m =
          bit-cases (λ d. Memᴰ (bit_xor first (bit_xor s (d * v n))) (l ++ map (bit_xor (v n)) l))
          (subst (λ x. Memᴰ x (l ++ map (bit_xor (v n)) l)) (ap (bit_xor first) (sym (ap (bit_xor s) (zero-mul (v n)) ∙ xor_zero_r s))) (member-front l (map (bit_xor (v n)) l) m))
          (subst (λ x. Memᴰ x (l ++ map (bit_xor (v n)) l))
          (xor_comm (v n) (bit_xor first s) ∙ xor_assoc first s (v n) ∙ ap (λ a. bit_xor first (bit_xor s a)) (sym (one-mul (v n))))
          (member-behind l (map (bit_xor (v n)) l) (member-mapped (bit_xor (v n)) l m)))

      go : (b : Bool) → (b ≡ true → v n ≡ 0) → (s : ℕ) (l : List ℕ) → Memᴰ (bit_xor first s) l
          → Memᴰ (bit_xor first (bit_xor s (digit_of n e * v n))) (cond b l (l ++ map (bit_xor (v n)) l))
      go true z s l m =
          subst (λ x. Memᴰ x l) (ap (bit_xor first) (sym (ap (λ a. bit_xor s (digit_of n e * a)) (z refl) ∙ ap (bit_xor s) (mul-zero (digit_of n e)) ∙ xor_zero_r s))) m
      go false z s l m = by-digit s l m (e / 2 ^ n)

  -- ---- a number added to all

  spanned-shifted : (n u first : ℕ) → map (bit_xor u) (spanned n vectors first) ≡ spanned n vectors (bit_xor u first)
  unfolding spanned
  spanned-shifted zero u first = refl
  spanned-shifted (suc n) u first = go (eqb (v n) 0) (spanned-shifted n u first)
    where
      go : (b : Bool) → map (bit_xor u) (spanned n vectors first) ≡ spanned n vectors (bit_xor u first)
          → map (bit_xor u) (cond b (spanned n vectors first) (spanned n vectors first ++ map (bit_xor (v n)) (spanned n vectors first)))
          ≡ cond b (spanned n vectors (bit_xor u first)) (spanned n vectors (bit_xor u first) ++ map (bit_xor (v n)) (spanned n vectors (bit_xor u first)))
      go true e = e
      go false e =
          map-append (bit_xor u) (spanned n vectors first) (map (bit_xor (v n)) (spanned n vectors first))
          ∙ ap₂ (λ a b. a ++ b) e (map-swap u (v n) (spanned n vectors first) ∙ ap (map (bit_xor (v n))) e)

  -- ---- their order

  module _ (lead : (j : ℕ) → (v j ≡ 0) ⊎ (v j / 2 ^ j ≡ 1)) (apart : (j l : ℕ) → j < l → (v j ≡ 0 → ⊥) → digit_of j (v l) ≡ 0) where
    -- above digit n all sums of the first n vectors are `first`
    high : (n first : ℕ) → All (λ z. z / 2 ^ n ≡ first / 2 ^ n) (spanned n vectors first)
    high n first =
        spanned-all (λ z. z / 2 ^ n ≡ first / 2 ^ n) n first refl
        (λ j h z e. xor_shr (v j) z n ∙ ap₂ bit_xor (div-eq_of_lt (lead-lt j n (lead j) h)) e ∙ xor_zero_l (first / 2 ^ n))

    -- the number with digit n follows the one without
    next-high : (n first : ℕ) → digit_of n first ≡ 0 → v n / 2 ^ n ≡ 1 → first / 2 ^ n < bit_xor (v n) first / 2 ^ n
    next-high n first z o =
        let q = first / 2 ^ n in
        let e : bit_xor (v n) first / 2 ^ n ≡ bit_xor 1 q = xor_shr (v n) first n ∙ ap (λ a. bit_xor a q) o in
        let d : q / 2 * 2 ≡ q = sym (xor_zero_l (q / 2 * 2)) ∙ ap (λ a. bit_xor a (q / 2 * 2)) (sym z) ∙ xor-digits q in
        let f : bit_xor 1 q ≡ q + 1 = xor_comm 1 q ∙ ap (λ a. bit_xor a 1) (sym d) ∙ xor_shifted (q / 2) 1 1 (let l : 1 < 2 = omega arith in l) ∙ ap (λ a. a + 1) d in
        omega arith

    below-high : (n a b : ℕ) → a / 2 ^ n < b / 2 ^ n → a < b
    below-high n a b h = go (dec_lt a b)
      where
        go : Dec (a < b) → a < b
        go (yes l) = l
        go (no l) = let m : b / 2 ^ n ≤ a / 2 ^ n = shr_mono n (let k : b ≤ a = omega arith in k) in absurd (let z : ⊥ = omega arith in z)

    -- the second half, and that it follows the first
    module _ (n first : ℕ) (zeros : (j : ℕ) → j < suc n → (v j ≡ 0 → ⊥) → digit_of j first ≡ 0) (live : v n ≡ 0 → ⊥) where
      leads : v n / 2 ^ n ≡ 1
      leads = ⊎_elim (λ e. absurd (live e)) (λ o. o) (lead n)

      shifted-zeros : (j : ℕ) → j < n → (v j ≡ 0 → ⊥) → digit_of j (bit_xor (v n) first) ≡ 0
      shifted-zeros j h k = digit-xor j (v n) first ∙ ap₂ bit_xor (apart j n h k) (zeros j (omega arith) k)

      between : All (λ x. All (λ y. x < y) (spanned n vectors (bit_xor (v n) first))) (spanned n vectors first)
      between =
          let o = next-high n first (zeros n (omega arith) live) leads in
          all_map {P = λ x. x / 2 ^ n ≡ first / 2 ^ n} {Q = λ x. All (λ y. x < y) (spanned n vectors (bit_xor (v n) first))}
          (λ x e. all_map {P = λ y. y / 2 ^ n ≡ bit_xor (v n) first / 2 ^ n} {Q = λ y. x < y} (λ y f. below-high n x y (omega arith))
          (spanned n vectors (bit_xor (v n) first)) (high n (bit_xor (v n) first))) (spanned n vectors first) (high n first)

    pub spanned-ascending : (n first : ℕ) → ((j : ℕ) → j < n → (v j ≡ 0 → ⊥) → digit_of j first ≡ 0) → Ascending (spanned n vectors first)
    unfolding spanned
    spanned-ascending zero first z = (tt, tt)
    spanned-ascending (suc n) first z =
        go (eqb (v n) 0) (eqb-false (v n) 0) (spanned-ascending n first (λ j h. z j (omega arith)))
        (λ k. spanned-ascending n (bit_xor (v n) first) (shifted-zeros n first z k))
      where
        go : (b : Bool) → (b ≡ false → v n ≡ 0 → ⊥) → Ascending (spanned n vectors first)
            → ((v n ≡ 0 → ⊥) → Ascending (spanned n vectors (bit_xor (v n) first)))
            → Ascending (cond b (spanned n vectors first) (spanned n vectors first ++ map (bit_xor (v n)) (spanned n vectors first)))
        go true k h i = h
        go false k h i =
            subst (λ l. Ascending (spanned n vectors first ++ l)) (sym (spanned-shifted n (v n) first))
            (ascending-append (spanned n vectors first) (spanned n vectors (bit_xor (v n) first)) h (i (k refl)) (between n first z (k refl)))
