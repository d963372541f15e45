-- Plain trial finds what it says: the first number that passes, and all numbers that pass, ascending and once.
--   first-is        the first number that passes is x, where x passes and none below it does
--   first-only      the same, where x alone passes
--   first_found     where some number passes, the first is one that does
--   first-least     no number below the first passes
--   first-none      where none passes, it is the number behind them
--   kept-ascending  the numbers kept ascend
--   kept-exactly    they are the numbers below n that pass
--   kept-only       no other ascending list has these members
--   all-at, all_map, all_keep        of what holds of all elements
--   keep-passed, kept-member         what is kept passes, and was there
--   up_from-all, up_from-member, up_from-ascending, length-up_from   of numbers in a row
--   ascending-keep, ascending-distinct, ascending-same           of lists that ascend
--   ascending-fewer, ascending-whole    of two lists that ascend, where one has the members of the other
--   distinct-keep, keep_same, length-keep                        of what a test keeps of any list
-- Assumes nothing.
use mathlib.Core.Path.{◌≡◌, ap, ap₂, refl, subst, sym}
use mathlib.Core.Logic.{◌↔◌, ◌≢◌, ⊎_elim}
use mathlib.Core.Bool.{Bool, cond, false, true}
use mathlib.Core.List.Memᴰ
use mathlib.Core.List.{List, Memᴰ, [], ◌∷◌}
use Prim.Native.Nat.{◌+◌, ◌<◌, ◌≤◌, suc, zero, ℕ}
use native.Mathlib.Nat.{eq-or-lt_of_le}
use native.Mathlib.Decide.{dec_lt}
use native.Mathlib.Omega.{arith}
use lib.Dec.{T}
use lib.ListN.{length}
use Rattle.algebra.specs.Trial.{All, Ascending, Distinct, first_from, keep, up_from}

-- ---- the first

-- a test that passes, and one that does not, inside `cond`
cond_yes : {A : Type 0} (b : Bool) (u v : A) → T b → cond b u v ≡ u
cond_yes true u v h = refl
cond_yes false u v h = absurd h

cond_no : {A : Type 0} (b : Bool) (u v : A) → (T b → ⊥) → cond b u v ≡ v
cond_no true u v h = absurd (h tt)
cond_no false u v h = refl

from_is : (t : ℕ → Bool) (k n x : ℕ) → k ≤ x → x < k + n → T (t x) → ((y : ℕ) → k ≤ y → y < x → T (t y) → ⊥) → first_from t k n ≡ x
unfolding first_from
from_is t k zero x a b h none = absurd (omega arith)
from_is t k (suc n) x a b h none =
    ⊎_elim at (λ l. ahead l (from_is t (suc k) n x l (omega arith) h (λ y c d. none y (omega arith) d))) (eq-or-lt_of_le a)
  where
    at : k ≡ x → cond (t k) k (first_from t (suc k) n) ≡ x
    at e = rw (cond_yes (t k) k (first_from t (suc k) n) (subst (λ y. T (t y)) (sym e) h)) e

    ahead : k < x → first_from t (suc k) n ≡ x → cond (t k) k (first_from t (suc k) n) ≡ x
    ahead l e = rw (cond_no (t k) k (first_from t (suc k) n) (none k (omega arith) l)) e

-- the first number that passes is x, where x passes and none below it does
pub first-is : (t : ℕ → Bool) (n x : ℕ) → x < n → T (t x) → ((y : ℕ) → y < x → T (t y) → ⊥) → first_from t 0 n ≡ x
first-is t n x l h none = from_is t 0 n x (omega arith) (omega arith) h (λ y a b. none y b)

-- the same, where x alone passes
pub first-only : (t : ℕ → Bool) (n x : ℕ) → x < n → T (t x) → ((y : ℕ) → y < n → T (t y) → y ≡ x) → first_from t 0 n ≡ x
first-only t n x l h one = first-is t n x l h (λ y b p. omega (arith, one y (omega arith) p))

-- what is known of the first of n numbers from k: it is one that passes or the number behind, and none before it
-- passes
record First (t : ℕ → Bool) (k n f : ℕ) : Type 0 where
  reach : f ≤ k + n
  past : k ≤ f
  passes : f < k + n → T (t f)
  least : (y : ℕ) → k ≤ y → y < f → T (t y) → ⊥

first-from : (t : ℕ → Bool) (k n : ℕ) → First t k n (first_from t k n)
unfolding first_from
first-from t k zero = record { reach = omega arith; past = omega arith; passes = λ h. absurd (omega arith); least = λ y a b p. omega arith }
first-from t k (suc n) = go (t k) (λ h. h) (λ h. h) (first-from t (suc k) n)
  where
    go : (b : Bool) → (T b → T (t k)) → (T (t k) → T b) → First t (suc k) n (first_from t (suc k) n) → First t k (suc n) (cond b k (first_from t (suc k) n))
    go true i o r = record { reach = omega arith; past = omega arith; passes = λ h. i tt; least = λ y a b p. omega arith }
    go false i o r = record {
      reach = omega (arith, r.reach);
      past = omega (arith, r.past);
      passes = λ h. r.passes (omega arith);
      least = λ y a b p. ⊎_elim (λ e. o (subst (λ z. T (t z)) (sym e) p)) (λ l. r.least y l b p) (eq-or-lt_of_le a);
    }

-- where some number passes, the first is one that does
pub first_found : (t : ℕ → Bool) (n x : ℕ) → x < n → T (t x) → (first_from t 0 n < n) × T (t (first_from t 0 n))
first_found t n x l h = go (first-from t 0 n) (dec_lt x (first_from t 0 n))
  where
    go : First t 0 n (first_from t 0 n) → Dec (x < first_from t 0 n) → (first_from t 0 n < n) × T (t (first_from t 0 n))
    go r (yes g) = absurd (r.least x (omega arith) g h)
    go r (no g) = (omega arith, r.passes (omega arith))

-- no number below the first passes
pub first-least : (t : ℕ → Bool) (n y : ℕ) → y < first_from t 0 n → T (t y) → ⊥
first-least t n y l = (first-from t 0 n).least y (omega arith) l

-- where none passes, it is the number behind them
pub first-none : (t : ℕ → Bool) (n : ℕ) → ((y : ℕ) → y < n → T (t y) → ⊥) → first_from t 0 n ≡ n
first-none t n none = go (first-from t 0 n) (dec_lt (first_from t 0 n) n)
  where
    go : First t 0 n (first_from t 0 n) → Dec (first_from t 0 n < n) → first_from t 0 n ≡ n
    go r (yes g) = absurd (none (first_from t 0 n) g (r.passes (omega arith)))
    go r (no g) = omega (arith, r.reach)

-- ---- what holds of all elements

pub all-at : {A : Type 0} (P : A → Type 0) (s : List A) {x : A} → All P s → Memᴰ x s → P x
all-at P [] h m = absurd (Memᴰ.not-nil m)
all-at P (y ∷ s) h m = ⊎_elim (λ e. subst P (sym e) h.0) (λ i. all-at P s h.1 i) (Memᴰ.cases_cons m)

pub all_map : {A : Type 0} {P Q : A → Type 0} → ((x : A) → P x → Q x) → (s : List A) → All P s → All Q s
all_map f [] h = tt
all_map f (x ∷ s) h = (f x h.0, all_map f s h.1)

pub all_keep : {A : Type 0} (Q : A → Type 0) (t : A → Bool) (s : List A) → All Q s → All Q (keep t s)
all_keep Q t [] h = tt
all_keep Q t (r ∷ s) h = elim (t r) as (λ b. All Q (cond b (r ∷ keep t s) (keep t s))) [ true ↦ (h.0, all_keep Q t s h.1) | false ↦ all_keep Q t s h.1 ]

-- what is kept passes
pub keep-passed : {A : Type 0} (t : A → Bool) (s : List A) → All (λ r. T (t r)) (keep t s)
keep-passed t [] = tt
keep-passed {A} t (r ∷ s) = go (t r) (λ h. h) (keep-passed t s)
  where
    go : (b : Bool) → (T b → T (t r)) → All (λ x. T (t x)) (keep t s) → All (λ x. T (t x)) (cond b (r ∷ keep t s) (keep t s))
    go true h k = (h tt, k)
    go false h k = k

-- what is kept was there, and what was there and passes is kept
pub kept-member : {A : Type 0} (t : A → Bool) (s : List A) {x : A} → Memᴰ x (keep t s) ↔ (Memᴰ x s × T (t x))
kept-member {A} t [] {x} = (λ m. absurd (Memᴰ.not-nil m), λ h. absurd (Memᴰ.not-nil h.0))
kept-member {A} t (r ∷ s) {x} = go (t r) (λ e h. subst (λ y. T (t y)) e h) (λ e h. subst (λ y. T (t y)) (sym e) h) (kept-member t s {x = x})
  where
    go : (b : Bool) → (r ≡ x → T b → T (t x)) → (r ≡ x → T (t x) → T b) → Memᴰ x (keep t s) ↔ (Memᴰ x s × T (t x))
        → Memᴰ x (cond b (r ∷ keep t s) (keep t s)) ↔ (Memᴰ x (r ∷ s) × T (t x))
    go true i o rec = (
      λ m. ⊎_elim (λ e. (Memᴰ.head e, i (sym e) tt)) (λ k. (Memᴰ.tail (rec.0 k).0, (rec.0 k).1)) (Memᴰ.cases_cons m),
      λ h. ⊎_elim (λ e. Memᴰ.head e) (λ k. Memᴰ.tail (rec.1 (k, h.1))) (Memᴰ.cases_cons h.0),
    )
    go false i o rec = (
      λ m. (Memᴰ.tail (rec.0 m).0, (rec.0 m).1),
      λ h. ⊎_elim (λ e. absurd (o (sym e) h.1)) (λ k. rec.1 (k, h.1)) (Memᴰ.cases_cons h.0),
    )

-- ---- numbers in a row

pub up_from-all : (P : ℕ → Type 0) (k n : ℕ) → ((x : ℕ) → k ≤ x → x < k + n → P x) → All P (up_from k n)
unfolding up_from
up_from-all P k zero h = tt
up_from-all P k (suc n) h = (h k (omega arith) (omega arith), up_from-all P (suc k) n (λ x a b. h x (omega arith) (omega arith)))

pub up_from-ascending : (k n : ℕ) → Ascending (up_from k n)
unfolding up_from
up_from-ascending k zero = tt
up_from-ascending k (suc n) = (up_from-all (λ y. k < y) (suc k) n (λ x a b. a), up_from-ascending (suc k) n)

pub length-up_from : (k n : ℕ) → length (up_from k n) ≡ n
unfolding up_from
length-up_from k zero = refl
length-up_from k (suc n) = ap suc (length-up_from (suc k) n)

pub up_from-member : (k n x : ℕ) → k ≤ x → x < k + n → Memᴰ x (up_from k n)
unfolding up_from
up_from-member k zero x a b = absurd (omega arith)
up_from-member k (suc n) x a b = ⊎_elim (λ e. Memᴰ.head (sym e)) (λ l. Memᴰ.tail (up_from-member (suc k) n x l (omega arith))) (eq-or-lt_of_le a)

-- ---- lists that ascend

pub ascending-keep : (t : ℕ → Bool) (s : List ℕ) → Ascending s → Ascending (keep t s)
ascending-keep t [] h = tt
ascending-keep t (r ∷ s) h =
    elim (t r) as (λ b. Ascending (cond b (r ∷ keep t s) (keep t s)))
    [ true ↦ (all_keep (λ y. r < y) t s h.0, ascending-keep t s h.1) | false ↦ ascending-keep t s h.1 ]

pub ascending-distinct : (s : List ℕ) → Ascending s → Distinct s
ascending-distinct [] h = tt
ascending-distinct (x ∷ s) h = (all_map (λ y l. omega arith) s h.0, ascending-distinct s h.1)

pub distinct-keep : {A : Type 0} (t : A → Bool) (s : List A) → Distinct s → Distinct (keep t s)
distinct-keep t [] h = tt
distinct-keep t (r ∷ s) h =
    elim (t r) as (λ b. Distinct (cond b (r ∷ keep t s) (keep t s)))
    [ true ↦ (all_keep (λ y. r ≢ y) t s h.0, distinct-keep t s h.1) | false ↦ distinct-keep t s h.1 ]

-- two lists that ascend and have the same members are one
pub ascending-same : (s l : List ℕ) → Ascending s → Ascending l → ((x : ℕ) → Memᴰ x s ↔ Memᴰ x l) → s ≡ l
ascending-same [] [] a b h = refl
ascending-same [] (y ∷ l) a b h = absurd (Memᴰ.not-nil ((h y).1 (Memᴰ.head refl)))
ascending-same (x ∷ s) [] a b h = absurd (Memᴰ.not-nil ((h x).0 (Memᴰ.head refl)))
ascending-same (x ∷ s) (y ∷ l) a b h = ap₂ (λ (z : ℕ) (r : List ℕ). z ∷ r) same (ascending-same s l a.1 b.1 (λ z. (right z, left z)))
  where
    same : x ≡ y
    same = ⊎_elim (λ e. e)
        (λ i. ⊎_elim (λ e. sym e) (λ j. absurd (omega (arith, all-at (λ z. y < z) l b.0 i, all-at (λ z. x < z) s a.0 j)))
        (Memᴰ.cases_cons ((h y).1 (Memᴰ.head refl))))
        (Memᴰ.cases_cons ((h x).0 (Memᴰ.head refl)))

    right : (z : ℕ) → Memᴰ z s → Memᴰ z l
    right z m = ⊎_elim (λ e. absurd (omega (arith, all-at (λ z. x < z) s a.0 m, same))) (λ i. i) (Memᴰ.cases_cons ((h z).0 (Memᴰ.tail m)))

    left : (z : ℕ) → Memᴰ z l → Memᴰ z s
    left z m = ⊎_elim (λ e. absurd (omega (arith, all-at (λ z. y < z) l b.0 m, same))) (λ i. i) (Memᴰ.cases_cons ((h z).1 (Memᴰ.tail m)))

module _ (x y : ℕ) (s l : List ℕ) (above : All (λ w. x < w) s) (within : (z : ℕ) → Memᴰ z (x ∷ s) → Memᴰ z (y ∷ l)) where
  -- behind a first number that two lists share, the one has the members of the other
  tail_within : x ≡ y → (z : ℕ) → Memᴰ z s → Memᴰ z l
  tail_within e z m = ⊎_elim (λ i. absurd (omega (arith, all-at (λ w. x < w) s above m))) (λ i. i) (Memᴰ.cases_cons (within z (Memᴰ.tail m)))

  -- and a lower first number is not needed
  lower-not : y < x → (z : ℕ) → Memᴰ z (x ∷ s) → Memᴰ z l
  lower-not o z m =
      let no : z ≡ y → ⊥ = λ e. ⊎_elim (λ j. omega arith) (λ j. omega (arith, all-at (λ w. x < w) s above j)) (Memᴰ.cases_cons m) in
      ⊎_elim (λ e. absurd (no e)) (λ j. j) (Memᴰ.cases_cons (within z m))

-- a list that ascends is no longer than one that has its members
pub ascending-fewer : (s l : List ℕ) → Ascending s → Ascending l → ((x : ℕ) → Memᴰ x s → Memᴰ x l) → length s ≤ length l
ascending-fewer [] l a b h = omega arith
ascending-fewer (x ∷ s) [] a b h = absurd (Memᴰ.not-nil (h x (Memᴰ.head refl)))
ascending-fewer (x ∷ s) (y ∷ l) a b h =
    ⊎_elim (λ e. omega (arith, ascending-fewer s l a.1 b.1 (tail_within x y s l a.0 h e)))
    (λ i. omega (arith, ascending-fewer (x ∷ s) l a b.1 (lower-not x y s l a.0 h (all-at (λ w. y < w) l b.0 i))))
    (Memᴰ.cases_cons (h x (Memᴰ.head refl)))

-- and where it is as long, it is that list
pub ascending-whole : (s l : List ℕ) → Ascending s → Ascending l → ((x : ℕ) → Memᴰ x s → Memᴰ x l) → length l ≤ length s → l ≡ s
ascending-whole [] [] a b h n = refl
ascending-whole [] (y ∷ l) a b h n = absurd (omega arith)
ascending-whole (x ∷ s) [] a b h n = absurd (Memᴰ.not-nil (h x (Memᴰ.head refl)))
ascending-whole (x ∷ s) (y ∷ l) a b h n =
    ⊎_elim (λ e. ap₂ (λ (z : ℕ) (r : List ℕ). z ∷ r) (sym e) (ascending-whole s l a.1 b.1 (tail_within x y s l a.0 h e) (omega arith)))
    (λ i. absurd (omega (arith, ascending-fewer (x ∷ s) l a b.1 (lower-not x y s l a.0 h (all-at (λ w. y < w) l b.0 i)))))
    (Memᴰ.cases_cons (h x (Memᴰ.head refl)))

-- ---- the numbers below n that pass a test

-- the numbers kept ascend
pub kept-ascending : (t : ℕ → Bool) (n : ℕ) → Ascending (keep t (up_from 0 n))
kept-ascending t n = ascending-keep t (up_from 0 n) (up_from-ascending 0 n)

-- they are the numbers below n that pass
pub kept-exactly : (t : ℕ → Bool) (n x : ℕ) → Memᴰ x (keep t (up_from 0 n)) ↔ ((x < n) × T (t x))
kept-exactly t n x = (
  λ m. let h = (kept-member t (up_from 0 n)).0 m in (all-at (λ y. y < n) (up_from 0 n) (up_from-all (λ y. y < n) 0 n (λ y a b. omega arith)) h.0, h.1),
  λ h. (kept-member t (up_from 0 n)).1 (up_from-member 0 n x (omega arith) (let l : x < n = h.0 in omega arith), h.1),
)

-- no other ascending list has these members
pub kept-only : (t : ℕ → Bool) (n : ℕ) (l : List ℕ) → Ascending l → ((x : ℕ) → Memᴰ x l ↔ ((x < n) × T (t x))) → keep t (up_from 0 n) ≡ l
kept-only t n l a h =
    ascending-same (keep t (up_from 0 n)) l (kept-ascending t n) a
    (λ x. (λ m. (h x).1 ((kept-exactly t n x).0 m), λ m. (kept-exactly t n x).1 ((h x).0 m)))

-- the same of any list
pub keep_same : {A : Type 0} (t u : A → Bool) (l : List A) → All (λ x. t x ≡ u x) l → keep t l ≡ keep u l
keep_same t u [] h = refl
keep_same {A} t u (x ∷ l) h = ap₂ (λ (b : Bool) (k : List A). cond b (x ∷ k) k) h.0 (keep_same t u l h.1)

pub length-keep : {A : Type 0} (t : A → Bool) (l : List A) → length (keep t l) ≤ length l
length-keep t [] = omega arith
length-keep t (x ∷ l) =
    elim (t x) as (λ b. length (cond b (x ∷ keep t l) (keep t l)) ≤ suc (length l))
    [ true ↦ omega (arith, length-keep t l) | false ↦ omega (arith, length-keep t l) ]
