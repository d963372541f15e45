-- The places that the code has, in the order of their roots, are those of the word that the roots mark: the same
-- number, and the same sums.
--   places-kept   the places of a word that a test makes
--   same_length   as many;  same-xor  the same sums
-- Assumes nothing.
use mathlib.Core.Path.{◌≡◌, refl, sym, ap, ◌∙◌}
use mathlib.Core.Logic.{◌≢◌, ◌↔◌}
use mathlib.Core.Bool.{Bool, true, false, cond}
use mathlib.Core.List.{List, [], ◌∷◌, map, Memᴰ}
use Prim.Native.Nat.{ℕ, zero, suc, ◌+◌, ◌<◌}
use native.Mathlib.Nat.{add-zero, add-suc, suc-add, zero-add}
use lib.Bits.{bit_xor, xor_comm, xor_zero_r}
use lib.Dec.{T, eqb, ltb, eqb→eq}
use lib.ListN.{length}
use Rattle.algebra.specs.Trial.{All, Distinct, keep, up_from}
use Rattle.field.proofs.Xor.{xor_assoc}
use Rattle.slices.specs.Ordered.{insert_once, insert_all}
use Rattle.slices.proofs.Ordered.{insert_once-all, insert_all-kept}
use Rattle.corrector_code.specs.Word.{places}
use Rattle.corrector.specs.Places.{xor_over}

-- not in a list
abbrev Fresh : ℕ → List ℕ → Type 0
Fresh r l = All (λ x. r ≢ x) l

once-length : (r : ℕ) (l : List ℕ) → Fresh r l → length (insert_once r l) ≡ suc (length l)
unfolding insert_once
once-length r [] f = refl
once-length r (x ∷ l) f = go (once-length r l f.1) (ltb x r) (eqb x r) (λ t. f.0 (sym (eqb→eq x r t)))
  where
    go : length (insert_once r l) ≡ suc (length l) → (b e : Bool) → (T e → ⊥) → length (cond b (x ∷ insert_once r l) (cond e (x ∷ l) (r ∷ x ∷ l))) ≡ suc (suc (length l))
    go ih true e n = ap suc ih
    go ih false true n = absurd (n tt)
    go ih false false n = refl

swap : (a b c : ℕ) → bit_xor a (bit_xor b c) ≡ bit_xor b (bit_xor a c)
swap a b c = sym (xor_assoc a b c) ∙ ap (λ (x : ℕ). bit_xor x c) (xor_comm a b) ∙ xor_assoc b a c

once-xor : (g : ℕ → ℕ) (r : ℕ) (l : List ℕ) → Fresh r l → xor_over g (insert_once r l) ≡ bit_xor (g r) (xor_over g l)
unfolding insert_once xor_over
once-xor g r [] f = refl
once-xor g r (x ∷ l) f = go (once-xor g r l f.1) (ltb x r) (eqb x r) (λ t. f.0 (sym (eqb→eq x r t)))
  where
    go : xor_over g (insert_once r l) ≡ bit_xor (g r) (xor_over g l) → (b e : Bool) → (T e → ⊥) → xor_over g (cond b (x ∷ insert_once r l) (cond e (x ∷ l) (r ∷ x ∷ l))) ≡ bit_xor (g r) (bit_xor (g x) (xor_over g l))
    go ih true e n = ap (bit_xor (g x)) ih ∙ swap (g x) (g r) (xor_over g l)
    go ih false true n = absurd (n tt)
    go ih false false n = refl

-- a list of distinct numbers, none of them in l
Apart : List ℕ → List ℕ → Type 0
Apart rs l = All (λ r. Fresh r l) rs

apart-on : (r : ℕ) (rs l : List ℕ) → All (λ y. r ≢ y) rs → Apart rs l → Apart rs (insert_once r l)
unfolding Apart
apart-on r [] l d a = tt
apart-on r (s ∷ rs) l d a = (insert_once-all (λ x. s ≢ x) r l (λ e. d.0 (sym e)) a.0, apart-on r rs l d.1 a.1)

all-length : (rs l : List ℕ) → Distinct rs → Apart rs l → length (insert_all rs l) ≡ length rs + length l
unfolding insert_all Apart
all-length [] l d a = sym (zero-add (length l))
all-length (r ∷ rs) l d a =
    all-length rs (insert_once r l) d.1 (apart-on r rs l d.0 a.1) ∙ ap (λ (n : ℕ). length rs + n) (once-length r l a.0) ∙ add-suc (length rs) (length l) ∙ sym (suc-add (length rs) (length l))

all-xor : (g : ℕ → ℕ) (rs l : List ℕ) → Distinct rs → Apart rs l → xor_over g (insert_all rs l) ≡ bit_xor (xor_over g rs) (xor_over g l)
unfolding insert_all xor_over Apart
all-xor g [] l d a = refl
all-xor g (r ∷ rs) l d a =
    all-xor g rs (insert_once r l) d.1 (apart-on r rs l d.0 a.1) ∙ ap (bit_xor (xor_over g rs)) (once-xor g r l a.0) ∙ swap (xor_over g rs) (g r) (xor_over g l)
    ∙ sym (xor_assoc (g r) (xor_over g rs) (xor_over g l))

-- the places of a word that a test makes
pub places-kept : (t : ℕ → Bool) (k n : ℕ) → places k (map t (up_from k n)) ≡ keep t (up_from k n)
unfolding places up_from
places-kept t k zero = refl
places-kept t k (suc n) = go (places-kept t (suc k) n) (t k)
  where
    go : places (suc k) (map t (up_from (suc k) n)) ≡ keep t (up_from (suc k) n) → (b : Bool) → places k (b ∷ map t (up_from (suc k) n)) ≡ cond b (k ∷ keep t (up_from (suc k) n)) (keep t (up_from (suc k) n))
    go ih true = ap (λ l. k ∷ l) ih
    go ih false = ih

module _ (t : ℕ → Bool) (n : ℕ) (js : List ℕ) (d : Distinct js) (m : (x : ℕ) → Memᴰ x js ↔ ((x < n) × T (t x))) where
  sorted : insert_all js [] ≡ places 0 (map t (up_from 0 n))
  sorted = insert_all-kept t n js m ∙ sym (places-kept t 0 n)

  none : (l : List ℕ) → Apart l []
  unfolding Apart
  none [] = tt
  none (x ∷ l) = (tt, none l)

  pub same_length : length (places 0 (map t (up_from 0 n))) ≡ length js
  same_length = ap length (sym sorted) ∙ all-length js [] d (none js) ∙ add-zero (length js)

  pub same-xor : (g : ℕ → ℕ) → xor_over g (places 0 (map t (up_from 0 n))) ≡ xor_over g js
  unfolding xor_over
  same-xor g = ap (xor_over g) (sym sorted) ∙ all-xor g js [] d (none js) ∙ xor_zero_r (xor_over g js)
