-- What the root list of an affine polynomial is.
--   affine-ascending, affine-once   each root stands once, ascending
--   affine-exactly   they are the elements at which it is 0;  affine-only  no other ascending list has these members
--   affine-none      the list is empty exactly where there is no root
--   affine-size      there is none, or there are 2^k of them
-- Assumes nothing.
use mathlib.Core.Path.{◌≡◌, refl, sym, ap, ◌∙◌, subst}
use mathlib.Core.Bool.{true}
use mathlib.Core.Logic.{◌↔◌, ◌≢◌, ◌⊎◌, inl, inr}
use mathlib.Core.List.Memᴰ
use mathlib.Core.List.{List, [], ◌∷◌, map, Memᴰ}
use Prim.Native.Nat.{ℕ, zero, suc, ◌+◌, ◌%◌, ◌^◌, ◌≤◌, ◌<◌}
use native.Mathlib.Nat.{zero-div, not-suc-le-zero, le_of_suc-le-suc, add-zero, zero-add, add-suc, suc-add}
use native.Mathlib.Decide.{ℕ_discrete}
use native.Mathlib.Omega.{arith}
use lib.Dec.{T, eqb, eqb→eq, eqb_refl}
use lib.ListN.{length, get_or, length-map, get_or-map, get_or-eq_default}
use Rattle.algebra.specs.Trial.{up_from, Ascending, Distinct}
use Rattle.algebra.proofs.Trial.{kept-ascending, kept-exactly, kept-only, ascending-distinct, length-up_from}
use Rattle.field.specs.Rows.{known}
use Rattle.field.proofs.Additive.{additive-zero}
use Rattle.find_affine.specs.Affine.{value_at, affine_roots}
use Rattle.find_affine.specs.Systems.{swept_by, pivot_of, row_at}
use Rattle.find_affine.specs.Spaces.{dimension_below}
use Rattle.find_affine.proofs.Maps.{digit_of}
use Rattle.find_affine.proofs.Turns.{Projects, units-project}
use Rattle.find_affine.proofs.Vectors.{Holding, reached-on}
use Rattle.find_affine.proofs.Marked.{marked, marked-xor}
use Rattle.find_affine.proofs.ListLoops.{length-spanned, dimension-le}
use Rattle.find_affine.proofs.RootSpace.{Left, roots-none, roots-some}

module _ (m : ℕ) (cs : List ℕ) (constant : ℕ) where
  pub affine-ascending : Ascending (affine_roots m cs constant)
  unfolding affine_roots
  affine-ascending = kept-ascending (λ x. eqb (value_at m cs constant x) 0) (2 ^ m)

  pub affine-once : Distinct (affine_roots m cs constant)
  affine-once = ascending-distinct (affine_roots m cs constant) affine-ascending

  test-to : (x : ℕ) → T (eqb (value_at m cs constant x) 0) → value_at m cs constant x ≡ 0
  test-to x t = eqb→eq (value_at m cs constant x) 0 t

  test-from : (x : ℕ) → value_at m cs constant x ≡ 0 → T (eqb (value_at m cs constant x) 0)
  test-from x z = subst (λ b. T (eqb b 0)) (sym z) (eqb_refl 0)

  pub affine-exactly : (x : ℕ) → Memᴰ x (affine_roots m cs constant) ↔ ((x < 2 ^ m) × (value_at m cs constant x ≡ 0))
  unfolding affine_roots
  affine-exactly x =
      let e = kept-exactly (λ x. eqb (value_at m cs constant x) 0) (2 ^ m) x in
      (λ i. ((e.0 i).0, test-to x (e.0 i).1), λ h. e.1 (h.0, test-from x h.1))

  pub affine-only : (l : List ℕ) → Ascending l → ((x : ℕ) → Memᴰ x l ↔ ((x < 2 ^ m) × (value_at m cs constant x ≡ 0))) → l ≡ affine_roots m cs constant
  unfolding affine_roots
  affine-only l a e =
      sym (kept-only (λ x. eqb (value_at m cs constant x) 0) (2 ^ m) l a
      (λ x. (λ i. (((e x).0 i).0, test-from x ((e x).0 i).1), λ h. (e x).1 (h.0, test-to x h.1))))

  pub affine-none : (affine_roots m cs constant ≡ []) ↔ ((x : ℕ) → x < 2 ^ m → value_at m cs constant x ≢ 0)
  affine-none = (
    λ e x l z. Memᴰ.not-nil (subst (Memᴰ x) e ((affine-exactly x).1 (l, z))),
    empty_of (affine_roots m cs constant) (λ x i. (affine-exactly x).0 i),
  )
    where
      empty_of : (l : List ℕ) → ((x : ℕ) → Memᴰ x l → (x < 2 ^ m) × (value_at m cs constant x ≡ 0)) → ((x : ℕ) → x < 2 ^ m → value_at m cs constant x ≢ 0) → l ≡ []
      empty_of [] k h = refl
      empty_of (x ∷ l) k h = let z = k x (Memᴰ.head refl) in absurd (h x z.0 z.1)

-- ---- their number

-- a list by its places
tabled : {A : Type 0} → (ℕ → A) → ℕ → List A
tabled f n = map f (up_from 0 n)

tabled-at : {A : Type 0} (f : ℕ → A) (n j : ℕ) (d : A) → j < n → get_or (tabled f n) j d ≡ f j
unfolding tabled up_from
tabled-at {A} f n j d h = go 0 n j h ∙ ap f (zero-add j)
  where
    go : (k n j : ℕ) → j < n → get_or (map f (up_from k n)) j d ≡ f (k + j)
    go k zero j h = absurd (not-suc-le-zero h)
    go k (suc n) zero h = ap f (sym (add-zero k))
    go k (suc n) (suc j) h = go (suc k) n j (le_of_suc-le-suc h) ∙ ap f (suc-add k j ∙ sym (add-suc k j))

tabled-end : (f : ℕ → ℕ) (n j : ℕ) → n ≤ j → get_or (tabled f n) j 0 ≡ 0
unfolding tabled
tabled-end f n j h = get_or-eq_default (tabled f n) 0 {n = j} (omega (arith, length-map (up_from 0 n) f, length-up_from 0 n))

module _ (m : ℕ) (k : known m ≡ true) (cs : List ℕ) (constant : ℕ) where
  abbrev A : ℕ → ℕ
  A = marked m cs constant

  -- the rows of any vectors
  rows : List ℕ → List (List ℕ)
  rows vectors = tabled (λ n. map (λ w. digit_of n (A w)) vectors) m

  holding : (vectors : List ℕ) → Holding A m (rows vectors) vectors
  unfolding rows
  holding vectors = record {
    wide = λ n h. ap length (row n h) ∙ length-map vectors (λ w. digit_of n (A w));
    entry = λ n j h. ap (λ l. get_or l j 0) (row n h) ∙ ap (get_or (map (λ w. digit_of n (A w)) vectors) j) (sym (zero n)) ∙ get_or-map (λ w. digit_of n (A w)) vectors j 0;
  }
    where
      row : (n : ℕ) → n < m → get_or (tabled (λ n. map (λ w. digit_of n (A w)) vectors) m) n [] ≡ map (λ w. digit_of n (A w)) vectors
      row n h = tabled-at (λ n. map (λ w. digit_of n (A w)) vectors) m n [] h

      zero : (n : ℕ) → digit_of n (A 0) ≡ 0
      zero n = ap (digit_of n) (additive-zero A (marked-xor m k cs constant)) ∙ ap (λ a. a % 2) (zero-div (2 ^ n))

  -- vectors that i turns leave
  leaves : (i : ℕ) → i ≤ m → (vectors : List ℕ) × Projects A m i (λ j. get_or vectors j 0)
  leaves zero h = (
    tabled (λ j. 2 ^ j) (suc m),
    units-project A m (λ j. get_or (tabled (λ j. 2 ^ j) (suc m)) j 0) (λ j l. tabled-at (λ j. 2 ^ j) (suc m) j 0 (let b : j < suc m = omega arith in b))
        (λ j l. tabled-end (λ j. 2 ^ j) (suc m) j l),
  )
  leaves (suc i) h =
      let s = leaves i (let l : i ≤ m = omega arith in l) in
      let r = rows s.0 in (
        swept_by (pivot_of (row_at i r)) (row_at i r) s.0,
        (reached-on A (marked-xor m k cs constant) m h (record { holds = holding s.0; projects = s.1 })).projects,
      )

  -- there is none, or there are 2^k of them
  pub affine-size : constant < 2 ^ m → (affine_roots m cs constant ≡ []) ⊎ ((d : ℕ) × (d ≤ m) × (length (affine_roots m cs constant) ≡ 2 ^ d))
  affine-size small = go (ℕ_discrete (get_or vectors m 0) 0)
    where
      vectors : List ℕ
      vectors = (leaves m (let l : m ≤ m = omega arith in l)).0

      left : Left m cs constant vectors
      left = record { projects = (leaves m (let l : m ≤ m = omega arith in l)).1 }

      go : Dec (get_or vectors m 0 ≡ 0) → (affine_roots m cs constant ≡ []) ⊎ ((d : ℕ) × (d ≤ m) × (length (affine_roots m cs constant) ≡ 2 ^ d))
      go (yes z) = inl (roots-none k small left z)
      go (no n) = inr (dimension_below m vectors, dimension-le m vectors, ap length (roots-some k small left n) ∙ length-spanned m vectors _)
