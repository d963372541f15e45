-- The loops over rows: what holds at each turn.
--   Mapping    the first k elements of a list are those of another by f
--   Sweeping   a row's first j entries are swept
--   pivot-first   the pivot is the first entry that is not 0
--   swept-nothing  a row without one adds nothing
--   Filling    the first j entries are those of a function, the others 0;  units-end, images-end  two such
--   Rowing     the first i rows of the system stand
--   Eliminating   i turns of the elimination were made
--   Summing    the terms of an affine polynomial, added up to place i
-- Assumes nothing.
use mathlib.Core.Path.{◌≡◌, refl, sym, ap, ap₂, ◌∙◌, subst}
use mathlib.Core.Bool.{true, cond}
use mathlib.Core.Logic.{⊎_elim}
use mathlib.Core.List.{List, [], ◌∷◌, ◌++◌, map, append-nil}
use Prim.Native.Nat.{ℕ, zero, suc, ◌+◌, ◌*◌, ◌%◌, ◌^◌, ◌≤◌, ◌<◌}
use native.Mathlib.Nat.{le_of_suc-le-suc, not-suc-le-zero, zero-mul, one-mul, mod-eq_of_lt}
use native.Mathlib.Numerals.{add-one}
use native.Mathlib.Decide.{dec_lt, ℕ_discrete}
use native.Mathlib.Omega.{arith}
use borrow.Author.Tests.{eq-eqb, ne_eqb}
use lib.Bits.{bit_xor, xor_zero_r}
use lib.Dec.{eqb}
use lib.Pow.{pow_mono}
use lib.ListN.{length, get_or, take, drop, set, replicate, length-set, drop_of_length-le}
use lib.Seq.{take_all, drop-cons, get_or-set_same, get_or-set_other}
use Rattle.std.specs.Prelude.{Option, Some, None, MatchOption}
use Rattle.std.specs.Option.{unwrap_or}
use Rattle.std.specs.List.{AllWithin, HoldsAt}
use Rattle.std.proofs.lemmas.Iterator.{index_from_first}
use Rattle.field.specs.Rows.{ListedRow, known}
use Rattle.field.specs.Field.{field_at, mul}
use Rattle.field.proofs.Known.{by_row, listed}
use Rattle.field.proofs.Xor.{xor_assoc}
use Rattle.field.proofs.Ring.{mul-lt, mul_comm}
use Rattle.field.proofs.Generator.{Generated, generated, zero-product}
use Rattle.find_affine.specs.Affine.{terms_at}
use Rattle.input.specs.Limit.{widest}
use Rattle.find_affine.specs.Systems.{columns, pivot_of, swept, swept_by, rows_after, vectors_after, digit_row, Imaged, Units, Rowed, IsPivot}

-- ---- a list mapped in place

module _ {A : Type 0} (f : A → A) (d : A) where
  -- the first k elements are mapped
  pub record Mapping (s₀ s : List A) (k : ℕ) : Type 0 where
    pub within : k ≤ length s₀
    pub long : length s ≡ length s₀
    pub done : s ≡ map f (take k s₀) ++ drop k s₀

  map-set : (k : ℕ) (s : List A) → k < length s
      → set (map f (take k s) ++ drop k s) k (f (get_or (map f (take k s) ++ drop k s) k d)) ≡ map f (take (suc k) s) ++ drop (suc k) s
  map-set k [] h = absurd (not-suc-le-zero h)
  map-set zero (x ∷ s) h = refl
  map-set (suc k) (x ∷ s) h = ap (λ l. f x ∷ l) (map-set k s (le_of_suc-le-suc h))

  pub mapping-from : (s : List A) → Mapping s s 0
  mapping-from s = record { within = omega arith; long = refl; done = refl }

  pub mapping-on : {s₀ s : List A} {k : ℕ} {x : A} → Mapping s₀ s k → k < length s₀ → x ≡ f (get_or s k d) → Mapping s₀ (set s k x) (k + 1)
  mapping-on {s₀} {s} {k} {x} c h e = record {
    within = omega arith;
    long = length-set s k x ∙ c.long;
    done = ap (set s k) e ∙ ap (λ u. set u k (f (get_or u k d))) c.done ∙ map-set k s₀ h ∙ ap (λ i. map f (take i s₀) ++ drop i s₀) (sym (add-one k));
  }

  pub mapping-end : {s₀ s : List A} {k : ℕ} → Mapping s₀ s k → length s₀ ≤ k → s ≡ map f s₀
  mapping-end {s₀} {s} {k} c h =
      c.done ∙ ap₂ (λ u v. map f u ++ v) (take_all k s₀ h) (drop_of_length-le s₀ {i = k} h) ∙ append-nil (map f s₀)

-- ---- a row swept in place

-- the first j entries are swept
pub record Sweeping (t : ℕ) (by s₀ s : List ℕ) (j : ℕ) : Type 0 where
  pub within : j ≤ length s₀
  pub long : length s ≡ length s₀
  pub done : s ≡ swept t (take j by) s₀

swept-empty : (t : ℕ) (l : List ℕ) → swept t [] l ≡ l
unfolding swept
swept-empty t [] = refl
swept-empty t (x ∷ l) = refl

swept-take : (t j : ℕ) (by s : List ℕ) → j < length by → j < length s
    → let u = swept t (take j by) s in set u j (bit_xor (get_or u j 0) (get_or by j 0 % 2 * t)) ≡ swept t (take (suc j) by) s
unfolding swept
swept-take t j [] s h i = absurd (not-suc-le-zero h)
swept-take t j (b ∷ by) [] h i = absurd (not-suc-le-zero i)
swept-take t zero (b ∷ by) (a ∷ s) h i = ap (λ l. bit_xor a (b % 2 * t) ∷ l) (sym (swept-empty t s))
swept-take t (suc j) (b ∷ by) (a ∷ s) h i = ap (λ l. bit_xor a (b % 2 * t) ∷ l) (swept-take t j by s (le_of_suc-le-suc h) (le_of_suc-le-suc i))

pub sweeping-from : (t : ℕ) (by s : List ℕ) → Sweeping t by s s 0
sweeping-from t by s = record { within = omega arith; long = refl; done = sym (swept-empty t s) }

pub sweeping-on : {t : ℕ} {by s₀ s : List ℕ} {j x : ℕ} → Sweeping t by s₀ s j → j < length by → j < length s₀ → x ≡ get_or by j 0 % 2 * t
    → Sweeping t by s₀ (set s j (bit_xor (get_or s j 0) x)) (j + 1)
sweeping-on {t} {by} {s₀} {s} {j} {x} c h i e = record {
  within = omega arith;
  long = length-set s j (bit_xor (get_or s j 0) x) ∙ c.long;
  done = ap (λ y. set s j (bit_xor (get_or s j 0) y)) e ∙ ap (λ u. set u j (bit_xor (get_or u j 0) (get_or by j 0 % 2 * t))) c.done
      ∙ swept-take t j by s₀ h i ∙ ap (λ k. swept t (take k by) s₀) (sym (add-one j));
}

pub sweeping-end : {t : ℕ} {by s₀ s : List ℕ} {j : ℕ} → Sweeping t by s₀ s j → length by ≤ j → s ≡ swept t by s₀
sweeping-end {t} {by} {s₀} {s} {j} c h = c.done ∙ ap (λ u. swept t u s₀) (take_all j by h)

-- ---- the pivot

-- the first entry that is not 0
pub pivot-first : (row : List ℕ) (r : Option ℕ) → length row ≡ columns
    → MatchOption r (AllWithin (λ a. a ≡ 0) row 0 (length row)) (λ i. (i < length row) × HoldsAt (λ a. a ≡ 0 → ⊥) row i × AllWithin (λ a. a ≡ 0) row 0 i)
    → IsPivot row r
unfolding pivot_of
pivot-first row r l h = go r h (index_from_first pivot_of (λ a. a ≡ 0 → ⊥) (λ a. a ≡ 0) refl (λ a s n. rw (ne_eqb a 0 n)) (λ a s z. rw (eq-eqb a 0 z, add-one)) row r h)
  where
    go : (r : Option ℕ)
        → MatchOption r (AllWithin (λ a. a ≡ 0) row 0 (length row)) (λ i. (i < length row) × HoldsAt (λ a. a ≡ 0 → ⊥) row i × AllWithin (λ a. a ≡ 0) row 0 i)
        → pivot_of row ≡ unwrap_or r (length row) → IsPivot row r
    go None h e = e
    go (Some i) h e = let f = h.0 in (sym e, omega arith)

-- a row without a bit adds nothing
pub swept-nothing : (t : ℕ) (by s : List ℕ) → pivot_of by ≡ length by → swept t by s ≡ s
unfolding swept pivot_of
swept-nothing t by [] e = refl
swept-nothing t [] (a ∷ s) e = refl
swept-nothing t (b ∷ by) (a ∷ s) e = go (ℕ_discrete b 0) e (swept-nothing t by s)
  where
    go : Dec (b ≡ 0) → cond (eqb b 0) (suc (pivot_of by)) 0 ≡ suc (length by) → (pivot_of by ≡ length by → swept t by s ≡ s)
        → bit_xor a (b % 2 * t) ∷ swept t by s ≡ a ∷ s
    go (yes z) e rest =
        let f : suc (pivot_of by) ≡ suc (length by) = ap (λ c. cond c (suc (pivot_of by)) 0) (sym (eq-eqb b 0 z)) ∙ e in
        ap₂ (λ (x : ℕ) (l : List ℕ). x ∷ l) (ap (λ c. bit_xor a (c % 2 * t)) z ∙ ap (bit_xor a) (zero-mul t) ∙ xor_zero_r a) (rest (omega arith))
    go (no n) e rest =
        let f : 0 ≡ suc (length by) = ap (λ c. cond c (suc (pivot_of by)) 0) (sym (ne_eqb b 0 n)) ∙ e in
        absurd (let z : ⊥ = omega arith in z)

map-nothing : (f : List ℕ → List ℕ) → ((s : List ℕ) → f s ≡ s) → (rows : List (List ℕ)) → map f rows ≡ rows
map-nothing f h [] = refl
map-nothing f h (s ∷ rows) = ap₂ (λ (x : List ℕ) (l : List (List ℕ)). x ∷ l) (h s) (map-nothing f h rows)

-- ---- entries filled in

-- the first j are those of g, the others 0
pub record Filling (g : ℕ → ℕ) (s : List ℕ) (j : ℕ) : Type 0 where
  pub long : length s ≡ columns
  pub done : (i : ℕ) → i < j → get_or s i 0 ≡ g i
  pub rest : (i : ℕ) → j ≤ i → get_or s i 0 ≡ 0

zeros-at : (n i : ℕ) → ◌≡◌ {A = ℕ} (get_or (replicate n 0) i 0) 0
zeros-at zero i = refl
zeros-at (suc n) zero = refl
zeros-at (suc n) (suc i) = zeros-at n i

pub filling-from : (g : ℕ → ℕ) → Filling g (replicate columns 0) 0
filling-from g = record { long = refl; done = λ i h. absurd (not-suc-le-zero h); rest = λ i h. zeros-at columns i }

pub filling-on : {g : ℕ → ℕ} {s : List ℕ} {j x : ℕ} → Filling g s j → j < columns → x ≡ g j → Filling g (set s j x) (j + 1)
filling-on {g} {s} {j} {x} f h e = record { long = length-set s j x ∙ f.long; done = done; rest = rest }
  where
    inside : j < length s
    inside = subst (λ n. j < n) (sym f.long) h

    done : (i : ℕ) → i < j + 1 → get_or (set s j x) i 0 ≡ g i
    done i l = go (ℕ_discrete i j)
      where
        go : Dec (i ≡ j) → get_or (set s j x) i 0 ≡ g i
        go (yes p) = ap (λ k. get_or (set s j x) k 0) p ∙ get_or-set_same s j x 0 inside ∙ e ∙ ap g (sym p)
        go (no n) = get_or-set_other s j i x 0 n ∙ f.done i (omega arith)

    rest : (i : ℕ) → j + 1 ≤ i → get_or (set s j x) i 0 ≡ 0
    rest i l = get_or-set_other s j i x 0 (λ p. omega arith) ∙ f.rest i (omega arith)

pub units-end : {n j : ℕ} {s : List ℕ} → Filling (λ i. 2 ^ i) s j → j ≡ n + 1 → Units n s
units-end f e = record { long = f.long; unit = λ i h. f.done i (omega arith); zeros = λ i h. f.rest i (omega arith) }

-- a digit of a number of 16
pub one-shifted : (j : ℕ) → j ≤ widest → 1 * 2 ^ j % 65536 ≡ 2 ^ j
one-shifted j h = let p : 2 ^ j ≤ 2 ^ widest = pow_mono h in ap (λ a. a % 65536) (one-mul (2 ^ j)) ∙ mod-eq_of_lt (omega arith)

-- the columns of a system
pub images-end : {m constant j : ℕ} {cs s : List ℕ} → Filling (λ i. terms_at m cs (2 ^ i)) s j → j ≡ m → m ≤ widest → Imaged m cs constant (set s m constant)
images-end {m} {constant} {j} {cs} {s} f e h =
    record {
      long = length-set s m constant ∙ f.long;
      digit = λ i l. get_or-set_other s m i constant 0 (λ p. omega arith) ∙ f.done i (omega arith);
      last = get_or-set_same s m constant 0 (let l = f.long in omega arith);
      zeros = λ i l. get_or-set_other s m i constant 0 (λ p. omega arith) ∙ f.rest i (omega arith);
    }

-- a known field is no wider than the widest
pub degree-widest : {m p : ℕ} → ListedRow m p → m ≤ widest
degree-widest = by_row (λ m p. m ≤ widest) (omega arith) (omega arith) (omega arith)

-- ---- the rows of the system

-- the first i rows stand
pub record Rowing (images : List ℕ) (s : List (List ℕ)) (i : ℕ) : Type 0 where
  pub within : i ≤ widest
  pub long : length s ≡ widest
  pub row : (k : ℕ) → k < i → get_or s k [] ≡ digit_row k images

pub rowing-from : (images : List ℕ) {s : List (List ℕ)} → length s ≡ widest → Rowing images s 0
rowing-from images e = record { within = omega arith; long = e; row = λ k h. absurd (not-suc-le-zero h) }

pub rowing-on : {images : List ℕ} {s : List (List ℕ)} {i : ℕ} {r : List ℕ} → Rowing images s i → i < widest → r ≡ digit_row i images
    → Rowing images (set s i r) (i + 1)
rowing-on {images} {s} {i} {r} w h e = record { within = omega arith; long = length-set s i r ∙ w.long; row = row }
  where
    row : (k : ℕ) → k < i + 1 → get_or (set s i r) k [] ≡ digit_row k images
    row k l = go (ℕ_discrete k i)
      where
        go : Dec (k ≡ i) → get_or (set s i r) k [] ≡ digit_row k images
        go (yes p) = ap (λ n. get_or (set s i r) n []) p ∙ get_or-set_same s i r [] (let a = w.long in omega arith) ∙ e ∙ ap (λ n. digit_row n images) (sym p)
        go (no n) = get_or-set_other s i k r [] n ∙ w.row k (omega arith)

pub rowing-end : {images : List ℕ} {s : List (List ℕ)} {i : ℕ} → Rowing images s i → widest ≤ i → Rowed images s
rowing-end w h = record { long = w.long; row = λ k l. w.row k (omega arith) }

-- ---- elimination

-- i turns were made
pub record Eliminating (rows₀ : List (List ℕ)) (vectors₀ : List ℕ) (rows : List (List ℕ)) (vectors : List ℕ) (i : ℕ) : Type 0 where
  pub rows_are : rows ≡ rows_after i rows₀
  pub vectors-are : vectors ≡ vectors_after i rows₀ vectors₀

pub eliminating-from : (rows : List (List ℕ)) (vectors : List ℕ) → Eliminating rows vectors rows vectors 0
unfolding rows_after vectors_after
eliminating-from rows vectors = record { rows_are = refl; vectors-are = refl }

pub eliminating-on : {rows₀ : List (List ℕ)} {vectors₀ : List ℕ} {rows : List (List ℕ)} {vectors : List ℕ} {i p : ℕ} {rows' : List (List ℕ)} {vectors' : List ℕ}
    → Eliminating rows₀ vectors₀ rows vectors i → p ≡ pivot_of (get_or rows i []) → rows' ≡ map (swept_by p (get_or rows i [])) rows
    → vectors' ≡ swept_by p (get_or rows i []) vectors → Eliminating rows₀ vectors₀ rows' vectors' (i + 1)
unfolding rows_after vectors_after
eliminating-on {rows₀} {vectors₀} {rows} {vectors} {i} {p} e q r v = record {
  rows_are = r ∙ ap (λ (n : ℕ). map (swept_by n (get_or rows i [])) rows) q ∙ ap (λ u. map (swept_by (pivot_of (get_or u i [])) (get_or u i [])) u) e.rows_are
      ∙ ap (λ n. rows_after n rows₀) (sym (add-one i));
  vectors-are = v ∙ ap (λ (n : ℕ). swept_by n (get_or rows i []) vectors) q
      ∙ ap₂ (λ u w. swept_by (pivot_of (get_or u i [])) (get_or u i []) w) e.rows_are e.vectors-are ∙ ap (λ n. vectors_after n rows₀ vectors₀) (sym (add-one i));
}

-- a turn without a pivot leaves all as it was
pub eliminating-none : {rows₀ : List (List ℕ)} {vectors₀ : List ℕ} {rows : List (List ℕ)} {vectors : List ℕ} {i : ℕ}
    → Eliminating rows₀ vectors₀ rows vectors i → pivot_of (get_or rows i []) ≡ length (get_or rows i []) → Eliminating rows₀ vectors₀ rows vectors (i + 1)
eliminating-none {rows₀} {vectors₀} {rows} {vectors} {i} e n =
    let row = get_or rows i [] in
    let p = pivot_of row in
    eliminating-on e refl (sym (map-nothing (swept_by p row) (λ s. swept-nothing (get_or s p 0) row s n) rows)) (sym (swept-nothing (get_or vectors p 0) row vectors n))

-- ---- the terms of an affine polynomial

-- those before place i are in the sum; those from there on are taken at y
pub record Summing (m : ℕ) (cs : List ℕ) (x sum y i : ℕ) : Type 0 where
  pub within : i ≤ length cs
  pub positive : 0 < y
  pub element : y < 2 ^ m
  pub same : terms_at m cs x ≡ bit_xor sum (terms_at m (drop i cs) y)

pub summing-from : (m : ℕ) (cs : List ℕ) (x : ℕ) → 0 < x → x < 2 ^ m → Summing m cs x 0 x 0
summing-from m cs x p h = record { within = omega arith; positive = p; element = h; same = refl }

pub summing_on : {m : ℕ} {cs : List ℕ} {x sum y i a b : ℕ} → known m ≡ true → Summing m cs x sum y i → i < length cs
    → a ≡ mul (field_at m) y (get_or cs i 0) → b ≡ mul (field_at m) y y → Summing m cs x (bit_xor sum a) b (i + 1)
unfolding terms_at
summing_on {m} {cs} {x} {sum} {y} {i} {a} {b} k s h ea eb =
    record {
      within = omega arith;
      positive = subst (λ n. 0 < n) (sym eb) (square-positive (dec_lt 0 (mul (field_at m) y y)));
      element = subst (λ n. n < 2 ^ m) (sym eb) (mul-lt (field_at m) g.monic y y);
      same = s.same ∙ ap (λ u. bit_xor sum (terms_at m u y)) (drop-cons cs i 0 h)
          ∙ ap₂ (λ u v. bit_xor sum (bit_xor u (terms_at m (drop (suc i) cs) v))) (mul_comm (field_at m) g.monic (get_or cs i 0) y ∙ sym ea) (sym eb)
          ∙ sym (xor_assoc sum a (terms_at m (drop (suc i) cs) b)) ∙ ap (λ n. bit_xor (bit_xor sum a) (terms_at m (drop n cs) b)) (sym (add-one i));
    }
  where
    g : Generated (field_at m)
    g = generated (listed m k)

    square-positive : Dec (0 < mul (field_at m) y y) → 0 < mul (field_at m) y y
    square-positive (yes p) = p
    square-positive (no n) =
        let z : mul (field_at m) y y ≡ 0 = omega arith in
        absurd (⊎_elim (λ e. below e) (λ e. below e) (zero-product (field_at m) g y y s.element s.element z))
      where
        below : y ≡ 0 → ⊥
        below e = let p = s.positive in omega arith

pub summing-end : {m : ℕ} {cs : List ℕ} {x sum y i : ℕ} → Summing m cs x sum y i → length cs ≤ i → sum ≡ terms_at m cs x
unfolding terms_at
summing-end {m} {cs} {x} {sum} {y} {i} s h =
    sym (s.same ∙ ap (λ u. bit_xor sum (terms_at m u y)) (drop_of_length-le cs {i = i} h) ∙ xor_zero_r sum)
