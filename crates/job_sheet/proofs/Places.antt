-- Lines by the place of their key: the fields by their degrees, the refusals by their numbers.
--   is_in            is a key among keys?  apart  is none there twice?
--   known-in        a known field's degree is among the degrees
--   place-within    its place is below their number;  place-below  so is that of a known field
--   unchanged       where values differ only at a key that is not there, the lists are the same
--   changed         WHERE THEY DIFFER ONLY AT ONE KEY, ITS PLACE IS SET
--   at_place        the value at the place of a key
--   place-first, place-found   the search for a field's place
-- Assumes nothing.
use Rattle.std.proofs.Common.{◌≡◌, ℕ, suc, ◌+◌, ◌<◌, Bool, true, false, cond, not, ◌&&◌, eqb, List, [], ◌∷◌, map, length, get_or, set, sym, refl, ap, ◌∙◌, ap₂, true≢false, arith, eqb-true}
use borrow.Author.Tests.{eqb-false, lt-ltb}
use lib.Dec.{ltb}
use Rattle.field.specs.Rows.{rows, known_in, known}
use Rattle.field.proofs.Known.{table}
use Rattle.std.specs.Prelude.{Option, Some, None}
use Rattle.std.specs.List.{position_or_len}
use Rattle.job_sheet.specs.Adding.{place_in, degrees, place_of}

unfoldable pub is_in : List ℕ → ℕ → Bool
is_in [] m = false
is_in (k ∷ ks) m = cond (eqb k m) true (is_in ks m)

unfoldable pub apart : List ℕ → Bool
apart [] = true
apart (k ∷ ks) = not (is_in ks k) && apart ks

known_among : (rs : List (ℕ × ℕ)) (m : ℕ) → known_in rs m ≡ is_in (map (λ r. r.0) rs) m
unfolding known_in is_in
known_among [] m = refl
known_among (r ∷ rs) m = ap (λ b. cond (eqb r.0 m) true b) (known_among rs m)

pub known-in : (m : ℕ) → known m ≡ true → is_in degrees m ≡ true
known-in m e = sym (known_among rows m) ∙ e

place-within : (ks : List ℕ) (m : ℕ) → is_in ks m ≡ true → place_in ks m < length ks
unfolding is_in place_in
place-within [] m e = absurd (true≢false (sym e))
place-within (k ∷ ks) m e = go (eqb k m) (place-within ks m) e
  where
    go : (b : Bool) → (is_in ks m ≡ true → place_in ks m < length ks) → cond b true (is_in ks m) ≡ true
        → cond b 0 (suc (place_in ks m)) < suc (length ks)
    go true f e = omega arith
    go false f e = omega (arith, f e)

-- the place of a known field is below the number of fields
pub place-below : (m : ℕ) {i : ℕ} → known m ≡ true → i ≡ place_of m → i < length degrees
place-below m k p = omega (arith, place-within degrees m (known-in m k), p)

-- ---- lists of values by key

module _ {A : Type 0} (f g : ℕ → A) (m : ℕ) (same : (k : ℕ) → (k ≡ m → ⊥) → g k ≡ f k) where
  pub unchanged : (ks : List ℕ) → is_in ks m ≡ false → map g ks ≡ map f ks
  unfolding is_in
  unchanged [] e = refl
  unchanged (k ∷ ks) e = go (eqb k m) refl (unchanged ks) e
    where
      go : (b : Bool) → eqb k m ≡ b → (is_in ks m ≡ false → map g ks ≡ map f ks) → cond b true (is_in ks m) ≡ false
          → map g (k ∷ ks) ≡ map f (k ∷ ks)
      go true t more e = absurd (true≢false e)
      go false t more e = ap₂ (λ x xs. x ∷ xs) (same k (eqb-false k m t)) (more e)

  pub changed : (ks : List ℕ) → apart ks ≡ true → is_in ks m ≡ true → map g ks ≡ set (map f ks) (place_in ks m) (g m)
  unfolding is_in apart place_in
  changed [] a e = refl
  changed (k ∷ ks) a e = go (eqb k m) refl (is_in ks k) refl (changed ks) a e
    where
      go : (b : Bool) → eqb k m ≡ b → (c : Bool) → is_in ks k ≡ c
          → (apart ks ≡ true → is_in ks m ≡ true → map g ks ≡ set (map f ks) (place_in ks m) (g m))
          → (not c && apart ks) ≡ true → cond b true (is_in ks m) ≡ true
          → map g (k ∷ ks) ≡ set (map f (k ∷ ks)) (cond b 0 (suc (place_in ks m))) (g m)
      go b t true d more a e = absurd (true≢false (sym a))
      go true t false d more a e =
          let i : k ≡ m = eqb-true k m t in
          ap₂ (λ x xs. x ∷ xs) (ap g i) (unchanged ks (ap (is_in ks) (sym i) ∙ d))
      go false t false d more a e = ap₂ (λ x xs. x ∷ xs) (same k (eqb-false k m t)) (more a e)

pub at_place : {A : Type 0} (f : ℕ → A) (d : A) (m : ℕ) (ks : List ℕ) → is_in ks m ≡ true
    → get_or (map f ks) (place_in ks m) d ≡ f m
unfolding is_in place_in
at_place f d m [] e = absurd (true≢false (sym e))
at_place f d m (k ∷ ks) e = go (eqb k m) refl (at_place f d m ks) e
  where
    go : (b : Bool) → eqb k m ≡ b → (is_in ks m ≡ true → get_or (map f ks) (place_in ks m) d ≡ f m)
        → cond b true (is_in ks m) ≡ true
        → get_or (map f (k ∷ ks)) (cond b 0 (suc (place_in ks m))) d ≡ f m
    go true t more e = ap f (eqb-true k m t)
    go false t more e = more e

-- ---- the search among the rows

-- the place of the first row of that degree
pub place-first : (m : ℕ) → position_or_len (λ row. eqb row.degree m) table ≡ place_of m
unfolding place_in
place-first m = go (eqb 4 m) (eqb 8 m) (eqb 11 m)
  where
    go : (a b c : Bool) → cond (not a) (1 + cond (not b) (1 + cond (not c) 1 0) 0) 0 ≡ cond a 0 (suc (cond b 0 (suc (cond c 0 1))))
    go true b c = refl
    go false true c = refl
    go false false true = refl
    go false false false = refl

-- a known field has one
pub place-found : (m : ℕ) {o : Option ℕ} → known m ≡ true → o ≡ cond (ltb (place_of m) 3) (Some (place_of m)) None → o ≡ Some (place_of m)
place-found m k e = e ∙ rw (lt-ltb (place_of m) 3 (place-below m k refl)) refl
