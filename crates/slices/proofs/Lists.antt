-- What copying, moving and splicing leave: the list stays as long as it is, and its parts are where they are said to
-- be.
--   length-copied, length-pasted,
--   length-raised, length-spliced   the list is as long as before
--   copied-front, copied_behind     the front of a copy is what was copied, and the rest is as before
--   pasted-copied                   pasted at 0 is copied
--   pasted-front                    the front of what was pasted upon, to the end of what was pasted
--   spliced-parts                   splicing, of a list in three parts
--   take-zeros, drop-zeros          parts of a list of zeros
--   spliced-zeros                   splicing a list that ends in zeros: they alone give way
-- Assumes nothing.
use mathlib.Core.Path.{◌≡◌, refl, sym, ap, ap₂, ◌∙◌}
use mathlib.Core.List.{List, ◌∷◌, ◌++◌, append_assoc}
use Prim.Native.Nat.{ℕ, zero, suc, ◌+◌, ◌-◌, ◌≤◌}
use native.Mathlib.Nat.{zero-add, sub-zero, zero-sub, suc-sub-suc, le_of_suc-le-suc, not-suc-le-zero}
use native.Mathlib.Omega.{arith}
use lib.ListN.{length, take, drop, replicate, length-append, length-drop, length-replicate}
use lib.Seq.{length-take-le, take_at, drop_at, drop-drop, take-append-add}
use Rattle.slices.specs.Lists.{copied, pasted, raised, spliced}

-- ---- lengths

-- the rest of d follows
pub length-copied : (s d : List ℕ) → length s ≤ length d → length (copied s d) ≡ length d
unfolding copied
length-copied s d h = length-append s (drop (length s) d) ∙ omega (arith, length-drop (length s) d)

-- as many elements give way as come
pub length-pasted : (at : ℕ) (w s : List ℕ) → at + length w ≤ length s → length (pasted at w s) ≡ length s
unfolding pasted
length-pasted at w s h =
    omega (
      arith,
      length-append (take at s) (w ++ drop (at + length w) s),
      length-append w (drop (at + length w) s),
      length-take-le at s (omega arith),
      length-drop (at + length w) s,
    )

-- as many fall off as places come in between
pub length-raised : (from by : ℕ) (s : List ℕ) → from + by ≤ length s → length (raised from by s) ≡ length s
unfolding raised
length-raised from by s h =
    omega (
      arith,
      length-append (take (from + by) s) (take (length s - (from + by)) (drop from s)),
      length-take-le (from + by) s h,
      length-take-le (length s - (from + by)) (drop from s) (omega (arith, length-drop from s)),
    )

-- as many fall off as w has more than the old ones
pub length-spliced : (o old : ℕ) (w s : List ℕ) → old ≤ length w → o + length w ≤ length s → length (spliced o old w s) ≡ length s
unfolding spliced
length-spliced o old w s l h =
    omega (
      arith,
      length-append (take o s) (w ++ take (length s - (o + length w)) (drop (o + old) s)),
      length-append w (take (length s - (o + length w)) (drop (o + old) s)),
      length-take-le o s (omega arith),
      length-take-le (length s - (o + length w)) (drop (o + old) s) (omega (arith, length-drop (o + old) s)),
    )

-- ---- parts

-- what was copied stands in front
pub copied-front : {n : ℕ} (s d : List ℕ) → length s ≡ n → take n (copied s d) ≡ s
unfolding copied
copied-front {n} s d e = take_at s (drop (length s) d) n e

-- nothing behind it changed
pub copied_behind : (n : ℕ) (s d : List ℕ) → length s ≤ n → drop n (copied s d) ≡ drop n d
unfolding copied
copied_behind n s d h =
    let up : length s + (n - length s) ≡ n = omega arith in
    ap (λ k. drop k (copied s d)) (sym up) ∙ sym (drop-drop (n - length s) (length s) (copied s d))
    ∙ ap (drop (n - length s)) (drop_at s (drop (length s) d) (length s) refl) ∙ drop-drop (n - length s) (length s) d ∙ ap (λ k. drop k d) up

-- at 0 there is nothing before it
pub pasted-copied : (w s : List ℕ) → pasted 0 w s ≡ copied w s
unfolding pasted copied
pasted-copied w s = rw zero-add

-- what was before, and what was pasted
pub pasted-front : (at : ℕ) (w s : List ℕ) → at ≤ length s → take (at + length w) (pasted at w s) ≡ take at s ++ w
unfolding pasted
pasted-front at w s h =
    let l : length (take at s ++ w) ≡ at + length w = length-append (take at s) w ∙ omega (arith, length-take-le at s h) in
    ap (take (at + length w)) (sym (append_assoc (take at s) w (drop (at + length w) s))) ∙ take_at (take at s ++ w) (drop (at + length w) s) (at + length w) l

-- x before, v old, y behind
pub spliced-parts : {s : List ℕ} {o old : ℕ} (x v y w : List ℕ) → s ≡ x ++ (v ++ y) → length x ≡ o → length v ≡ old
    → spliced o old w s ≡ x ++ (w ++ take (length s - (o + length w)) y)
unfolding spliced
spliced-parts {s} {o} {old} x v y w e p q =
    let l : length (x ++ v) ≡ o + old = length-append x v ∙ omega arith in
    ap₂ (λ u r. u ++ (w ++ take (length s - (o + length w)) r)) (ap (take o) e ∙ take_at x (v ++ y) o p)
    (ap (drop (o + old)) (e ∙ sym (append_assoc x v y)) ∙ drop_at (x ++ v) y (o + old) l)

-- ---- zeros

-- the first k of n zeros
pub take-zeros : (k n : ℕ) → k ≤ n → take {A = ℕ} k (replicate n 0) ≡ replicate k 0
take-zeros zero n h = refl
take-zeros (suc k) zero h = absurd (not-suc-le-zero h)
take-zeros (suc k) (suc n) h = ap (λ l. 0 ∷ l) (take-zeros k n (le_of_suc-le-suc h))

-- n zeros without the first k
pub drop-zeros : (k n : ℕ) → drop {A = ℕ} k (replicate n 0) ≡ replicate (n - k) 0
drop-zeros zero n = rw sub-zero
drop-zeros (suc k) zero = rw zero-sub
drop-zeros (suc k) (suc n) = rw suc-sub-suc (drop-zeros k n)

-- x before, v old, z behind, and n zeros, which are enough
pub spliced-zeros : {s : List ℕ} {o old : ℕ} (x v z w : List ℕ) (n : ℕ) → s ≡ x ++ (v ++ (z ++ replicate n 0)) → length x ≡ o → length v ≡ old
    → old ≤ length w → length w ≤ old + n → spliced o old w s ≡ x ++ (w ++ (z ++ replicate (old + n - length w) 0))
spliced-zeros {s} {o} {old} x v z w n e p q a b =
    let k : length s - (o + length w) ≡ length z + (old + n - length w) =
    omega (
      arith,
      ap length e,
      length-append x (v ++ (z ++ replicate n 0)),
      length-append v (z ++ replicate n 0),
      length-append z (replicate n 0),
      length-replicate {A = ℕ} n 0,
    ) in
    spliced-parts x v (z ++ replicate n 0) w e p q
    ∙ ap (λ u. x ++ (w ++ u)) (ap (λ i. take i (z ++ replicate n 0)) k ∙ take-append-add z (replicate n 0) (old + n - length w)
    ∙ ap (λ u. z ++ u) (take-zeros (old + n - length w) n (omega arith)))
