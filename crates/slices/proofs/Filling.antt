-- Loops that store from the front: r is r₀ with its first i elements replaced by those of s.
--   Filling                          what holds at each turn
--   fill-from, fill_on, fill_end     the start, a turn, the end;  fill_stop  the end where s and r₀ agree from there
--                                    on
--   fill-next                        what stands at i is still r₀'s
--   map_at                           an element of a mapped list
--   map-from, map_on                 the start and a turn of a loop that applies a function to each element in place
-- Assumes nothing.
use mathlib.Core.Path.{◌≡◌, refl, sym, ap, ap₂, ◌∙◌}
use mathlib.Core.List.{List, [], ◌∷◌, ◌++◌, map, append-nil}
use Prim.Native.Nat.{ℕ, zero, suc, ◌+◌, ◌≤◌, ◌<◌}
use native.Mathlib.Nat.{not-suc-le-zero, le_of_suc-le-suc}
use native.Mathlib.Numerals.{add-one}
use native.Mathlib.Omega.{arith}
use lib.ListN.{length, get_or, take, drop, set, length-set, length-map, drop_of_length-le, take-append-drop}
use lib.Seq.{take_all}

-- the first i elements of s, then r's
abbrev pub fill : List ℕ → List ℕ → ℕ → List ℕ
fill s r i = take i s ++ drop i r

-- what holds at each turn
pub record Filling (s r₀ r : List ℕ) (i : ℕ) : Type 0 where
  pub within : i ≤ length r₀
  pub same : length s ≡ length r₀
  pub long : length r ≡ length r₀
  pub done : r ≡ fill s r₀ i

pub fill-from : (s r : List ℕ) → length s ≡ length r → Filling s r r 0
fill-from s r e = record { within = omega arith; same = e; long = refl; done = refl }

-- one more of s
fill-set : (s r : List ℕ) (i : ℕ) → i < length s → i < length r → set (fill s r i) i (get_or s i 0) ≡ fill s r (suc i)
fill-set [] r i a b = absurd (not-suc-le-zero a)
fill-set (x ∷ s) [] i a b = absurd (not-suc-le-zero b)
fill-set (x ∷ s) (y ∷ r) zero a b = refl
fill-set (x ∷ s) (y ∷ r) (suc i) a b = ap (λ l. x ∷ l) (fill-set s r i (le_of_suc-le-suc a) (le_of_suc-le-suc b))

-- a turn stores s's element at i
pub fill_on : {s r₀ r : List ℕ} {i v : ℕ} → Filling s r₀ r i → i < length r₀ → v ≡ get_or s i 0 → Filling s r₀ (set r i v) (i + 1)
fill_on {s} {r₀} {r} {i} {v} f l e = record {
  within = omega arith;
  same = f.same;
  long = length-set r i v ∙ f.long;
  done = ap₂ (λ u w. set u i w) f.done e ∙ fill-set s r₀ i (omega (arith, f.same)) l ∙ ap (fill s r₀) (sym (add-one i));
}

-- what stands at i is still r₀'s
pub fill-next : {s r₀ r : List ℕ} {i : ℕ} → Filling s r₀ r i → i < length r₀ → get_or r i 0 ≡ get_or r₀ i 0
fill-next {s} {r₀} {r} {i} f l = ap (λ u. get_or u i 0) f.done ∙ go s r₀ i (omega (arith, f.same)) l
  where
    go : (s r : List ℕ) (i : ℕ) → i < length s → i < length r → get_or (fill s r i) i 0 ≡ get_or r i 0
    go [] r i a b = absurd (not-suc-le-zero a)
    go (x ∷ s) [] i a b = absurd (not-suc-le-zero b)
    go (x ∷ s) (y ∷ r) zero a b = refl
    go (x ∷ s) (y ∷ r) (suc i) a b = go s r i (le_of_suc-le-suc a) (le_of_suc-le-suc b)

pub fill_end : {s r₀ r : List ℕ} {i : ℕ} → Filling s r₀ r i → length r₀ ≤ i → r ≡ s
fill_end {s} {r₀} {r} {i} f l =
    f.done ∙ ap₂ (λ u v. u ++ v) (take_all i s (omega (arith, f.same))) (drop_of_length-le r₀ {i = i} l) ∙ append-nil s

-- the rest of r₀ is s's already
pub fill_stop : {s r₀ r : List ℕ} {i : ℕ} → Filling s r₀ r i → drop i s ≡ drop i r₀ → r ≡ s
fill_stop {s} {r₀} {r} {i} f e = f.done ∙ ap (λ u. take i s ++ u) (sym e) ∙ take-append-drop i s

-- ---- a loop that applies a function to each element

pub map_at : (f : ℕ → ℕ) (l : List ℕ) (i : ℕ) → i < length l → get_or (map f l) i 0 ≡ f (get_or l i 0)
map_at f [] i h = absurd (not-suc-le-zero h)
map_at f (x ∷ l) zero h = refl
map_at f (x ∷ l) (suc i) h = map_at f l i (le_of_suc-le-suc h)

pub map-from : (f : ℕ → ℕ) (r : List ℕ) → Filling (map f r) r r 0
map-from f r = fill-from (map f r) r (length-map r f)

pub map_on : (f : ℕ → ℕ) {r₀ r : List ℕ} {i v : ℕ} → Filling (map f r₀) r₀ r i → i < length r₀ → v ≡ f (get_or r i 0) → Filling (map f r₀) r₀ (set r i v) (i + 1)
map_on f {r₀} {r} {i} s l e = fill_on s l (e ∙ ap f (fill-next s l) ∙ sym (map_at f r₀ i l))
