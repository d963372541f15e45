-- The loops over lists of roots: what holds at each turn.
--   Growing     sums with v stand behind the first n numbers
--   Listing     the sums of `first` and the first j vectors stand at the front
--   kept-count  the vectors that are not 0, counted
--   length-spanned   there are 2^k sums of `first` and k vectors that are not 0
-- Assumes nothing.
use mathlib.Core.Path.{◌≡◌, refl, sym, ap, ap₂, ◌∙◌, subst}
use mathlib.Core.Bool.{Bool, true, false, cond, not}
use mathlib.Core.List.{List, [], ◌∷◌, ◌++◌, map, map-append, append_assoc}
use Prim.Native.Nat.{ℕ, zero, suc, ◌+◌, ◌^◌, ◌≤◌, ◌<◌}
use native.Mathlib.Nat.{two-pow-succ}
use native.Mathlib.Numerals.{add-one}
use native.Mathlib.Omega.{arith}
use borrow.Author.Tests.{eq-eqb, ne_eqb}
use lib.Bits.{bit_xor}
use lib.Dec.{eqb}
use lib.Pow.{pow_mono}
use lib.ListN.{length, get_or, take, drop, set, length-append, length-map, length-set, get_or-append, take-append-drop}
use lib.Seq.{length-take-le, get_or-take, take-suc, drop-cons, set_at, drop-set-lt}
use Rattle.std.specs.List.{filter}
use Rattle.std.proofs.lemmas.List.Elements.{filter-append}
use Rattle.slices.specs.Lists.{copied}
use Rattle.slices.proofs.Lists.{copied-front, copied_behind}
use Rattle.input.specs.Limit.{widest}
use Rattle.find_affine.specs.Spaces.{grown, spanned, dimension_below, Grown, Listed}

-- ---- doubling

-- the first n numbers, and behind them the sums of the first k with v
abbrev front : ℕ → ℕ → List ℕ → ℕ → List ℕ
front n v s k = take n s ++ map (bit_xor v) (take k s)

pub record Growing (n v : ℕ) (s₀ s : List ℕ) (k : ℕ) : Type 0 where
  pub room : n + n ≤ length s₀
  pub within : k ≤ n
  pub long : length s ≡ length s₀
  pub done : s ≡ front n v s₀ k ++ drop (n + k) s₀

length_front : (n v : ℕ) (s : List ℕ) (k : ℕ) → n ≤ length s → k ≤ length s → length (front n v s k) ≡ n + k
length_front n v s k h i =
    length-append (take n s) (map (bit_xor v) (take k s))
    ∙ ap₂ (λ a b. a + b) (length-take-le n s h) (length-map (take k s) (bit_xor v) ∙ length-take-le k s i)

pub growing-from : (n v : ℕ) (s : List ℕ) → n + n ≤ length s → Growing n v s s 0
growing-from n v s h = record {
  room = h;
  within = omega arith;
  long = refl;
  done = sym (append_assoc (take n s) [] (drop (n + 0) s) ∙ ap (λ k. take n s ++ drop k s) (let e : n + 0 ≡ n = omega arith in e) ∙ take-append-drop n s);
}

module _ {n v : ℕ} {s₀ s : List ℕ} {k : ℕ} (g : Growing n v s₀ s k) (h : k < n) where
  fits : n + k < length s₀
  fits = omega (arith, g.room)

  size : length (front n v s₀ k) ≡ n + k
  size = length_front n v s₀ k (omega (arith, g.room)) (omega (arith, g.room))

  -- what the turn reads
  reads : get_or s k 0 ≡ get_or s₀ k 0
  reads =
      ap (λ u. get_or u k 0) (g.done ∙ append_assoc (take n s₀) (map (bit_xor v) (take k s₀)) (drop (n + k) s₀))
      ∙ get_or-append (take n s₀) (map (bit_xor v) (take k s₀) ++ drop (n + k) s₀) 0 k (omega (arith, length-take-le n s₀ (omega (arith, g.room))))
      ∙ get_or-take n s₀ k 0 h

  pub growing-on : Growing n v s₀ (set s (n + k) (bit_xor v (get_or s k 0))) (k + 1)
  growing-on = record {
    room = g.room;
    within = omega arith;
    long = length-set s (n + k) (bit_xor v (get_or s k 0)) ∙ g.long;
    done = ap₂ (λ u x. set u (n + k) (bit_xor v x)) (g.done ∙ ap (λ l. front n v s₀ k ++ l) (drop-cons s₀ (n + k) 0 fits)) reads
        ∙ set_at (front n v s₀ k) (get_or s₀ (n + k) 0) (drop (suc (n + k)) s₀) (bit_xor v (get_or s₀ k 0)) (n + k) size
        ∙ sym (append_assoc (front n v s₀ k) (bit_xor v (get_or s₀ k 0) ∷ []) (drop (suc (n + k)) s₀))
        ∙ ap₂ (λ (a : List ℕ) (i : ℕ). a ++ drop i s₀) next (let e : suc (n + k) ≡ n + (k + 1) = omega arith in e);
  }
    where
      next : front n v s₀ k ++ (bit_xor v (get_or s₀ k 0) ∷ []) ≡ front n v s₀ (k + 1)
      next =
          append_assoc (take n s₀) (map (bit_xor v) (take k s₀)) (bit_xor v (get_or s₀ k 0) ∷ [])
          ∙ ap (λ l. take n s₀ ++ l)
          (sym (map-append (bit_xor v) (take k s₀) (get_or s₀ k 0 ∷ []))
          ∙ ap (map (bit_xor v)) (sym (take-suc s₀ k 0 (omega (arith, g.room))) ∙ ap (λ i. take i s₀) (sym (add-one k))))

-- a number that is not 0 was added to all
pub growing-end : {n v : ℕ} {s₀ s : List ℕ} {k : ℕ} → Growing n v s₀ s k → n ≤ k → (v ≡ 0 → ⊥) → Grown n v s₀ (n + n) s
unfolding copied
growing-end {n} {v} {s₀} {s} {k} g h z =
    let e : k ≡ n = omega (arith, g.within) in
    let l : length (front n v s₀ n) ≡ n + n = length_front n v s₀ n (omega (arith, g.room)) (omega (arith, g.room)) in
    let d : grown v (take n s₀) ≡ front n v s₀ n = rw (ne_eqb v 0 z) in
    record {
      count = sym (ap length d ∙ l);
      slots = g.done ∙ ap (λ i. front n v s₀ i ++ drop (n + i) s₀) e ∙ ap (λ i. front n v s₀ n ++ drop i s₀) (sym l) ∙ ap (λ u. u ++ drop (length u) s₀) (sym d);
    }

-- 0 adds nothing
pub grown-none : {n v : ℕ} {s : List ℕ} → n ≤ length s → v ≡ 0 → Grown n v s n s
unfolding copied
grown-none {n} {v} {s} h z =
    let d : grown v (take n s) ≡ take n s = rw (eq-eqb v 0 z) in
    let l : length (take n s) ≡ n = length-take-le n s h in
    record {
      count = sym (ap length d ∙ l);
      slots = sym (ap (λ u. u ++ drop (length u) s) d ∙ ap (λ i. take n s ++ drop i s) l ∙ take-append-drop n s);
    }

-- ---- the number of sums

length-grown : (v : ℕ) (l : List ℕ) → length (grown v l) ≡ cond (eqb v 0) (length l) (length l + length l)
length-grown v l = go (eqb v 0)
  where
    go : (b : Bool) → length (cond b l (l ++ map (bit_xor v) l)) ≡ cond b (length l) (length l + length l)
    go true = refl
    go false = length-append l (map (bit_xor v) l) ∙ ap (λ n. length l + n) (length-map l (bit_xor v))

pub length-spanned : (n : ℕ) (vs : List ℕ) (first : ℕ) → length (spanned n vs first) ≡ 2 ^ dimension_below n vs
unfolding spanned dimension_below
length-spanned zero vs first = refl
length-spanned (suc n) vs first =
    length-grown (get_or vs n 0) (spanned n vs first) ∙ go (eqb (get_or vs n 0) 0) (length-spanned n vs first)
  where
    go : (b : Bool) → length (spanned n vs first) ≡ 2 ^ dimension_below n vs
        → cond b (length (spanned n vs first)) (length (spanned n vs first) + length (spanned n vs first))
        ≡ 2 ^ cond b (dimension_below n vs) (suc (dimension_below n vs))
    go true e = e
    go false e = ap₂ (λ a b. a + b) e e ∙ sym (two-pow-succ (dimension_below n vs))

pub dimension-le : (n : ℕ) (vs : List ℕ) → dimension_below n vs ≤ n
unfolding dimension_below
dimension-le zero vs = omega arith
dimension-le (suc n) vs = go (eqb (get_or vs n 0) 0) (dimension-le n vs)
  where
    go : (b : Bool) → dimension_below n vs ≤ n → cond b (dimension_below n vs) (suc (dimension_below n vs)) ≤ suc n
    go true h = omega arith
    go false h = omega arith

spanned-most : (n : ℕ) (vs : List ℕ) (first : ℕ) → length (spanned n vs first) ≤ 2 ^ n
spanned-most n vs first = subst (λ k. k ≤ 2 ^ n) (sym (length-spanned n vs first)) (pow_mono (dimension-le n vs))

spanned-some : (n : ℕ) (vs : List ℕ) (first : ℕ) → 0 < length (spanned n vs first)
unfolding spanned
spanned-some zero vs first = omega arith
spanned-some (suc n) vs first = go (eqb (get_or vs n 0) 0) (length-grown (get_or vs n 0) (spanned n vs first)) (spanned-some n vs first)
  where
    go : (b : Bool) → length (spanned (suc n) vs first) ≡ cond b (length (spanned n vs first)) (length (spanned n vs first) + length (spanned n vs first))
        → 0 < length (spanned n vs first) → 0 < length (spanned (suc n) vs first)
    go true e h = omega arith
    go false e h = omega arith

spanned-more : (n : ℕ) (vs : List ℕ) (first : ℕ) → length (spanned n vs first) ≤ length (spanned (suc n) vs first)
unfolding spanned
spanned-more n vs first = go (eqb (get_or vs n 0) 0) (length-grown (get_or vs n 0) (spanned n vs first))
  where
    go : (b : Bool) → length (spanned (suc n) vs first) ≡ cond b (length (spanned n vs first)) (length (spanned n vs first) + length (spanned n vs first))
        → length (spanned n vs first) ≤ length (spanned (suc n) vs first)
    go true e = omega arith
    go false e = omega arith

-- ---- the list

-- the sums with the first j vectors stand at the front, k of them
pub record Listing (vs : List ℕ) (first : ℕ) (s₀ s : List ℕ) (k j : ℕ) : Type 0 where
  pub long : length s ≡ length s₀
  pub count : k ≡ length (spanned j vs first)
  pub slots : s ≡ copied (spanned j vs first) s₀

pub listing-from : (vs : List ℕ) (first : ℕ) (s : List ℕ) → 0 < length s → Listing vs first (set s 0 first) (set s 0 first) 1 0
unfolding spanned copied
listing-from vs first [] h = absurd (let b : ⊥ = omega arith in b)
listing-from vs first (x ∷ s) h = record { long = refl; count = refl; slots = refl }

-- there is room for as many again
pub listing-room : {vs : List ℕ} {first : ℕ} {s : List ℕ} {k j n : ℕ} (s₀ : List ℕ) → Listing vs first (set s₀ 0 first) s k j → j < n → 2 ^ n ≤ length s₀
    → k + k ≤ length s
listing-room {vs} {first} {s} {k} {j} {n} s₀ l h r =
    let a : 2 ^ suc j ≤ 2 ^ n = pow_mono h in
    omega (arith, l.long, length-set s₀ 0 first, l.count, spanned-most j vs first, two-pow-succ j)

pub listing-on : {vs : List ℕ} {first : ℕ} {s₀ s : List ℕ} {k j k' : ℕ} {s' : List ℕ} → Listing vs first s₀ s k j
    → Grown k (get_or vs j 0) s k' s' → length s' ≡ length s → Listing vs first s₀ s' k' (j + 1)
unfolding spanned copied
listing-on {vs} {first} {s₀} {s} {k} {j} {k'} {s'} l g e =
    let f : take k s ≡ spanned j vs first = ap (take k) l.slots ∙ copied-front (spanned j vs first) s₀ (sym l.count) in
    let d : grown (get_or vs j 0) (take k s) ≡ spanned (suc j) vs first = ap (grown (get_or vs j 0)) f in
    let t : spanned (suc j) vs first ≡ spanned (j + 1) vs first = ap (λ i. spanned i vs first) (sym (add-one j)) in
    record {
      long = e ∙ l.long;
      count = g.count ∙ ap length (d ∙ t);
      slots = g.slots ∙ ap (λ u. copied u s) d
          ∙ ap (λ u. spanned (suc j) vs first ++ u) (ap (drop (length (spanned (suc j) vs first))) l.slots ∙ copied_behind (length (spanned (suc j) vs first)) (spanned j vs first) s₀ (spanned-more j vs first))
          ∙ ap (λ u. copied u s₀) t;
    }

pub listing-end : {vs : List ℕ} {first : ℕ} {s₀ s : List ℕ} {k j n : ℕ} → Listing vs first (set s₀ 0 first) s k j → j ≡ n → Listed n vs first s₀ k s
unfolding copied
listing-end {vs} {first} {s₀} {s} {k} {j} {n} l e = record {
  count = l.count ∙ ap (λ i. length (spanned i vs first)) e;
  slots = l.slots ∙ ap (λ u. spanned j vs first ++ u) (drop-set-lt (length (spanned j vs first)) s₀ 0 first (spanned-some j vs first))
      ∙ ap (λ i. copied (spanned i vs first) s₀) e;
}

-- how many there are fits
pub listing-few : {vs : List ℕ} {first : ℕ} {s₀ s : List ℕ} {k j n : ℕ} → Listing vs first s₀ s k j → j ≤ n → n ≤ widest → k ≤ 2 ^ widest
listing-few {vs} {first} {s₀} {s} {k} {j} {n} l h r =
    let a : 2 ^ j ≤ 2 ^ widest = pow_mono (let i : j ≤ widest = omega arith in i) in
    omega (arith, l.count, spanned-most j vs first)

-- ---- the dimension

-- the first n vectors that are not 0
pub kept-count : (n : ℕ) (vs : List ℕ) → n ≤ length vs → length (filter (λ v. not (eqb v 0)) (take n vs)) ≡ dimension_below n vs
unfolding dimension_below
kept-count zero vs h = refl
kept-count (suc n) vs h =
    let p = λ (v : ℕ). not (eqb v 0) in
    let x = get_or vs n 0 in
    ap (λ l. length (filter p l)) (take-suc vs n 0 h) ∙ ap length (filter-append p (take n vs) (x ∷ [])) ∙ length-append (filter p (take n vs)) (filter p (x ∷ []))
    ∙ go (eqb x 0) (kept-count n vs (omega arith))
  where
    go : (b : Bool) → length (filter (λ v. not (eqb v 0)) (take n vs)) ≡ dimension_below n vs
        → length (filter (λ v. not (eqb v 0)) (take n vs)) + length (cond (not b) (get_or vs n 0 ∷ []) []) ≡ cond b (dimension_below n vs) (suc (dimension_below n vs))
    go true e = omega arith
    go false e = omega arith
