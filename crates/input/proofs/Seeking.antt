-- The search for the largest of a list, an element at a time.
--   SeekingTop                                                  `top` is the largest of the first k
--   seek-top-from, seek-top-raise, seek-top-keep, seek-top-end  the start, a turn that finds a larger one, one that
--                                                               does not, the end
-- Assumes nothing.
use mathlib.Core.Path.{◌≡◌, refl, sym, ◌∙◌}
use mathlib.Core.Bool.{Bool, true, false, ◌&&◌, and-false, and-true}
use mathlib.Core.List.{List}
use Prim.Native.Nat.{ℕ, ◌+◌, ◌≤◌, ◌<◌}
use native.Mathlib.Numerals.{add-one}
use native.Mathlib.Omega.{arith}
use borrow.Author.Tests.{lt-ltb, ltb-true}
use lib.ListN.{length, get_or, drop, drop_of_length-le}
use lib.Seq.{drop-cons}
use lib.Dec.{ltb}
use Rattle.slices.specs.Bounded.{all_below}
use Rattle.input.specs.Values.{Largest}

-- all are below a bound if `top` is, and those from k on are
pub record SeekingTop (s : List ℕ) (top k : ℕ) : Type 0 where
  pub within : k ≤ length s
  pub same : (q : ℕ) → 0 < q → all_below q s ≡ (ltb top q && all_below q (drop k s))

pub seek-top-from : (s : List ℕ) → SeekingTop s 0 0
seek-top-from s = record { within = omega arith; same = λ q h. rw (lt-ltb 0 q h) }

-- of two tests against one bound the larger number's decides
larger-decides : (a b q : ℕ) (r : Bool) → a ≤ b → (ltb a q && (ltb b q && r)) ≡ (ltb b q && r)
larger-decides a b q r h = go (ltb b q) (λ t. lt-ltb a q (let f = ltb-true b q t in omega arith))
  where
    go : (t : Bool) → (t ≡ true → ltb a q ≡ true) → (ltb a q && (t && r)) ≡ (t && r)
    go true f = rw (f refl)
    go false f = simp and-false

swapped : (a b c : Bool) → (a && (b && c)) ≡ (b && (a && c))
swapped true b c = refl
swapped false true c = refl
swapped false false c = refl

module _ {s : List ℕ} {top k w : ℕ} (i : SeekingTop s top k) (h : k < length s) (e : w ≡ get_or s k 0) where
  -- the element at k, and those behind it
  ahead : (q : ℕ) → 0 < q → all_below q s ≡ (ltb top q && (ltb w q && all_below q (drop (k + 1) s)))
  unfolding all_below
  ahead q p = let f : get_or s k 0 ≡ w = sym e in i.same q p ∙ rw (drop-cons s k 0, f, add-one)

  pub seek-top-raise : top < w → SeekingTop s w (k + 1)
  seek-top-raise l = record { within = omega arith; same = λ q p. ahead q p ∙ larger-decides top w q _ (omega arith) }

  pub seek-top-keep : w ≤ top → SeekingTop s top (k + 1)
  seek-top-keep l = record { within = omega arith; same = λ q p. ahead q p ∙ swapped (ltb top q) (ltb w q) _ ∙ larger-decides w top q _ l }

pub seek-top-end : {s : List ℕ} {top k : ℕ} → SeekingTop s top k → length s ≤ k → Largest s top
unfolding all_below
seek-top-end {s} {top} {k} i h = record { same = λ q p. i.same q p ∙ rw (drop_of_length-le s {i = k} h, and-true) }
