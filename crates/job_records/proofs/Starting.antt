-- The tests of the bytes from a place on: which refusal the code's tests show, and that none holds where all fail.
--   start-one, start-mark, start-short   one byte, no mark, any later shortage
--   start-whole      a complete record
--   stops, goes_on   the outcome of each
-- Assumes nothing.
use mathlib.Core.Path.{◌≡◌, refl, sym, ap, ap₂, ◌∙◌}
use mathlib.Core.Bool.{Bool, true, false, not, ◌&&◌, and-true}
use mathlib.Core.List.{List, [], ◌∷◌}
use Prim.Native.Nat.{ℕ, ◌≤◌, ◌<◌}
use native.Mathlib.Omega.{arith}
use borrow.Author.Tests.{le-ltb, lt-ltb, eq-eqb, ne_eqb, eqb-true, eqb-false}
use lib.ListN.{length}
use lib.Dec.{eqb}
use lib.Pointwise.{pointwise}
use Rattle.std.specs.List.{starts_with}
use Rattle.refusals.specs.Order.{Given, Passed}
use Rattle.refusals.specs.Order.Passed.{none}
use Rattle.refusals.proofs.Order.{holds, fails, passes, given-decides, passed-decides}
use Rattle.job_records.specs.Layout.{mark_low, mark_high, marked, record_length}
use Rattle.job_records.specs.Reading.{Outcome, start_tests, judged, read_here}

-- which of two numbers stands first does not matter
swapped : (a b : ℕ) → eqb a b ≡ eqb b a
swapped a b = go (eqb b a) refl
  where
    go : (t : Bool) → eqb b a ≡ t → eqb a b ≡ t
    go true e = eq-eqb a b (sym (eqb-true b a e))
    go false e = ne_eqb a b (λ f. eqb-false b a e (sym f))

-- a text of two bytes or more begins with the mark where its first two are those of the mark
mark-read : (r : List ℕ) → 2 ≤ length r → starts_with eqb r (mark_low ∷ mark_high ∷ []) ≡ marked r
unfolding pointwise
mark-read [] h = absurd (omega arith)
mark-read (a ∷ []) h = absurd (omega arith)
mark-read (a ∷ b ∷ r) h = ap₂ (λ s t. s && t) (swapped mark_low a) (ap (λ t. t && true) (swapped mark_high b) ∙ and-true _)

module _ (r : List ℕ) where
  pub start-one : length r < 2 → Given 12 (start_tests r)
  start-one h = holds (lt-ltb (length r) 2 h)

  pub start-mark : 2 ≤ length r → starts_with eqb r (mark_low ∷ mark_high ∷ []) ≡ false → Given 11 (start_tests r)
  start-mark h e = fails (le-ltb (length r) 2 h) (holds (ap not (sym (mark-read r h) ∙ e)))

  module _ (h : 2 ≤ length r) (e : starts_with eqb r (mark_low ∷ mark_high ∷ []) ≡ true) where
    -- the mark is there
    its-mark : not (marked r) ≡ false
    its-mark = ap not (sym (mark-read r h) ∙ e)

    pub start-short : length r < record_length r → Given 12 (start_tests r)
    start-short s = fails (le-ltb (length r) 2 h) (fails its-mark (holds (lt-ltb (length r) (record_length r) s)))

    pub start-whole : record_length r ≤ length r → Passed (start_tests r)
    start-whole s = passes (le-ltb (length r) 2 h) (passes its-mark (passes (le-ltb (length r) (record_length r) s) none))

pub stops : (at : ℕ) {k : ℕ} (r : List ℕ) → 0 < length r → Given k (start_tests r) → read_here at r ≡ Outcome.gives k []
unfolding read_here
stops at [] h g = absurd (omega arith)
stops at (b ∷ bs) h g = given-decides _ _ g

pub goes_on : (at : ℕ) (r : List ℕ) → 0 < length r → Passed (start_tests r) → read_here at r ≡ judged at r
unfolding read_here
goes_on at [] h p = absurd (omega arith)
goes_on at (b ∷ bs) h p = passed-decides _ _ p
