-- The loops of the writer and its stores: what holds at each turn.
--   sorted-ascends   `ascending`: what is asked of each and the next
--   Spelling   `put_words`: the bytes of the first j words stand in the room;  spell-from, spell-on, spell-end
-- Assumes nothing.
use mathlib.Core.Path.{◌≡◌, refl, sym, ap, ap₂, subst, ◌∙◌}
use mathlib.Core.Bool.{Bool, true, false, ◌&&◌, and-false}
use Rattle.std.specs.List.{IsAllAdjacentAnswer}
use mathlib.Core.List.{List, [], ◌∷◌}
use Prim.Native.Nat.{ℕ, zero, suc, ◌+◌, ◌*◌, ◌/◌, ◌%◌, ◌≤◌, ◌<◌}
use native.Mathlib.Numerals.{add-one}
use native.Mathlib.Omega.{arith}
use lib.Dec.{ltb}
use lib.ListN.{length, get_or, take}
use lib.Seq.{take-suc, take-length}
use Rattle.job_text.specs.Lines.{Wrote}
use Rattle.job_text.proofs.Writing.{wrote_nothing, wrote_then, wrote-long}
use Rattle.job_writer.specs.Records.{word_bytes}
use Rattle.job_writer.specs.Calls.{ascends}
use Rattle.job_writer.proofs.Bytes.{word_bytes-append}

-- ---- `ascending`

-- the place behind the next
next : (k : ℕ) → suc k + 1 ≡ suc (k + 1)
next k = omega arith

-- each is below the next
each-below : (roots : List ℕ) → ((k : ℕ) → k + 1 < length roots → ltb (get_or roots k 0) (get_or roots (k + 1) 0) ≡ true) → ascends roots ≡ true
unfolding ascends
each-below [] f = refl
each-below (x ∷ []) f = refl
each-below (x ∷ y ∷ s) f = ap₂ (λ a b. a && b) (f 0 (omega arith)) (each-below (y ∷ s) (λ k h. subst (λ i. ltb (get_or (y ∷ s) k 0) (get_or (x ∷ y ∷ s) i 0) ≡ true) (next k) (f (suc k) (omega arith))))

-- one is not
one-above : (roots : List ℕ) (k : ℕ) → k + 1 < length roots → ltb (get_or roots k 0) (get_or roots (k + 1) 0) ≡ false → ascends roots ≡ false
unfolding ascends
one-above [] k h e = absurd (omega arith)
one-above (x ∷ []) k h e = absurd (omega arith)
one-above (x ∷ y ∷ s) zero h e = ap (λ b. b && ascends (y ∷ s)) e
one-above (x ∷ y ∷ s) (suc k) h e = ap (λ b. ltb x y && b) (one-above (y ∷ s) k (omega arith) (subst (λ i. ltb (get_or (y ∷ s) k 0) (get_or (x ∷ y ∷ s) i 0) ≡ false) (next k) e)) ∙ and-false (ltb x y)

pub sorted-ascends : (roots : List ℕ) (r : Bool) → IsAllAdjacentAnswer (λ x y b. b ≡ ltb x y) roots r → r ≡ ascends roots
sorted-ascends roots true f = sym (each-below roots (λ k h. sym (f k 0 h)))
sorted-ascends roots false f = sym (one-above roots f.0 f.1 (sym (f.2 0)))

-- ---- `put_words`

-- the bytes of the first j words stand in the room
pub record Spelling (ws : List ℕ) (at : ℕ) (old new : List ℕ) (end j : ℕ) : Type 0 where
  pub within : j ≤ length ws
  pub fits : at + 2 * length ws ≤ length old
  pub long : length new ≡ length old
  pub place : end ≡ at + 2 * j
  pub done : Wrote (word_bytes (take j ws)) at old end new

pub spell-from : (ws : List ℕ) (at : ℕ) (old : List ℕ) → at + 2 * length ws ≤ length old → Spelling ws at old old at 0
unfolding word_bytes
spell-from ws at old h =
    record { within = omega arith; fits = h; long = refl; place = omega arith; done = wrote_nothing }

pub spell-on : {ws : List ℕ} {at : ℕ} {old new new' : List ℕ} {end j : ℕ} → Spelling ws at old new end j → j < length ws
    → Wrote (get_or ws j 0 % 256 ∷ get_or ws j 0 / 256 ∷ []) end new (end + 2) new' → Spelling ws at old new' (end + 2) (j + 1)
unfolding word_bytes
spell-on {ws} {at} {old} {new} {new'} {end} {j} p h w = record {
  within = omega arith;
  fits = p.fits;
  long = wrote-long (omega (arith, p.place, p.fits, p.long)) w ∙ p.long;
  place = omega (arith, p.place);
  done = rw (add-one j, take-suc ws j 0, word_bytes-append) (wrote_then (omega (arith, p.fits)) p.done w);
}

pub spell-end : {ws : List ℕ} {at : ℕ} {old new : List ℕ} {end j : ℕ} → Spelling ws at old new end j → length ws ≤ j
    → Wrote (word_bytes ws) at old end new
spell-end {ws} {at} {old} {new} {end} {j} p h =
    let e : j ≡ length ws = omega (arith, p.within) in
    subst (λ l. Wrote (word_bytes l) at old end new) (ap (λ k. take k ws) e ∙ take-length ws) p.done
