-- A loop that writes one list over another as long: what holds at each turn.
--   Storing    the first j elements of w stand in s
--   store-from, store-on, store-end   from turn to turn
-- Assumes nothing.
use mathlib.Core.Path.{◌≡◌, refl, sym, ap, ap₂, ◌∙◌}
use mathlib.Core.List.{List, [], ◌∷◌, ◌++◌, append-nil}
use Prim.Native.Nat.{ℕ, zero, suc, ◌+◌, ◌≤◌, ◌<◌}
use native.Mathlib.Nat.{not-suc-le-zero, le_of_suc-le-suc}
use native.Mathlib.Numerals.{add-one}
use native.Mathlib.Omega.{arith}
use lib.ListN.{length, get_or, take, drop, set, length-set, drop_of_length-le}
use lib.Seq.{take-length, drop-length}

-- the first j elements of w stand in s
pub record Storing (w s₀ s : List ℕ) (j : ℕ) : Type 0 where
  pub within : j ≤ length w
  pub room : length w ≡ length s₀
  pub long : length s ≡ length s₀
  pub done : s ≡ take j w ++ drop j s₀

pub store-from : {w s : List ℕ} → length w ≡ length s → Storing w s s 0
store-from h = record { within = omega arith; room = h; long = refl; done = refl }

-- a turn sets one more
turned : (w s : List ℕ) (j : ℕ) → j < length w → length w ≡ length s → set (take j w ++ drop j s) j (get_or w j 0) ≡ take (suc j) w ++ drop (suc j) s
turned [] s j h e = absurd (not-suc-le-zero h)
turned (x ∷ w) [] j h e = absurd (let b : ⊥ = omega arith in b)
turned (x ∷ w) (y ∷ s) zero h e = refl
turned (x ∷ w) (y ∷ s) (suc j) h e = ap (λ l. x ∷ l) (turned w s j (le_of_suc-le-suc h) (omega arith))

pub store-on : {w s₀ s : List ℕ} {j : ℕ} → Storing w s₀ s j → j < length w → Storing w s₀ (set s j (get_or w j 0)) (j + 1)
store-on {w} {s₀} {s} {j} p h = record {
  within = omega arith;
  room = p.room;
  long = length-set s j (get_or w j 0) ∙ p.long;
  done = ap (λ u. set u j (get_or w j 0)) p.done ∙ turned w s₀ j h p.room ∙ ap (λ k. take k w ++ drop k s₀) (sym (add-one j));
}

pub store-end : {w s₀ s : List ℕ} {j : ℕ} → Storing w s₀ s j → length w ≤ j → s ≡ w
store-end {w} {s₀} {s} {j} p h =
    let e : j ≡ length w = omega (arith, p.within) in
    p.done ∙ ap (λ k. take k w ++ drop k s₀) e ∙ ap₂ (λ u v. u ++ v) (take-length w) (drop_of_length-le s₀ (omega (arith, p.room))) ∙ append-nil w
