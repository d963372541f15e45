-- The roots spread by the numbers beside them.
--   Spreading     the front of the list holds what the roots so far give, and the rest is as long as what lies ahead
--   spread-from, spread-reads, spread-fits, spread-on, spread_end   the start, what a turn reads, a turn and the end
-- Assumes nothing.
use mathlib.Core.Path.{◌≡◌, refl, sym, ap, ap₂, ◌∙◌}
use mathlib.Core.List.{List, [], ◌++◌, append_assoc, append-nil}
use Prim.Native.Nat.{ℕ, suc, ◌+◌, ◌-◌, ◌≤◌, ◌<◌}
use native.Mathlib.Numerals.{add-one}
use native.Mathlib.Omega.{arith}
use lib.ListN.{drop, drop_of_length-le, get_or, length, length-append, length-drop, length-replicate, replicate, take}
use lib.Seq.{drop-cons, length-take-le, take_all, take_at}
use Rattle.claim_rules.specs.Claims.{spread_out}
use Rattle.claim_rules.proofs.Products.{spread-length}
use Rattle.claims.specs.Checking.{Spreadable}

pub record Spreading (roots es list₀ list : List ℕ) (at i : ℕ) : Type 0 where
  pub paired : length roots ≡ length es
  pub long : length list ≡ length list₀
  pub rest : at + length (spread_out (drop i roots) (drop i es)) ≡ length list
  pub done : spread_out roots es ≡ take at list ++ spread_out (drop i roots) (drop i es)

pub spread-from : {roots es list : List ℕ} → Spreadable roots es list → Spreading roots es list list 0 0
spread-from {roots} {es} {list} s = record { paired = s.paired; long = refl; rest = omega (arith, spread-length roots es s.paired, s.room); done = refl }

module _ {roots es list₀ list : List ℕ} {at i : ℕ} (s : Spreading roots es list₀ list at i) (l : i < length roots) where
  -- the next root, and what is behind it
  here : spread_out (drop i roots) (drop i es) ≡ replicate (get_or es i 0) (get_or roots i 0) ++ spread_out (drop (suc i) roots) (drop (suc i) es)
  unfolding spread_out
  here = ap₂ (λ (a : List ℕ) (b : List ℕ). spread_out a b) (drop-cons roots i 0 l) (drop-cons es i 0 (omega (arith, s.paired)))

  -- it fits
  pub spread-fits : at + get_or es i 0 ≤ length list
  spread-fits =
      omega (arith, s.rest, ap length here, length-append (replicate (get_or es i 0) (get_or roots i 0)) (spread_out (drop (suc i) roots) (drop (suc i) es)), length-replicate (get_or es i 0) (get_or roots i 0))

  -- there is a number beside it
  pub spread-reads : i < length es
  spread-reads = omega (arith, s.paired)

  -- it is written
  pub spread-on : {y : List ℕ} {end : ℕ} → end ≡ at + get_or es i 0 → y ≡ replicate (length (take (end - at) (drop at list))) (get_or roots i 0)
      → Spreading roots es list₀ (take at list ++ (y ++ drop (end - at) (drop at list))) end (i + 1)
  spread-on {y} {end} q e =
      let n : ℕ = get_or es i 0 in
      let r : ℕ = get_or roots i 0 in
      let fits : at + n ≤ length list = spread-fits in
      let ahead : List ℕ = spread_out (drop (suc i) roots) (drop (suc i) es) in
      let k : length (take (end - at) (drop at list)) ≡ n = length-take-le (end - at) (drop at list) (omega (arith, length-drop at list)) ∙ omega arith in
      let ys : y ≡ replicate n r = e ∙ ap (λ j. replicate j r) k in
      let yl : length y ≡ n = ap length ys ∙ length-replicate n r in
      let al : length (take at list) ≡ at = length-take-le at list (omega arith) in
      let front : length (take at list ++ y) ≡ end = omega (arith, length-append (take at list) y) in
      let new : List ℕ = take at list ++ (y ++ drop (end - at) (drop at list)) in
      let same : length new ≡ length list =
      omega (arith, length-append (take at list) (y ++ drop (end - at) (drop at list)), length-append y (drop (end - at) (drop at list)), length-drop (end - at) (drop at list), length-drop at list) in
      let taken : take end new ≡ take at list ++ y =
      ap (take end) (sym (append_assoc (take at list) y (drop (end - at) (drop at list)))) ∙ take_at (take at list ++ y) (drop (end - at) (drop at list)) end front in
      record {
        paired = s.paired;
        long = same ∙ s.long;
        rest = ap (λ j. end + length (spread_out (drop j roots) (drop j es))) (add-one i)
            ∙ omega (arith, s.rest, ap length here, length-append (replicate n r) ahead, length-replicate n r);
        done = s.done ∙ ap (λ u. take at list ++ u) here ∙ sym (append_assoc (take at list) (replicate n r) ahead)
            ∙ ap₂ (λ u j. u ++ spread_out (drop j roots) (drop j es)) (ap (λ u. take at list ++ u) (sym ys) ∙ sym taken) (sym (add-one i));
      }

-- nothing lies ahead
pub spread_end : {roots es list₀ list : List ℕ} {at i : ℕ} → Spreading roots es list₀ list at i → length roots ≤ i → list ≡ spread_out roots es
unfolding spread_out
spread_end {roots} {es} {list₀} {list} {at} {i} s h =
    let gone : spread_out (drop i roots) (drop i es) ≡ [] = ap (λ (u : List ℕ). spread_out u (drop i es)) (drop_of_length-le roots h) in
    sym (s.done ∙ ap₂ (λ u v. u ++ v) (take_all at list (omega (arith, s.rest, ap length gone))) gone ∙ append-nil list)
