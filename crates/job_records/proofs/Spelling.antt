-- The loops over the words of bytes: what holds at each turn.
--   Topping   `top` is the largest of the first k words;  top_from, top-raise, top-keep, top-end
--   Spelling  the first k words stand in the room;  spell-from, spell-on, spell-end
-- Assumes nothing.
use mathlib.Core.Path.{◌≡◌, refl, sym, ap, subst, ◌∙◌}
use mathlib.Core.List.{List}
use Prim.Native.Nat.{ℕ, suc, ◌+◌, ◌*◌, ◌/◌, ◌≤◌, ◌<◌}
use native.Mathlib.Nat.{zero-add}
use native.Mathlib.Numerals.{add-one}
use native.Mathlib.Omega.{arith}
use lib.ListN.{length, get_or, set, length-set}
use lib.Seq.{take-length, paste, paste-zero, paste-suc}
use Rattle.slices.specs.Lists.{copied}
use Rattle.input.specs.Values.{Largest}
use Rattle.input.proofs.Seeking.{SeekingTop, seek-top-from, seek-top-raise, seek-top-keep, seek-top-end}
use Rattle.job_records.specs.Layout.{word, words}
use Rattle.job_records.specs.Reading.{Spelled}
use Rattle.job_records.proofs.Words.{length-words, word_at}

-- ---- `largest`

-- the search among the words, of which there are half as many as bytes
pub record Topping (bytes : List ℕ) (top k : ℕ) : Type 0 where
  pub count : length (words bytes) ≡ length bytes / 2
  pub seeking : SeekingTop (words bytes) top k

pub top_from : (bytes : List ℕ) → Topping bytes 0 0
top_from bytes = record { count = length-words bytes; seeking = seek-top-from (words bytes) }

module _ {bytes : List ℕ} {top k w : ℕ} (s : Topping bytes top k) (h : k < length bytes / 2) (e : w ≡ word (get_or bytes (2 * k) 0) (get_or bytes (2 * k + 1) 0)) where
  inside : k < length (words bytes)
  inside = omega (arith, s.count)

  is_word : w ≡ get_or (words bytes) k 0
  is_word = e ∙ sym (word_at bytes k (omega arith))

  pub top-raise : top < w → Topping bytes w (k + 1)
  top-raise l = record { count = s.count; seeking = seek-top-raise s.seeking inside is_word l }

  pub top-keep : w ≤ top → Topping bytes top (k + 1)
  top-keep l = record { count = s.count; seeking = seek-top-keep s.seeking inside is_word l }

pub top-end : {bytes : List ℕ} {top k : ℕ} → Topping bytes top k → length bytes / 2 ≤ k → Largest (words bytes) top
top-end s h = seek-top-end s.seeking (omega (arith, s.count))

-- ---- `coefficients`

-- the first k words stand in the room
pub record Spelling (bytes room₀ room : List ℕ) (k : ℕ) : Type 0 where
  pub count : length (words bytes) ≡ length bytes / 2
  pub within : k ≤ length (words bytes)
  pub fits : length (words bytes) ≤ length room₀
  pub long : length room ≡ length room₀
  pub done : room ≡ paste room₀ 0 (words bytes) k

pub spell-from : (bytes room : List ℕ) → length (words bytes) ≤ length room → Spelling bytes room room 0
spell-from bytes room h = record { count = length-words bytes; within = omega arith; fits = h; long = refl; done = paste-zero room 0 (words bytes) }

pub spell-on : {bytes room₀ room : List ℕ} {k w : ℕ} → Spelling bytes room₀ room k → k < length bytes / 2
    → w ≡ word (get_or bytes (2 * k) 0) (get_or bytes (2 * k + 1) 0) → Spelling bytes room₀ (set room k w) (k + 1)
spell-on {bytes} {room₀} {room} {k} {w} s h e =
    let ws = words bytes in
    let l : k < length ws = omega (arith, s.count) in
    let f : w ≡ get_or ws k 0 = e ∙ sym (word_at bytes k (omega arith)) in
    record {
      count = s.count;
      within = omega (arith, s.count);
      fits = s.fits;
      long = length-set room k w ∙ s.long;
      done = rw (f, add-one) (ap (λ u. set u k (get_or ws k 0)) s.done ∙ subst (λ i. set (paste room₀ 0 ws k) i (get_or ws k 0) ≡ paste room₀ 0 ws (suc k)) (zero-add k) (paste-suc room₀ 0 ws k 0 (omega (arith, s.fits)) l));
    }

pub spell-end : {bytes room₀ room : List ℕ} {k : ℕ} → Spelling bytes room₀ room k → length bytes / 2 ≤ k → Spelled bytes room₀ (length bytes / 2) room
unfolding copied
spell-end {bytes} {room₀} {room} {k} s h =
    let f : k ≡ length (words bytes) = omega (arith, s.within, s.count) in
    record { count = sym s.count; slots = s.done ∙ rw (f, take-length, zero-add) }
