-- What a word carries, told by its bytes.
--   Shaped t v d last    the bits behind the check bits in their last byte are 0, and the bytes behind are those of the
--                        content
--   carries-shape, shape-carries   a block of that shape carries the data, and back
--   shape-mark           byte 255 is the mark
--   shape-data           the data stand behind the check bits
--   carried-unique       A WORD CARRIES ONE THING
-- Assumes nothing.
use mathlib.Core.Path.{◌≡◌, refl, sym, ap, ap₂, ◌∙◌, subst}
use mathlib.Core.Bool.{Bool, true, false}
use mathlib.Core.List.{List, [], ◌∷◌, ◌++◌, append_assoc}
use Prim.Native.Nat.{ℕ, ◌+◌, ◌-◌, ◌*◌, ◌/◌, ◌%◌, ◌^◌, ◌≤◌, ◌<◌}
use native.Mathlib.Nat.{zero-div}
use native.Mathlib.Decide.{dec_lt}
use native.Mathlib.Omega.{arith}
use lib.ListN.{length, get_or, take, drop, replicate, length-append, length-drop, drop_of_length-le, take-append-drop}
use lib.Seq.{take_at, get_or_at, get_or-drop, drop-cons, drop-drop, length-take-le, ext_get_or}
use Rattle.corrector.specs.Correcting.{bit_at, IsBlock, IsStrength}
use Rattle.corrector_stream.specs.Words.{data_start, capacity, end_byte, mark_of, Fits, carried, content, Carries}
use Rattle.corrector_stream.specs.Parts.{Padded}
use Rattle.corrector_stream.proofs.Bits.{byte-told, above_zero, zero-above}
use Rattle.corrector_stream.proofs.Contents.{start-least, start-most, length-carried, content-low, content-at}
use Rattle.corrector_stream.proofs.Contents.{content-block}
use Rattle.corrector_stream.proofs.Ends.{padded-unique}

-- one more than the highest value of the byte that holds the last check bits, as a power of 2
abbrev pub check_bits : ℕ → ℕ
check_bits t = 11 * t - 8 * (data_start t - 1)

-- the bytes of a word that carries d
pub record Shaped (t : ℕ) (v d : List ℕ) (last : Bool) : Type 0 where
  pub low : get_or v (data_start t - 1) 0 < 2 ^ check_bits t
  pub high : drop (data_start t) v ≡ carried t d last ++ mark_of last ∷ []

module _ {t : ℕ} {v d : List ℕ} {last : Bool} (s : IsStrength t) (b : IsBlock v) where
  -- the bytes behind the check bits are those of the content
  high-at : Shaped t v d last → (k : ℕ) → data_start t ≤ k → get_or v k 0 ≡ get_or (content t d last) k 0
  high-at h k l =
      let i : ℕ = k - data_start t in
      let e : data_start t + i ≡ k = omega arith in
      ap (λ (n : ℕ). get_or v n 0) (sym e) ∙ sym (get_or-drop (data_start t) v i 0)
      ∙ ap (λ (l : List ℕ). get_or l i 0) h.high
      ∙ sym (content-at t d last i) ∙ ap (λ (n : ℕ). get_or (content t d last) n 0) e

  -- a word of that shape carries the data
  pub shape-carries : Fits t d last → Shaped t v d last → Carries t v d last
  shape-carries f h = record { fits = f; same = λ j p q. go j p (dec_lt j (8 * data_start t)) }
    where
      go : (j : ℕ) → 11 * t ≤ j → Dec (j < 8 * data_start t) → bit_at v j ≡ bit_at (content t d last) j
      go j p (yes l) =
          let u = start-least s in
          let e : j / 8 ≡ data_start t - 1 = omega arith in
          let x : get_or v (data_start t - 1) 0 / 2 ^ (j % 8) % 2 ≡ 0 = above_zero h.low (omega arith) in
          let z : get_or (content t d last) (j / 8) 0 ≡ 0 = content-low t d last (j / 8) (omega arith) in
          ap (λ (n : ℕ). get_or v n 0 / 2 ^ (j % 8) % 2) e ∙ x
          ∙ sym (ap (λ (n : ℕ). n / 2 ^ (j % 8) % 2) z ∙ ap (λ (n : ℕ). n % 2) (zero-div (2 ^ (j % 8))))
      go j p (no l) = ap (λ (n : ℕ). n / 2 ^ (j % 8) % 2) (high-at h (j / 8) (omega arith))

  -- a bit of the last byte of check bits that is none
  spare-bit : Carries t v d last → (i : ℕ) → check_bits t ≤ i → i < 8 → get_or v (data_start t - 1) 0 / 2 ^ i % 2 ≡ 0
  spare-bit c i p q =
      let u = start-least s in
      let m = start-most s in
      let j : ℕ = 8 * (data_start t - 1) + i in
      let e : j / 8 ≡ data_start t - 1 = omega arith in
      let r : j % 8 ≡ i = omega arith in
      let z : get_or (content t d last) (j / 8) 0 ≡ 0 = content-low t d last (j / 8) (omega arith) in
      sym (ap₂ (λ (n k : ℕ). get_or v n 0 / 2 ^ k % 2) e r) ∙ c.same j (omega arith) (omega arith)
      ∙ ap (λ (n : ℕ). n / 2 ^ (j % 8) % 2) z ∙ ap (λ (n : ℕ). n % 2) (zero-div (2 ^ (j % 8)))

  -- a byte behind the check bits
  carried-byte : Carries t v d last → (k : ℕ) → data_start t ≤ k → k < 256 → get_or v k 0 ≡ get_or (content t d last) k 0
  carried-byte c k p q =
      let x = content-block s c.fits in
      byte-told (b.bytes k) (x.bytes k) (λ i l. go i l (dec_lt (8 * k + i) 2047))
    where
      go : (i : ℕ) → i < 8 → Dec (8 * k + i < 2047) → get_or v k 0 / 2 ^ i % 2 ≡ get_or (content t d last) k 0 / 2 ^ i % 2
      go i l (yes m) =
          let e : (8 * k + i) / 8 ≡ k = omega arith in
          let r : (8 * k + i) % 8 ≡ i = omega arith in
          sym (ap₂ (λ (n j : ℕ). get_or v n 0 / 2 ^ j % 2) e r) ∙ c.same (8 * k + i) (omega arith) m
          ∙ ap₂ (λ (n j : ℕ). get_or (content t d last) n 0 / 2 ^ j % 2) e r
      go i l (no m) =
          let e : 255 ≡ k = omega arith in
          let r : 7 ≡ i = omega arith in
          let x = content-block s c.fits in
          sym (ap₂ (λ (n j : ℕ). get_or v n 0 / 2 ^ j % 2) e r) ∙ b.last ∙ sym x.last
          ∙ ap₂ (λ (n j : ℕ). get_or (content t d last) n 0 / 2 ^ j % 2) e r

  -- and back: a word that carries data has that shape
  pub carries-shape : Carries t v d last → Shaped t v d last
  carries-shape c =
      let m = start-most s in
      let u = start-least s in
      let w : List ℕ = carried t d last ++ mark_of last ∷ [] in
      let n : length (drop (data_start t) v) ≡ 256 - data_start t =
      length-drop (data_start t) v ∙ ap (λ (k : ℕ). k - data_start t) b.long in
      let e : length w ≡ capacity t + 1 =
      length-append (carried t d last) (mark_of last ∷ []) ∙ ap (λ (k : ℕ). k + 1) (length-carried last c.fits) in
      record {
        low = zero-above (b.bytes (data_start t - 1)) (omega arith) (spare-bit c);
        high = ext_get_or 0 (drop (data_start t) v) w (omega arith)
            (λ i l. get_or-drop (data_start t) v i 0 ∙ carried-byte c (data_start t + i) (omega arith) (omega arith)
            ∙ content-at t d last i);
      }

  -- byte 255 is the mark
  pub shape-mark : Fits t d last → Shaped t v d last → get_or v 255 0 ≡ mark_of last
  shape-mark f h =
      let m = start-most s in
      let e : data_start t + capacity t ≡ 255 = omega arith in
      ap (λ (n : ℕ). get_or v n 0) (sym e) ∙ sym (get_or-drop (data_start t) v (capacity t) 0)
      ∙ ap (λ (l : List ℕ). get_or l (capacity t) 0) h.high
      ∙ get_or_at (carried t d last) (mark_of last) [] 0 (capacity t) (length-carried last f)

  -- the bytes between the check bits and the mark
  pub shape-carried : Fits t d last → Shaped t v d last → take (capacity t) (drop (data_start t) v) ≡ carried t d last
  shape-carried f h =
      ap (take (capacity t)) h.high ∙ take_at (carried t d last) _ (capacity t) (length-carried last f)

  -- the mark and what stands in front of it
  pub whole-shape : get_or v (data_start t - 1) 0 < 2 ^ check_bits t
      → take (capacity t) (drop (data_start t) v) ≡ carried t d last
      → get_or v 255 0 ≡ mark_of last → Shaped t v d last
  whole-shape l e m =
      let x = start-most s in
      let p : data_start t + capacity t ≡ 255 = omega arith in
      let y : drop 255 v ≡ get_or v 255 0 ∷ [] =
      drop-cons v 255 0 (let g = b.long in omega arith)
      ∙ ap (λ (r : List ℕ). get_or v 255 0 ∷ r) (drop_of_length-le v {i = 256} (let g = b.long in omega arith)) in
      record {
        low = l;
        high = sym (take-append-drop (capacity t) (drop (data_start t) v))
            ∙ ap₂ (λ (f r : List ℕ). f ++ r) e
            (drop-drop (capacity t) (data_start t) v ∙ ap (λ (n : ℕ). drop n v) p ∙ y ∙ ap (λ (n : ℕ). n ∷ []) m);
      }

-- the data stand behind the check bits
pub shape-data : {t : ℕ} {v d : List ℕ} (last : Bool) → Shaped t v d last → take (length d) (drop (data_start t) v) ≡ d
unfolding carried
shape-data {t} {v} {d} true h =
    let z : List ℕ = replicate (capacity t - 1 - length d) 0 in
    ap (take (length d)) (h.high ∙ append_assoc d (end_byte ∷ z) (1 ∷ [])) ∙ take_at d _ (length d) refl
shape-data {t} {v} {d} false h = ap (take (length d)) h.high ∙ take_at d _ (length d) refl

-- bytes between the check bits and the mark that end where d does
pub carried-padded : {t : ℕ} {b d : List ℕ} → length b ≡ capacity t → Fits t d true → b ≡ carried t d true → Padded b d
unfolding carried
carried-padded {t} {b} {d} l f e =
    let h = f.fill in
    record {
      shorter = omega arith;
      is = e ∙ ap (λ (n : ℕ). d ++ end_byte ∷ replicate (n - 1 - length d) 0) (sym l);
    }

-- and back
pub padded-carried : (t : ℕ) {b d : List ℕ} → length b ≡ capacity t → Padded b d → b ≡ carried t d true
unfolding carried
padded-carried t {b} {d} l p = p.is ∙ ap (λ (n : ℕ). d ++ end_byte ∷ replicate (n - 1 - length d) 0) l

-- marks tell which word is the last
mark-told : (l m : Bool) → mark_of l ≡ mark_of m → l ≡ m
mark-told true true e = refl
mark-told true false e = absurd (omega arith)
mark-told false true e = absurd (omega arith)
mark-told false false e = refl

-- the same data, where the mark is the same
same-data : {t : ℕ} {v d e : List ℕ} (last : Bool) → IsStrength t → IsBlock v → Carries t v d last
    → Carries t v e last → d ≡ e
unfolding carried
same-data {t} {v} {d} {e} true s b x y =
    let g = carries-shape s b x in
    let h = carries-shape s b y in
    let r : List ℕ = take (capacity t) (drop (data_start t) v) in
    let l : length r ≡ capacity t = length-take-le (capacity t) (drop (data_start t) v)
    (let a = length-drop (data_start t) v in let c = b.long in let m = start-most s in omega arith) in
    padded-unique (carried-padded l x.fits (shape-carried s b x.fits g))
    (carried-padded l y.fits (shape-carried s b y.fits h))
same-data {t} {v} {d} {e} false s b x y =
    let g = carries-shape s b x in
    let h = carries-shape s b y in
    sym (shape-carried s b x.fits g) ∙ shape-carried s b y.fits h

-- A WORD CARRIES ONE THING
pub carried-unique : {t : ℕ} {v d e : List ℕ} {last more : Bool} → IsStrength t → IsBlock v → Carries t v d last
    → Carries t v e more → (d ≡ e) × (last ≡ more)
carried-unique {t} {v} {d} {e} {last} {more} s b x y =
    let m : last ≡ more = mark-told last more
    (sym (shape-mark s b x.fits (carries-shape s b x)) ∙ shape-mark s b y.fits (carries-shape s b y)) in
    (same-data more s b (subst (λ (l : Bool). Carries t v d l) m x) y, m)
