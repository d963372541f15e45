-- The content of a word, byte by byte.
--   start-least, start-most   the data start behind 2 to 11 bytes
--   fits-short                data that fit are no more than a word carries
--   length-carried            the bytes between the check bits and the mark are as many as a word carries
--   content-low               the bytes of the check bits are 0
--   content-tail              what stands behind them
--   content-block             the content is a block
-- Assumes nothing.
use mathlib.Core.Path.{◌≡◌, sym, ap, ◌∙◌}
use mathlib.Core.Bool.{Bool, true, false}
use mathlib.Core.List.{List, [], ◌∷◌, ◌++◌}
use Prim.Native.Nat.{ℕ, zero, suc, ◌+◌, ◌-◌, ◌≤◌, ◌<◌}
use native.Mathlib.Omega.{arith}
use lib.ListN.{length, get_or, drop, replicate, length-append, length-replicate, get_or-replicate, get_or-append}
use lib.Seq.{drop_at, get_or-drop, get_or_at}
use Rattle.corrector.specs.Correcting.{IsBlock, IsStrength}
use Rattle.corrector.proofs.Blocks.{make-block}
use Rattle.corrector_stream.specs.Words.{data_start, capacity, end_byte, mark_of, Fits, carried, content}

-- every element is a byte
abbrev pub AreBytes : List ℕ → Type 0
AreBytes l = (k : ℕ) → get_or l k 0 < 256

bytes-append : (a b : List ℕ) → AreBytes a → AreBytes b → AreBytes (a ++ b)
bytes-append [] b u v k = v k
bytes-append (x ∷ a) b u v zero = u 0
bytes-append (x ∷ a) b u v (suc k) = bytes-append a b (λ j. u (suc j)) v k

bytes-zeros : (n : ℕ) → AreBytes (replicate n 0)
bytes-zeros zero k = omega arith
bytes-zeros (suc n) zero = omega arith
bytes-zeros (suc n) (suc k) = bytes-zeros n k

bytes-cons : (x : ℕ) (l : List ℕ) → x < 256 → AreBytes l → AreBytes (x ∷ l)
bytes-cons x l h u zero = h
bytes-cons x l h u (suc k) = u k

-- the data start behind at least two bytes
pub start-least : {t : ℕ} → IsStrength t → 2 ≤ data_start t
start-least s = let a = s.least in omega arith

-- and at most eleven
pub start-most : {t : ℕ} → IsStrength t → data_start t ≤ 11
start-most s = let a = s.most in omega arith

-- as many as a word carries
pub length-carried : {t : ℕ} {d : List ℕ} (last : Bool) → Fits t d last → length (carried t d last) ≡ capacity t
unfolding carried
length-carried {t} {d} true f =
    let h = f.fill in
    length-append d (end_byte ∷ replicate (capacity t - 1 - length d) 0)
    ∙ (let e = length-replicate {A = ℕ} (capacity t - 1 - length d) 0 in omega arith)
length-carried {t} {d} false f = f.fill

-- no more than fit
pub fits-short : {t : ℕ} {d : List ℕ} (last : Bool) → Fits t d last → length d ≤ capacity t
fits-short true f = let h = f.fill in omega arith
fits-short false f = let h = f.fill in omega arith

-- byte 255 is 0 or 1
pub mark-small : (last : Bool) → mark_of last < 2
mark-small true = omega arith
mark-small false = omega arith

module _ (t : ℕ) (d : List ℕ) (last : Bool) where
  -- the bytes of the check bits
  pub content-low : (k : ℕ) → k < data_start t → get_or (content t d last) k 0 ≡ 0
  unfolding content
  content-low k h =
      get_or-append (replicate (data_start t) 0) _ 0 k
      (let e = length-replicate {A = ℕ} (data_start t) 0 in omega arith)
      ∙ get_or-replicate (data_start t) k 0 0 h

  -- what stands behind them
  pub content-tail : drop (data_start t) (content t d last) ≡ carried t d last ++ mark_of last ∷ []
  unfolding content
  content-tail = drop_at (replicate (data_start t) 0) _ (data_start t) (length-replicate {A = ℕ} (data_start t) 0)

  -- byte by byte
  pub content-at : (i : ℕ)
      → get_or (content t d last) (data_start t + i) 0 ≡ get_or (carried t d last ++ mark_of last ∷ []) i 0
  content-at i = sym (get_or-drop (data_start t) (content t d last) i 0) ∙ ap (λ (l : List ℕ). get_or l i 0) content-tail

bytes-carried : {t : ℕ} {d : List ℕ} (last : Bool) → Fits t d last → AreBytes (carried t d last)
unfolding carried
bytes-carried {t} {d} true f =
    bytes-append d (end_byte ∷ replicate (capacity t - 1 - length d) 0) f.bytes
    (bytes-cons end_byte (replicate (capacity t - 1 - length d) 0) (omega arith)
    (bytes-zeros (capacity t - 1 - length d)))
bytes-carried {t} {d} false f = f.bytes

-- the content is a block
pub content-block : {t : ℕ} {d : List ℕ} {last : Bool} → IsStrength t → Fits t d last → IsBlock (content t d last)
unfolding content
content-block {t} {d} {last} s f =
    let m = start-most s in
    let l = length-carried last f in
    let z = length-replicate {A = ℕ} (data_start t) 0 in
    let w : List ℕ = carried t d last ++ mark_of last ∷ [] in
    let e : length w ≡ capacity t + 1 = length-append (carried t d last) (mark_of last ∷ []) ∙ ap (λ (n : ℕ). n + 1) l in
    let g : length (replicate {A = ℕ} (data_start t) 0 ++ w) ≡ 256 =
    length-append (replicate (data_start t) 0) w ∙ (omega arith) in
    let b : AreBytes w =
    bytes-append (carried t d last) (mark_of last ∷ []) (bytes-carried last f)
    (bytes-cons (mark_of last) [] (let x = mark-small last in omega arith) (λ k. omega arith)) in
    let p : data_start t + capacity t ≡ 255 = omega arith in
    let q : get_or (content t d last) 255 0 ≡ mark_of last =
    ap (λ (n : ℕ). get_or (content t d last) n 0) (sym p) ∙ content-at t d last (capacity t)
    ∙ get_or_at (carried t d last) (mark_of last) [] 0 (capacity t) l in
    make-block g (bytes-append (replicate (data_start t) 0) w (bytes-zeros (data_start t)) b)
    (let x = mark-small last in omega arith)
