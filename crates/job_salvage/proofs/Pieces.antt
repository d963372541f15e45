-- The pieces of a file, place by place.
--   pieces-behind    what belongs to the record before is passed over
--   pieces_kept      where a record is kept: it, and then the pieces behind it
--   pieces-dropped   else: one byte, and then the pieces behind that
--   pieces-over      behind the end of the file there are none
--   pieces-gap       where none is kept between two places, the bytes between them are dropped
--   Gap, next-gap    what `next_kept` says: a gap, then a record or the end of the file
--   pieces_whole     THE PIECES ARE THE FILE: nothing is altered, nothing is lost and nothing is taken twice
-- Assumes nothing.
use mathlib.Core.Path.{◌≡◌, refl, sym, ap, ap₂, ◌∙◌}
use mathlib.Core.Bool.{Bool, true, false, true≢false}
use mathlib.Core.List.{List, [], ◌∷◌, ◌++◌}
use Prim.Native.Nat.{ℕ, zero, suc, ◌+◌, ◌-◌, ◌≤◌, ◌<◌}
use native.Mathlib.Nat.{add-zero}
use native.Mathlib.Omega.{arith}
use lib.ListN.{length, get_or, take, drop, length-drop, take-append-drop, drop_of_length-le}
use lib.Seq.{length-take-le, drop-cons, drop-drop, drop-nil}
use Rattle.job_records.specs.Layout.{record_length, part}
use Rattle.job_records.specs.Reading.{read_here}
use Rattle.job_salvage.specs.Pieces.{keeps, front_record, Piece, pieces_behind, pieces, bytes_of}
use Rattle.job_salvage.specs.Calls.{NoneKept, NextIs}
use Rattle.job_salvage.specs.Calls.NextIs.{found, nothing}
use Rattle.job_salvage.proofs.Keeping.{keeps-whole}

-- ---- at the front of bytes

pieces-behind : (k : ℕ) (bs : List ℕ) → pieces_behind k bs ≡ pieces (drop k bs)
unfolding pieces_behind
pieces-behind zero bs = refl
pieces-behind (suc k) [] = refl
pieces-behind (suc k) (b ∷ bs) = pieces-behind k bs

pub pieces_kept : (r : List ℕ) → keeps r ≡ true → pieces r ≡ Piece.kept (front_record r) ∷ pieces (drop (record_length r) r)
unfolding pieces_behind read_here
pieces_kept [] e = absurd (true≢false (sym e))
pieces_kept (b ∷ bs) e =
    let n : record_length (b ∷ bs) ≡ suc (record_length (b ∷ bs) - 1) = omega arith in
    rw e (ap (λ ps. Piece.kept (front_record (b ∷ bs)) ∷ ps) (pieces-behind (record_length (b ∷ bs) - 1) bs ∙ ap (λ k. pieces (drop k (b ∷ bs))) (sym n)))

pub pieces-dropped : (b : ℕ) (bs : List ℕ) → keeps (b ∷ bs) ≡ false → pieces (b ∷ bs) ≡ Piece.dropped b ∷ pieces bs
unfolding pieces_behind
pieces-dropped b bs e = rw e

-- ---- at a place of a file

pub pieces-over : (file : List ℕ) {at : ℕ} → length file ≤ at → pieces (drop at file) ≡ []
unfolding pieces_behind
pieces-over file {at} h = ap pieces (drop_of_length-le file h)

-- bytes, each dropped
unfoldable pub all_dropped : List ℕ → List Piece
all_dropped [] = []
all_dropped (b ∷ bs) = Piece.dropped b ∷ all_dropped bs

-- d bytes further
gap-on : (file : List ℕ) (d at : ℕ) → at + d ≤ length file → NoneKept file at (at + d)
    → pieces (drop at file) ≡ all_dropped (part file at d) ++ pieces (drop (at + d) file)
unfolding all_dropped
gap-on file zero at h none = ap (λ i. pieces (drop i file)) (sym (add-zero at))
gap-on file (suc d) at h none =
    let c : drop at file ≡ get_or file at 0 ∷ drop (suc at) file = drop-cons file at 0 (omega arith) in
    let no : keeps (get_or file at 0 ∷ drop (suc at) file) ≡ false = ap keeps (sym c) ∙ none at (omega arith) (omega arith) in
    let e : suc at + d ≡ at + suc d = omega arith in
    ap pieces c ∙ pieces-dropped (get_or file at 0) (drop (suc at) file) no
    ∙ ap (λ ps. Piece.dropped (get_or file at 0) ∷ ps) (gap-on file d (suc at) (omega arith) (λ i a b. none i (omega arith) (omega arith)))
    ∙ ap₂ (λ l i. all_dropped (take (suc d) l) ++ pieces (drop i file)) (sym c) e

pieces-gap : (file : List ℕ) {at start : ℕ} → at ≤ start → start ≤ length file → NoneKept file at start
    → pieces (drop at file) ≡ all_dropped (part file at (start - at)) ++ pieces (drop start file)
pieces-gap file {at} {start} a b none =
    let e : at + (start - at) ≡ start = omega arith in
    gap-on file (start - at) at (omega arith) (λ i l h. none i l (omega arith)) ∙ ap (λ i. all_dropped (part file at (start - at)) ++ pieces (drop i file)) e

-- a record of these bytes, where there are any
unfoldable pub record_in : List ℕ → List Piece
record_in [] = []
record_in (b ∷ bs) = Piece.kept (b ∷ bs) ∷ []

-- from `at` on: dropped up to the start, a record up to the end, and what is behind; where there is no record, the end
-- is that of the file
pub record Gap (file : List ℕ) (at start end : ℕ) : Type 0 where
  pub ahead : at ≤ start
  pub behind : start ≤ end
  pub within : end ≤ length file
  pub onward : at < end
  pub last : start ≡ end → end ≡ length file
  pub are : pieces (drop at file) ≡ all_dropped (part file at (start - at)) ++ (record_in (part file start (end - start)) ++ pieces (drop end file))

-- a record is no empty list
record-in : (r : List ℕ) → 0 < length r → record_in r ≡ Piece.kept r ∷ []
unfolding record_in
record-in [] h = absurd (omega arith)
record-in (b ∷ bs) h = refl

pub next-gap : {file : List ℕ} {at start end : ℕ} → at < length file → NextIs file at start end → Gap file at start end
unfolding record_in
next-gap {file} {at} l (found {start = start} a b none here) =
    let r : List ℕ = drop start file in
    let w : record_length r ≤ length r = keeps-whole r here in
    let n : start + record_length r - start ≡ record_length r = omega arith in
    let is : record_in (part file start (start + record_length r - start)) ≡ Piece.kept (front_record r) ∷ [] =
    ap (λ k. record_in (part file start k)) n ∙ record-in (front_record r) (omega (arith, length-take-le (record_length r) r w)) in
    record {
      ahead = a;
      behind = omega arith;
      within = omega (arith, length-drop start file);
      onward = omega arith;
      last = λ e. absurd (let b : ⊥ = omega arith in b);
      are = pieces-gap file a (omega arith) none
          ∙ ap (λ ps. all_dropped (part file at (start - at)) ++ ps) (pieces_kept r here
          ∙ ap₂ (λ ps bs. ps ++ pieces bs) (sym is) (drop-drop (record_length r) start file));
    }
next-gap {file} {at} l (nothing none) =
    let n : length file - length file ≡ 0 = omega arith in
    record {
      ahead = omega arith;
      behind = omega arith;
      within = omega arith;
      onward = l;
      last = λ e. refl;
      are = pieces-gap file (omega arith) (omega arith) none
          ∙ ap (λ k. all_dropped (part file at (length file - at)) ++ (record_in (part file (length file) k) ++ pieces (drop (length file) file))) (sym n);
    }

-- ---- all of them

pub pieces_whole : (k : ℕ) (bs : List ℕ) → bytes_of (pieces_behind k bs) ≡ drop k bs
unfolding pieces_behind bytes_of
pieces_whole k [] = sym (drop-nil k)
pieces_whole (suc k) (b ∷ bs) = pieces_whole k bs
pieces_whole zero (b ∷ bs) = go (keeps (b ∷ bs)) refl (λ k. pieces_whole k bs)
  where
    n : record_length (b ∷ bs) ≡ suc (record_length (b ∷ bs) - 1)
    n = omega arith

    go : (t : Bool) → keeps (b ∷ bs) ≡ t → ((k : ℕ) → bytes_of (pieces_behind k bs) ≡ drop k bs) → bytes_of (pieces_behind 0 (b ∷ bs)) ≡ b ∷ bs
    go true e more =
        rw e (ap (λ l. front_record (b ∷ bs) ++ l) (more (record_length (b ∷ bs) - 1) ∙ ap (λ k. drop k (b ∷ bs)) (sym n))
        ∙ take-append-drop (record_length (b ∷ bs)) (b ∷ bs))
    go false e more = rw e (ap (λ l. b ∷ l) (more 0))
