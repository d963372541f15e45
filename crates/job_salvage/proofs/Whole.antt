-- What salvage keeps and drops of a whole file.
--   gap-records     dropped bytes hold no record;  gap-stretches  they make the stretch longer
--   next-records, next-stretches   the records and the stretches from a place on, by what `next_kept` says
--   total-dropped   the stretches have as many bytes as are dropped
--   lengths-add     THE LENGTHS OF WHAT IS KEPT AND WHAT IS DROPPED ADD UP to the length of the file
--   few-records     there are no more acceptable records than bytes
--   all-kept        each record that is kept is acceptable
--   kept_back       A FILE OF ACCEPTABLE RECORDS COMES BACK: its records are kept, each as it was
--   nothing-dropped and nothing of it is dropped
-- Assumes nothing.
use mathlib.Core.Path.{◌≡◌, refl, sym, ap, ap₂, ◌∙◌}
use mathlib.Core.Bool.{Bool, true, false}
use mathlib.Core.List.{List, [], ◌∷◌, ◌++◌}
use Prim.Native.Nat.{ℕ, zero, suc, ◌+◌, ◌*◌, ◌-◌, ◌≤◌, ◌<◌}
use native.Mathlib.Nat.{add-zero}
use native.Mathlib.Omega.{arith}
use lib.ListN.{length, drop, length-append, length-drop, get_or-append}
use lib.Seq.{length-take-le, drop_at, take_at}
use Rattle.job_records.specs.Layout.{record_length, part}
use Rattle.job_records.specs.Files.{joined_file}
use Rattle.job_salvage.specs.Pieces.{keeps, Piece, pieces_behind, pieces, records_of, dropped_of, bytes_of}
use Rattle.job_salvage.specs.Pieces.{stretch, stretches_from, kept_records, kept_file, stretches, total, Acceptable, AllAcceptable}
use Rattle.job_salvage.specs.Pieces.AllAcceptable.{none, one}
use Rattle.job_salvage.proofs.Keeping.{front-acceptable, keeps-front}
use Rattle.job_salvage.proofs.Pieces.{pieces_kept, pieces-over, all_dropped, record_in, Gap, pieces_whole}

-- ---- from a place on

gap-records : (bs : List ℕ) (ps : List Piece) → records_of (all_dropped bs ++ ps) ≡ records_of ps
unfolding records_of all_dropped
gap-records [] ps = refl
gap-records (b ∷ bs) ps = gap-records bs ps

gap-stretches : (start n : ℕ) (bs : List ℕ) (ps : List Piece) → stretches_from start n (all_dropped bs ++ ps) ≡ stretches_from start (n + length bs) ps
unfolding stretches_from all_dropped
gap-stretches start n [] ps = ap (λ k. stretches_from start k ps) (sym (add-zero n))
gap-stretches start n (b ∷ bs) ps =
    let e : suc n + length bs ≡ n + suc (length bs) = omega arith in
    gap-stretches start (suc n) bs ps ∙ ap (λ k. stretches_from start k ps) e

-- these bytes as a record, where there are any
unfoldable pub listed : List ℕ → List (List ℕ)
listed [] = []
listed (b ∷ bs) = (b ∷ bs) ∷ []

listed-records : (r : List ℕ) (ps : List Piece) → records_of (record_in r ++ ps) ≡ listed r ++ records_of ps
unfolding records_of record_in listed
listed-records [] ps = refl
listed-records (b ∷ bs) ps = refl

pub next-records : {file : List ℕ} {at start end : ℕ} → Gap file at start end
    → kept_records (drop at file) ≡ listed (part file start (end - start)) ++ kept_records (drop end file)
next-records {file} {at} {start} {end} g = ap records_of g.are ∙ gap-records (part file at (start - at)) _ ∙ listed-records (part file start (end - start)) _

-- a record ends the stretch before it
listed-stretches : (start n : ℕ) (r : List ℕ) (ps : List Piece) → 0 < length r
    → stretches_from start n (record_in r ++ ps) ≡ stretch start n (stretches_from (start + n + length r) 0 ps)
unfolding stretches_from record_in
listed-stretches start n [] ps h = absurd (omega arith)
listed-stretches start n (b ∷ bs) ps h = refl

-- and so does the end of the file
over-stretches : (file : List ℕ) (start n end : ℕ) → end ≡ length file
    → stretches_from start n (pieces (drop end file)) ≡ stretch start n (stretches_from end 0 (pieces (drop end file)))
unfolding stretches_from stretch
over-stretches file start n end e =
    let none : pieces (drop end file) ≡ [] = pieces-over file {at = end} (omega arith) in
    rw none

pub next-stretches : {file : List ℕ} {at start end : ℕ} → Gap file at start end
    → stretches_from at 0 (pieces (drop at file)) ≡ stretch at (start - at) (stretches_from end 0 (pieces (drop end file)))
unfolding record_in
next-stretches {file} {at} {start} {end} g =
    ap (stretches_from at 0) g.are ∙ gap-stretches at 0 (part file at (start - at)) _
    ∙ ap (λ n. stretches_from at n (record_in (part file start (end - start)) ++ pieces (drop end file))) gap_length ∙ go (end - start) refl
  where
    gap_length : 0 + length (part file at (start - at)) ≡ start - at
    gap_length = omega (arith, length-drop at file, length-take-le (start - at) (drop at file) (omega (arith, length-drop at file, g.ahead, g.behind, g.within)))

    go : (d : ℕ) → end - start ≡ d → stretches_from at (start - at) (record_in (part file start (end - start)) ++ pieces (drop end file))
        ≡ stretch at (start - at) (stretches_from end 0 (pieces (drop end file)))
    go zero e = rw e (over-stretches file at (start - at) end (g.last (omega (arith, g.behind))))
    go (suc d) e =
        let l : length (part file start (end - start)) ≡ end - start =
        length-take-le (end - start) (drop start file) (omega (arith, length-drop start file, g.behind, g.within)) in
        let n : at + (start - at) + length (part file start (end - start)) ≡ end = omega (arith, g.ahead, g.behind) in
        listed-stretches at (start - at) (part file start (end - start)) _ (omega arith)
        ∙ ap (λ i. stretch at (start - at) (stretches_from i 0 (pieces (drop end file)))) n

-- ---- lengths

stretch-total : (start n : ℕ) (more : List (ℕ × ℕ)) → total (stretch start n more) ≡ n + total more
unfolding total stretch
stretch-total start zero more = omega arith
stretch-total start (suc n) more = refl

total-dropped : (start n : ℕ) (ps : List Piece) → total (stretches_from start n ps) ≡ n + dropped_of ps
unfolding stretches_from dropped_of total
total-dropped start n [] = stretch-total start n []
total-dropped start n (Piece.dropped b ∷ ps) = omega (arith, total-dropped start (suc n) ps)
total-dropped start n (Piece.kept r ∷ ps) = omega (arith, stretch-total start n (stretches_from (start + n + length r) 0 ps), total-dropped (start + n + length r) 0 ps)

-- what is kept and what is dropped are all bytes
parted : (ps : List Piece) → length (bytes_of ps) ≡ length (joined_file (records_of ps)) + dropped_of ps
unfolding bytes_of records_of dropped_of joined_file
parted [] = refl
parted (Piece.dropped b ∷ ps) = omega (arith, parted ps)
parted (Piece.kept r ∷ ps) = omega (arith, parted ps, length-append r (bytes_of ps), length-append r (joined_file (records_of ps)))

pub lengths-add : (file : List ℕ) → length (kept_file file) + total (stretches file) ≡ length file
lengths-add file = omega (arith, total-dropped 0 0 (pieces file), parted (pieces file), ap length (pieces_whole 0 file))

-- ---- acceptable records

kept_from : (k : ℕ) (bs : List ℕ) → AllAcceptable (records_of (pieces_behind k bs))
unfolding pieces_behind records_of
kept_from k [] = none
kept_from (suc k) (b ∷ bs) = kept_from k bs
kept_from zero (b ∷ bs) = go (keeps (b ∷ bs)) refl (λ k. kept_from k bs)
  where
    go : (t : Bool) → keeps (b ∷ bs) ≡ t → ((k : ℕ) → AllAcceptable (records_of (pieces_behind k bs))) → AllAcceptable (records_of (pieces_behind 0 (b ∷ bs)))
    go true e more = rw e (one (front-acceptable (b ∷ bs) e) (more (record_length (b ∷ bs) - 1)))
    go false e more = rw e (more 0)

pub all-kept : (file : List ℕ) → AllAcceptable (kept_records file)
all-kept file = kept_from 0 file

-- an acceptable record, and what is behind it
first-kept : {r : List ℕ} → Acceptable r → (more : List ℕ) → pieces (r ++ more) ≡ Piece.kept r ∷ pieces more
first-kept {r} a more =
    let w : length r ≡ record_length r = a.complete.whole in
    let n : record_length (r ++ more) ≡ length r = ap (λ b. 5 + 2 * b) (get_or-append r more 0 4 (omega arith)) ∙ sym w in
    pieces_kept (r ++ more) (keeps-front a more)
    ∙ ap₂ (λ x y. Piece.kept x ∷ pieces y) (take_at r more (record_length (r ++ more)) (sym n)) (drop_at r more (record_length (r ++ more)) (sym n))

-- records, each kept
unfoldable pub all_kept : List (List ℕ) → List Piece
all_kept [] = []
all_kept (r ∷ rs) = Piece.kept r ∷ all_kept rs

pieces-back : {rs : List (List ℕ)} → AllAcceptable rs → pieces (joined_file rs) ≡ all_kept rs
unfolding pieces_behind joined_file all_kept
pieces-back none = refl
pieces-back (one {r = r} {rs = rs} a more) = first-kept a (joined_file rs) ∙ ap (λ ps. Piece.kept r ∷ ps) (pieces-back more)

records-all : (rs : List (List ℕ)) → records_of (all_kept rs) ≡ rs
unfolding records_of all_kept
records-all [] = refl
records-all (r ∷ rs) = ap (λ l. r ∷ l) (records-all rs)

stretches-all : (start : ℕ) (rs : List (List ℕ)) → stretches_from start 0 (all_kept rs) ≡ []
unfolding stretches_from stretch all_kept
stretches-all start [] = refl
stretches-all start (r ∷ rs) = stretches-all (start + 0 + length r) rs

pub kept_back : {rs : List (List ℕ)} → AllAcceptable rs → kept_records (joined_file rs) ≡ rs
kept_back {rs} a = ap records_of (pieces-back a) ∙ records-all rs

pub nothing-dropped : {rs : List (List ℕ)} → AllAcceptable rs → stretches (joined_file rs) ≡ []
nothing-dropped {rs} a = ap (stretches_from 0 0) (pieces-back a) ∙ stretches-all 0 rs

-- a record has bytes
pub few-records : {rs : List (List ℕ)} → AllAcceptable rs → length rs ≤ length (joined_file rs)
unfolding joined_file
few-records none = omega arith
few-records (one {r = r} {rs = rs} a more) =
    let w : length r ≡ record_length r = a.complete.whole in
    omega (arith, few-records more, length-append r (joined_file rs))
