-- The loops of salvage: what holds at each turn.
--   Seeking    `next_kept`: none is kept from `at` on before the place;  seek-from, seek-on, seek_found, seek-end
--   Keeping    `salvage`: the records before the place are in the room;  keep-from, keep_one, keep-none, keep-end
--   told-room, told-kept   the two answers of `salvage`
-- Assumes nothing.
use mathlib.Core.Path.{◌≡◌, refl, sym, ap, ap₂, subst, ◌∙◌}
use mathlib.Core.Bool.{Bool, true, false}
use mathlib.Core.List.{List, [], ◌∷◌, ◌++◌, append-nil, append_assoc}
use mathlib.Core.Logic.{◌⊎◌, inl, inr}
use Prim.Native.Nat.{ℕ, ◌+◌, ◌-◌, ◌≤◌, ◌<◌}
use native.Mathlib.Nat.{eq-or-lt_of_le}
use native.Mathlib.Omega.{arith}
use borrow.Author.Tests.{lt-ltb, le-ltb, eqb-true, eqb-false}
use lib.Dec.{eqb}
use lib.ListN.{length, drop, length-append, length-drop}
use lib.Seq.{length-take-le}
use Rattle.refusals.proofs.Order.{refused, accepted, unwritten, written, holds, passes}
use Rattle.refusals.specs.Order.Passed.{none}
use Rattle.slices.specs.Lists.{copied}
use Rattle.slices.proofs.Lists.{pasted-copied}
use Rattle.job_records.specs.Layout.{part}
use Rattle.job_records.specs.Reading.{told_read, read_at}
use Rattle.job_records.specs.Files.{joined_file}
use Rattle.job_records.specs.declared.Read.{Read}
use Rattle.job_records.specs.declared.Read.TheVariants.{End, Record, Refused, Stopped}
use Rattle.job_records.specs.declared.Job.{Job}
use Rattle.job_records.proofs.Forward.{never, onward}
use Rattle.job_text.specs.Lines.{Wrote}
use Rattle.job_text.proofs.Writing.{wrote_nothing, wrote_then, wrote-long}
use Rattle.job_salvage.specs.Pieces.{accepts, records_of, kept_records, kept_file}
use Rattle.job_salvage.specs.Calls.{keeps_at, NoneKept, NextIs, Salvages}
use Rattle.job_salvage.specs.Calls.NextIs.{found, nothing}
use Rattle.std.specs.Prelude.{Ok, Err}
use Rattle.refusals.specs.declared.Refusal.TheVariants.{Room}
use Rattle.job_salvage.proofs.Keeping.{keeps-anywhere, keeps-told}
use Rattle.job_salvage.proofs.Pieces.{pieces-over, Gap}
use Rattle.job_salvage.proofs.Whole.{listed, next-records}

-- ---- `next_kept`

-- none is kept from `at` on before the place
pub record Seeking (file : List ℕ) (at place : ℕ) : Type 0 where
  pub ahead : at ≤ place
  pub missed : NoneKept file at place

pub seek-from : (file : List ℕ) (at : ℕ) → Seeking file at at
seek-from file at = record { ahead = omega arith; missed = λ i a b. absurd (let f : ⊥ = omega arith in f) }

-- what is read at a place is no record
none_here : (file : List ℕ) (at : ℕ) (r : Read) → told_read r ≡ read_at file at → ((j : Job) → r ≡ Record j → ⊥) → keeps_at file at ≡ false
none_here file at r e other = go (keeps_at file at) refl r e other
  where
    go : (b : Bool) → keeps_at file at ≡ b → (r : Read) → told_read r ≡ read_at file at → ((j : Job) → r ≡ Record j → ⊥) → b ≡ false
    go false k r e other = refl
    go true k (Record j) e other = absurd (other j refl)
    go true k End e other = let t = keeps-told at (drop at file) k in never (cc)
    go true k (Refused m next) e other = let t = keeps-told at (drop at file) k in never (cc)
    go true k (Stopped m) e other = let t = keeps-told at (drop at file) k in never (cc)

pub seek-on : {file : List ℕ} {at place : ℕ} (r : Read) → Seeking file at place → told_read r ≡ read_at file place → ((j : Job) → r ≡ Record j → ⊥)
    → Seeking file at (place + 1)
seek-on {file} {at} {place} r s e other =
    record { ahead = omega (arith, s.ahead); missed = λ i a b. go i a (eq-or-lt_of_le {n = i} {m = place} (omega arith)) }
  where
    go : (i : ℕ) → at ≤ i → (i ≡ place) ⊎ (i < place) → keeps_at file i ≡ false
    go i a (inl b) = ap (keeps_at file) b ∙ none_here file place r e other
    go i a (inr b) = s.missed i a b

pub seek_found : {file : List ℕ} {at place : ℕ} (r : Read) (j : Job) → Seeking file at place → place < length file → told_read r ≡ read_at file place → r ≡ Record j
    → NextIs file at place j.next
seek_found {file} {at} {place} r j s h e is =
    let t : told_read (Record j) ≡ read_at file place = ap told_read (sym is) ∙ e in
    subst (NextIs file at place) (sym (onward file place (sym t)).behind)
    (found s.ahead h s.missed (sym (keeps-anywhere place (drop place file)) ∙ ap accepts (sym t)))

pub seek-end : {file : List ℕ} {at place : ℕ} → Seeking file at place → length file ≤ place → NextIs file at (length file) (length file)
seek-end s h = nothing (λ i a b. s.missed i a (omega arith))

-- ---- `salvage`

-- the records before the place are in the room, one after the other
pub record Keeping (file old new : List ℕ) (at records bytes : ℕ) : Type 0 where
  pub front : List (List ℕ)
  pub within : at ≤ length file
  pub room : length file ≤ length old
  pub long : length new ≡ length old
  pub few : records ≤ at
  pub short : bytes ≤ at
  pub count : records ≡ length front
  pub written : Wrote (joined_file front) 0 old bytes new
  pub all : kept_records file ≡ front ++ kept_records (drop at file)

pub keep-from : (file room : List ℕ) → length file ≤ length room → Keeping file room room 0 0 0
unfolding joined_file
keep-from file room h = record {
  front = [];
  within = omega arith;
  room = h;
  long = refl;
  few = omega arith;
  short = omega arith;
  count = refl;
  written = wrote_nothing;
  all = refl;
}

-- records, and one more where there are bytes
joined-listed : (rs : List (List ℕ)) (p : List ℕ) → joined_file (rs ++ listed p) ≡ joined_file rs ++ p
unfolding joined_file listed
joined-listed [] [] = refl
joined-listed [] (b ∷ bs) = append-nil (b ∷ bs)
joined-listed (r ∷ rs) p = ap (λ l. r ++ l) (joined-listed rs p) ∙ sym (append_assoc r (joined_file rs) p)

listed-some : (p : List ℕ) → 0 < length p → length (listed p) ≡ 1
unfolding listed
listed-some [] h = absurd (omega arith)
listed-some (b ∷ bs) h = refl

listed-none : (p : List ℕ) → length p ≡ 0 → length (listed p) ≡ 0
unfolding listed
listed-none [] e = refl
listed-none (b ∷ bs) e = absurd (omega arith)

module _ {file old new : List ℕ} {at records bytes start end : ℕ} (k : Keeping file old new at records bytes) (g : Gap file at start end) where
  -- the bytes of the record
  abbrev these : List ℕ
  these = part file start (end - start)

  these-long : length these ≡ end - start
  these-long = length-take-le (end - start) (drop start file) (omega (arith, length-drop start file, g.behind, g.within))

  pub keep-fits : bytes + length these ≤ length new
  keep-fits = omega (arith, these-long, g.ahead, g.behind, g.within, k.short, k.room, k.long)

  keep-next : {records' bytes' : ℕ} {new' : List ℕ} → records' ≡ records + length (listed these) → records' ≤ end
      → Wrote these bytes new bytes' new' → Keeping file old new' end records' bytes'
  keep-next {records'} {bytes'} {new'} n f w = record {
    front = k.front ++ listed these;
    within = g.within;
    room = k.room;
    long = wrote-long keep-fits w ∙ k.long;
    few = f;
    short = omega (arith, w.ended, these-long, g.ahead, g.behind, k.short);
    count = n ∙ ap (λ i. i + length (listed these)) k.count ∙ sym (length-append k.front (listed these));
    written = subst (λ l. Wrote l 0 old bytes' new') (sym (joined-listed k.front these)) (wrote_then (omega arith) k.written w);
    all = k.all ∙ ap (λ l. k.front ++ l) (next-records g) ∙ sym (append_assoc k.front (listed these) (kept_records (drop end file)));
  }

  pub keep_one : {bytes' : ℕ} {new' : List ℕ} → eqb (length these) 0 ≡ false → Wrote these bytes new bytes' new' → Keeping file old new' end (records + 1) bytes'
  keep_one h w =
      let some : 0 < length these = omega (arith, eqb-false (length these) 0 h) in
      keep-next (omega (arith, listed-some these some)) (omega (arith, k.few, g.onward, g.ahead, these-long)) w

  pub keep-none : {bytes' : ℕ} {new' : List ℕ} → eqb (length these) 0 ≡ true → Wrote these bytes new bytes' new' → Keeping file old new' end records bytes'
  keep-none h w = keep-next (omega (arith, listed-none these (eqb-true (length these) 0 h))) (omega (arith, k.few, g.onward)) w

-- what is told where the room is long enough
told-kept : (file old : List ℕ) {new : List ℕ} {records bytes : ℕ} → length file ≤ length old → records ≡ length (kept_records file) → bytes ≡ length (kept_file file)
    → new ≡ copied (kept_file file) old → Salvages file old (Ok (record { records = records; bytes = bytes })) new
told-kept file old h n b m =
    let p = passes (le-ltb (length old) (length file) h) none in
    (ap₂ (λ x y. (0, x ∷ y ∷ [])) b n ∙ sym (accepted _ p), m ∙ sym (written _ _ p))

pub keep-end : {file old new : List ℕ} {at records bytes : ℕ} → Keeping file old new at records bytes → length file ≤ at
    → Salvages file old (Ok (record { records = records; bytes = bytes })) new
unfolding records_of
keep-end {file} {old} {new} {at} {records} {bytes} k h =
    let all : kept_records file ≡ k.front = k.all ∙ ap (λ ps. k.front ++ records_of ps) (pieces-over file h) ∙ append-nil k.front in
    told-kept file old k.room (k.count ∙ ap length (sym all)) (k.written.ended ∙ omega (arith, ap (λ rs. length (joined_file rs)) all))
    (k.written.bytes ∙ pasted-copied (joined_file k.front) old ∙ ap (λ rs. copied (joined_file rs) old) (sym all))

-- and where it is not
pub told-room : (file old : List ℕ) → length old < length file → Salvages file old (Err Room) old
told-room file old h =
    let g = holds (lt-ltb (length old) (length file) h) in
    (sym (refused _ g), sym (unwritten _ _ g))
