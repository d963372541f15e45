-- A file is read to its end.
--   reads          from every place on reading ends
--   reads-once     in one way
--   HaltsFrom      how reading ends from a place on is how it ends from the start
--   halts-from, halts-on   so at the start, and behind a record
--   front-judged   what a complete record gives does not depend on what is behind it
--   record-read    a complete record in a file is read at its place
--   reads-through  complete records are read one after the other, each at its place, and then what is behind them
--   reads-joined   a file made of complete records is read to its end: nothing is skipped and nothing is read twice
-- Assumes nothing.
use mathlib.Core.Path.{◌≡◌, refl, sym, ap, ◌∙◌, subst}
use mathlib.Core.List.{List, [], ◌∷◌, ◌++◌, append-nil, append_assoc}
use mathlib.Core.Logic.{◌⊎◌, inl, inr}
use Prim.Native.Nat.{ℕ, zero, suc, ◌+◌, ◌≤◌, ◌<◌, ◌-◌}
use native.Mathlib.Nat.{add-zero, add_assoc}
use native.Mathlib.Omega.{arith}
use borrow.Author.Tests.{le-ltb}
use lib.ListN.{length, get_or, take, drop, length-append, length-drop, drop_of_length-le, get_or-append}
use lib.Seq.{drop-append_seam, drop-append-le, take-append-le}
use Rattle.refusals.specs.Order.{Given, Passed}
use Rattle.refusals.specs.Order.Passed.{none as all-passed}
use Rattle.refusals.proofs.Order.{passes, cases, given-decides, passed-decides}
use Rattle.job_records.specs.Layout.{head_length, body_length, record_length, part}
use Rattle.job_records.specs.Reading.{Outcome, start_tests, record_tests, judged, read_here, read_at}
use Rattle.job_records.specs.Files.{Reads, Halts, Complete, joined_file, outcomes_of, AllComplete}
use Rattle.job_records.specs.Files.Reads.{over, stop, on}
use Rattle.job_records.specs.Files.Halts.{on as on-halts}
use Rattle.std.specs.Prelude.{⊤, Result}
use Rattle.job_records.specs.declared.Stop.{Stop}
use Rattle.job_records.specs.Files.AllComplete.{none, one}
use Rattle.job_records.proofs.Starting.{goes_on}
use Rattle.job_records.proofs.Forward.{never, onward}

-- ---- reading ends

-- what is left to read behind a place, from what is left behind those ahead of it
step : (file : List ℕ) (at : ℕ) → ((next : ℕ) → at + head_length ≤ next → next ≤ length file → (os : List Outcome) × Reads file next os)
    → (os : List Outcome) × Reads file at os
step file at later = go (read_at file at) refl
  where
    go : (o : Outcome) → read_at file at ≡ o → (os : List Outcome) × Reads file at os
    go Outcome.ends e = ([], over e)
    go (Outcome.gives k []) e = (_, stop e)
    go (Outcome.gives k (next ∷ vs)) e =
        let w = onward file at e in
        let r = later next w.ahead w.within in
        (_, on e r.1)

-- with as many turns as there are bytes left
within : (file : List ℕ) (n at : ℕ) → length file - at ≤ n → (os : List Outcome) × Reads file at os
within file zero at h = step file at (λ next a w. absurd (let b : ⊥ = omega arith in b))
within file (suc n) at h = step file at (λ next a w. within file n next (omega arith))

pub reads : (file : List ℕ) (at : ℕ) → (os : List Outcome) × Reads file at os
reads file at = within file (length file - at) at (omega arith)

-- ---- in one way

pub reads-once : {file : List ℕ} {at : ℕ} {os ps : List Outcome} → Reads file at os → Reads file at ps → os ≡ ps
reads-once (over e) (over f) = refl
reads-once (over e) (stop f) = never (cc)
reads-once (over e) (on f r) = never (cc)
reads-once (stop e) (over f) = never (cc)
reads-once (stop e) (stop f) = cc
reads-once (stop e) (on f r) = never (cc)
reads-once (on e q) (over f) = never (cc)
reads-once (on e q) (stop f) = never (cc)
reads-once {file} (on {next = n} {os = os} e q) (on {next = m} {os = ps} f r) =
    let same : m ≡ n = cc in
    let rest : os ≡ ps = reads-once q (subst (λ i. Reads file i ps) same r) in
    cc

-- ---- how it ends

-- the record of number k stands at the place, and there are no more records than bytes
pub record HaltsFrom (file : List ℕ) (at k : ℕ) : Type 0 where
  pub all : {r : Result ⊤ Stop} → Halts file at k r → Halts file 0 1 r
  pub within : at ≤ length file
  pub few : k ≤ at + 1

pub halts-from : (file : List ℕ) → HaltsFrom file 0 1
halts-from file = record { all = λ h. h; within = omega arith; few = omega arith }

pub halts-on : {file : List ℕ} {at k number next : ℕ} {values : List ℕ}
    → read_at file at ≡ Outcome.gives number (next ∷ values) → HaltsFrom file at k → HaltsFrom file next (k + 1)
halts-on {file} {at} e h =
    let w = onward file at e in
    record {
      all = λ r. h.all (on-halts e r);
      within = w.within;
      few = omega (arith, h.few, w.ahead);
    }

-- ---- complete records

module _ {r : List ℕ} (c : Complete r) (more : List ℕ) where
  -- its head is its own
  own : (i : ℕ) → i < head_length → get_or (r ++ more) i 0 ≡ get_or r i 0
  own i h = get_or-append r more 0 i (omega (arith, c.whole))

  -- and so are its coefficients
  own-part : part (r ++ more) head_length (body_length r) ≡ part r head_length (body_length r)
  own-part =
      ap (take (body_length r)) (drop-append-le head_length r more (omega (arith, c.whole)))
      ∙ take-append-le (body_length r) (drop head_length r) more (omega (arith, c.whole, length-drop head_length r))

  front-judged : (at : ℕ) → judged at (r ++ more) ≡ judged at r
  unfolding judged
  front-judged at = simp (own 2 (omega arith), own 3 (omega arith), own 4 (omega arith), own-part)

  front-starts : Passed (start_tests (r ++ more))
  front-starts =
      let w = c.whole in
      let l = length-append r more in
      let n = own 4 (omega arith) in
      passes (le-ltb (length (r ++ more)) 2 (omega arith))
      (passes (simp (own 0 (omega arith), own 1 (omega arith), c.mark))
      (passes (le-ltb (length (r ++ more)) (record_length (r ++ more)) (omega arith)) all-passed))

  pub record-read : (pre : List ℕ) → read_at (pre ++ (r ++ more)) (length pre) ≡ judged (length pre) r
  record-read pre =
      ap (read_here (length pre)) (drop-append_seam pre (r ++ more))
      ∙ goes_on (length pre) (r ++ more) (omega (arith, c.whole, length-append r more)) front-starts
      ∙ front-judged (length pre)

-- a complete record gives a number with the place behind it
goes-behind : (at : ℕ) (r : List ℕ) → (k : ℕ) × (vs : List ℕ) × (judged at r ≡ Outcome.gives k ((at + record_length r) ∷ vs))
unfolding judged
goes-behind at r = go (cases (record_tests r))
  where
    go : ((k : ℕ) × Given k (record_tests r)) ⊎ Passed (record_tests r) → (k : ℕ) × (vs : List ℕ) × (judged at r ≡ Outcome.gives k ((at + record_length r) ∷ vs))
    go (inl g) = (g.0, [], given-decides _ _ g.1)
    go (inr p) = (0, _, passed-decides _ _ p)

-- a complete record is read, and what is behind it
on-behind : {file r : List ℕ} {at : ℕ} {os : List Outcome} → Complete r → read_at file at ≡ judged at r → Reads file (at + length r) os
    → Reads file at (judged at r ∷ os)
on-behind {file} {r} {at} {os} c e h =
    let g = goes-behind at r in
    let n : at + length r ≡ at + record_length r = ap (λ n. at + n) c.whole in
    subst (λ o. Reads file at (o ∷ os)) (sym g.2) (on (e ∙ g.2) (subst (λ i. Reads file i os) n h))

-- a file in which the records of rs stand behind pre, and tail behind them
reads-through : {file : List ℕ} {at : ℕ} (pre : List ℕ) {rs : List (List ℕ)} (tail : List ℕ) {os : List Outcome} → AllComplete rs
    → file ≡ pre ++ (joined_file rs ++ tail) → at ≡ length pre → Reads file (at + length (joined_file rs)) os → Reads file at (outcomes_of at rs ++ os)
unfolding joined_file outcomes_of
reads-through pre tail none f a h = rw add-zero at h
reads-through {file} {at} pre tail {os} (one {r = r} {rs = rs} c cs) f a h =
    let e : read_at file at ≡ judged at r = rw (f, a, append_assoc) (record-read c (joined_file rs ++ tail) pre) in
    let g : file ≡ (pre ++ r) ++ (joined_file rs ++ tail) = f ∙ simp append_assoc in
    let b : at + length r ≡ length (pre ++ r) = rw (length-append, a) in
    let k : at + length (r ++ joined_file rs) ≡ at + length r + length (joined_file rs) = rw (length-append, add_assoc) in
    on-behind c e (reads-through {at = at + length r} (pre ++ r) tail cs g b (subst (λ i. Reads file i os) k h))

pub reads-joined : {rs : List (List ℕ)} → AllComplete rs → Reads (joined_file rs) 0 (outcomes_of 0 rs)
unfolding read_here
reads-joined {rs} c =
    let past : drop (0 + length (joined_file rs)) (joined_file rs) ≡ [] = drop_of_length-le (joined_file rs) {i = 0 + length (joined_file rs)} (omega arith) in
    rw append-nil at (reads-through [] [] c (sym (append-nil (joined_file rs))) refl (over (ap (read_here (0 + length (joined_file rs))) past)))
