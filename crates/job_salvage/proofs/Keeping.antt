-- Where a record is kept.
--   passed-keeps, keeps-passed   a record is kept exactly where no test of the reader holds: its mark is there, it is
--                                complete, and the whole call would not refuse its field, coefficients or cutoff
--   keeps-exactly                both
--   keeps-told                   what the reader gives there
--   keeps-anywhere               the place in the file does not matter
--   keeps-whole                  what is kept is all there
--   front-acceptable             what is kept is one acceptable record
--   keeps-front                  an acceptable record is kept whatever stands behind it
-- Assumes nothing.
use mathlib.Core.Path.{◌≡◌, refl, sym, ap, ap₂, ◌∙◌}
use mathlib.Core.Bool.{Bool, true, false, not, ◌&&◌, true≢false}
use mathlib.Core.List.{List, [], ◌∷◌, ◌++◌, append-nil}
use mathlib.Core.Logic.{◌↔◌}
use Prim.Native.Nat.{ℕ, ◌+◌, ◌*◌, ◌≤◌, ◌<◌}
use native.Mathlib.Omega.{arith}
use borrow.Author.Tests.{eqb-true}
use lib.Dec.{eqb}
use lib.ListN.{length, get_or, drop, take-append-drop}
use lib.Seq.{get_or-take, length-take-le}
use Rattle.refusals.specs.Order.{Given, Passed}
use Rattle.refusals.proofs.Order.{failed, others, passed-decides}
use Rattle.job_records.specs.Layout.{head_length, mark_low, mark_high, marked, degree_byte, cutoff_byte, body_length, record_length}
use Rattle.job_records.specs.Cutoffs.{stated_cutoff}
use Rattle.job_records.specs.Reading.{Outcome, start_tests, record_tests, judged, read_here}
use Rattle.job_records.specs.Files.{Complete}
use Rattle.job_records.proofs.Starting.{goes_on}
use Rattle.job_records.proofs.Forward.{Here, here-is, whole-record, among}
use Rattle.job_records.proofs.Forward.Here.{over, stop, refuse, accept}
use Rattle.job_records.proofs.Forward.Numbers.{none, one}
use Rattle.job_records.proofs.Whole.{record-read}
use Rattle.job_salvage.specs.Pieces.{accepts, keeps, front_record, Acceptable}

-- ---- by the reader's tests

-- a number that is given is not 0
given-start : {k : ℕ} (r : List ℕ) → Given k (start_tests r) → 0 < k
given-start r g = among (λ n. 0 < n) g (one (omega arith) (one (omega arith) (one (omega arith) none)))

given-record : {k : ℕ} (r : List ℕ) → Given k (record_tests r) → 0 < k
given-record r g =
    among (λ n. 0 < n) g
    (one (omega arith) (one (omega arith) (one (omega arith) (one (omega arith) (one (omega arith) (one (omega arith) none))))))

module _ (at : ℕ) (r : List ℕ) where
  keeps-passed : accepts (read_here at r) ≡ true → Passed (start_tests r) × Passed (record_tests r)
  keeps-passed e = go (here-is at r) e
    where
      go : {o : Outcome} → Here at r o → accepts o ≡ true → Passed (start_tests r) × Passed (record_tests r)
      go (over z) f = absurd (true≢false (sym f))
      go (stop {k = k} l g) f = absurd (let b : ⊥ = omega (arith, eqb-true k 0 f, given-start r g) in b)
      go (refuse {k = k} p g) f = absurd (let b : ⊥ = omega (arith, eqb-true k 0 f, given-record r g) in b)
      go (accept p q) f = (p, q)

  passed-keeps : Passed (start_tests r) → Passed (record_tests r) → accepts (read_here at r) ≡ true
  unfolding judged
  passed-keeps p q = ap accepts (goes_on at r (omega (arith, whole-record r p)) p ∙ passed-decides _ _ q)

pub keeps-exactly : (r : List ℕ) → (keeps r ≡ true) ↔ (Passed (start_tests r) × Passed (record_tests r))
keeps-exactly r = (keeps-passed 0 r, λ p. passed-keeps 0 r p.0 p.1)

pub keeps-told : (at : ℕ) (r : List ℕ) → keeps r ≡ true
    → read_here at r ≡ Outcome.gives 0 ((at + record_length r) ∷ degree_byte r ∷ (at + head_length) ∷ body_length r ∷ stated_cutoff (cutoff_byte r))
unfolding judged
keeps-told at r e =
    let p = keeps-passed 0 r e in
    goes_on at r (omega (arith, whole-record r p.0)) p.0 ∙ passed-decides _ _ p.1

-- a test that two share is one
shared : (a b : Bool) → (a ≡ true → b ≡ true) → (b ≡ true → a ≡ true) → a ≡ b
shared true b f g = sym (f refl)
shared false true f g = g refl
shared false false f g = refl

pub keeps-anywhere : (at : ℕ) (r : List ℕ) → accepts (read_here at r) ≡ keeps r
keeps-anywhere at r = shared _ _ (λ e. let p = keeps-passed at r e in passed-keeps 0 r p.0 p.1) (λ e. let p = keeps-passed 0 r e in passed-keeps at r p.0 p.1)

-- ---- what is kept

pub keeps-whole : (r : List ℕ) → keeps r ≡ true → record_length r ≤ length r
keeps-whole r e = whole-record r (keeps-passed 0 r e).0

twice-not : (b : Bool) → not b ≡ false → b ≡ true
twice-not true e = refl
twice-not false e = absurd (true≢false e)

-- what a complete record gives does not depend on what is behind it
complete-keeps : {r : List ℕ} → Complete r → (more : List ℕ) → keeps (r ++ more) ≡ keeps r
complete-keeps {r} c more = ap accepts (record-read c more []) ∙ sym (ap accepts (record-read c [] [])) ∙ ap keeps (append-nil r)

front-complete : (r : List ℕ) → keeps r ≡ true → Complete (front_record r)
front-complete r e =
    let w : record_length r ≤ length r = keeps-whole r e in
    let byte : (i : ℕ) → i < 5 → get_or (front_record r) i 0 ≡ get_or r i 0 = λ i h. get_or-take (record_length r) r i 0 (omega arith) in
    record {
      mark = ap₂ (λ a b. eqb a mark_low && eqb b mark_high) (byte 0 (omega arith)) (byte 1 (omega arith))
          ∙ twice-not (marked r) (failed (others (keeps-passed 0 r e).0));
      whole = length-take-le (record_length r) r w ∙ ap (λ n. 5 + 2 * n) (sym (byte 4 (omega arith)));
    }

pub front-acceptable : (r : List ℕ) → keeps r ≡ true → Acceptable (front_record r)
front-acceptable r e =
    let c : Complete (front_record r) = front-complete r e in
    record {
      complete = c;
      accepted = sym (complete-keeps c (drop (record_length r) r)) ∙ ap keeps (take-append-drop (record_length r) r) ∙ e;
    }

pub keeps-front : {r : List ℕ} → Acceptable r → (more : List ℕ) → keeps (r ++ more) ≡ true
keeps-front a more = complete-keeps a.complete more ∙ a.accepted
