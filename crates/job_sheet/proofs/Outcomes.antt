-- The entries of a file are the outcomes that reading it gives.
--   number-tests      the number of an outcome, by the tests in their order
--   number-anywhere   it does not depend on the place
--   entries-behind    what belongs to the record before is passed over
--   entries_over      no bytes, no entries
--   entries-stop      where 11 or 12 is given: that entry, and no more
--   entries-on        behind a complete record it goes on
--   where-on          what holds of no entries and of some holds whether reading goes on or not
--   entry-number      the entry at a place has the number that is given there
--   read-over, read-stops   the entries from a place on, where reading ends, or stops
--   Next, read-on     so where it goes on
--   numbers-read      from a place on, the entries have the numbers of the outcomes
--   numbers-of-file   so for a whole file
--   entries-count     there are as many entries as outcomes
-- Assumes nothing.
use Rattle.std.proofs.Common.{◌≡◌, ℕ, zero, suc, ◌+◌, ◌-◌, ◌<◌, ◌≤◌, Bool, true, false, cond, List, [], ◌∷◌, map, length, drop, sym, refl, ap, ◌∙◌, ap₂, arith, length-drop, drop-drop}
use lib.ListN.{length-map}
use Rattle.refusals.specs.Order.{decide, Given, Passed}
use Rattle.refusals.proofs.Order.{given-decides, passed-decides}
use Rattle.job_records.specs.Layout.{head_length, record_length}
use Rattle.job_records.specs.Reading.{Outcome, start_tests, record_tests, judged, read_here, read_at}
use Rattle.job_records.specs.Files.{Reads}
use Rattle.job_records.specs.Files.Reads.{over, stop, on}
use Rattle.job_records.proofs.Forward.{never, Here, here-is, Onward, onward}
use Rattle.job_records.proofs.Forward.Here.{over as over-here, stop as stop-here, refuse, accept}
use Rattle.job_records.proofs.Exactly.{ends-exactly, stops-exactly}
use Rattle.job_sheet.specs.Entries.{Entry, number_given, number_here, entry_here, entries_behind, entries}

-- ---- the number

-- what is made of a decision is decided
decided : {A B : Type 0} (f : A → B) (ts : List (ℕ × Bool)) (given : ℕ → A) (else : A)
    → f (decide ts given else) ≡ decide ts (λ k. f (given k)) (f else)
unfolding decide
decided f [] given else = refl
decided f (t ∷ ts) given else = go t.1 (decided f ts given else)
  where
    go : (b : Bool) → f (decide ts given else) ≡ decide ts (λ k. f (given k)) (f else)
        → f (cond b (given t.0) (decide ts given else))
        ≡ cond b (f (given t.0)) (decide ts (λ k. f (given k)) (f else))
    go true e = refl
    go false e = e

judged-number : (at : ℕ) (r : List ℕ) → number_given (judged at r) ≡ decide (record_tests r) (λ k. k) 0
unfolding judged
judged-number at r = decided number_given (record_tests r) _ _

pub number-tests : (at b : ℕ) (bs : List ℕ)
    → number_given (read_here at (b ∷ bs))
    ≡ decide (start_tests (b ∷ bs)) (λ k. k) (decide (record_tests (b ∷ bs)) (λ k. k) 0)
unfolding read_here
number-tests at b bs =
    decided number_given (start_tests (b ∷ bs)) _ _
    ∙ ap (decide (start_tests (b ∷ bs)) (λ k. k)) (judged-number at (b ∷ bs))

number-anywhere : (at : ℕ) (r : List ℕ) → number_here r ≡ number_given (read_here at r)
unfolding read_here
number-anywhere at [] = refl
number-anywhere at (b ∷ bs) = number-tests 0 b bs ∙ sym (number-tests at b bs)

-- ---- the entries of bytes

entries-behind : (k : ℕ) (bs : List ℕ) → entries_behind k bs ≡ entries (drop k bs)
unfolding entries_behind
entries-behind zero bs = refl
entries-behind (suc k) [] = refl
entries-behind (suc k) (b ∷ bs) = entries-behind k bs

entries_over : (r : List ℕ) → length r ≡ 0 → entries r ≡ []
unfolding entries_behind
entries_over [] e = refl
entries_over (b ∷ bs) e = absurd (let f : ⊥ = omega arith in f)

entries-stop : (r : List ℕ) {k : ℕ} → 0 < length r → Given k (start_tests r) → entries r ≡ entry_here r ∷ []
unfolding entries_behind
entries-stop [] h g = absurd (let f : ⊥ = omega arith in f)
entries-stop (b ∷ bs) h g = rw (given-decides (λ k. false) true g)

entries-on : (r : List ℕ) → 0 < length r → Passed (start_tests r)
    → entries r ≡ entry_here r ∷ entries (drop (record_length r) r)
unfolding entries_behind
entries-on [] h p = absurd (let f : ⊥ = omega arith in f)
entries-on (b ∷ bs) h p =
    let n : record_length (b ∷ bs) ≡ suc (record_length (b ∷ bs) - 1) = omega arith in
    rw (passed-decides (λ k. false) true p)
    (ap (λ es. entry_here (b ∷ bs) ∷ es)
    (entries-behind (record_length (b ∷ bs) - 1) bs ∙ ap (λ k. entries (drop k (b ∷ bs))) (sym n)))

pub where-on : (P : List Entry → Type 0) (b : Bool) (es : List Entry) → P [] → P es → P (cond b es [])
where-on P true es n h = h
where-on P false es n h = n

-- ---- the entries from a place on

module _ (file : List ℕ) (at : ℕ) where
  pub entry-number : {k : ℕ} {vs : List ℕ} → read_at file at ≡ Outcome.gives k vs → (entry_here (drop at file)).number ≡ k
  unfolding entry_here
  entry-number e = number-anywhere at (drop at file) ∙ ap number_given e

  pub read-over : read_at file at ≡ Outcome.ends → entries (drop at file) ≡ []
  read-over e =
      let h : length file ≤ at = (ends-exactly file at).0 e in
      entries_over (drop at file) (omega (arith, length-drop at file))

  pub read-stops : {k : ℕ} → read_at file at ≡ Outcome.gives k []
      → entries (drop at file) ≡ entry_here (drop at file) ∷ []
  read-stops {k} e =
      let h = (stops-exactly file at k).0 e in
      entries-stop (drop at file) (omega (arith, length-drop at file, h.0)) h.1

  -- a record that reading goes on behind is complete
  passed_here : {k next : ℕ} {vs : List ℕ} → read_at file at ≡ Outcome.gives k (next ∷ vs)
      → Passed (start_tests (drop at file))
  passed_here {k} {next} {vs} e = go (here-is at (drop at file)) e
    where
      go : {o : Outcome} → Here at (drop at file) o → o ≡ Outcome.gives k (next ∷ vs)
          → Passed (start_tests (drop at file))
      go (over-here z) f = never (cc)
      go (stop-here l g) f = never (cc)
      go (refuse p g) f = p
      go (accept p q) f = p

-- the next place is behind the record, and the entries go on there
pub record Next (file : List ℕ) (at next : ℕ) : Type 0 where
  pub ahead : at + head_length ≤ next
  pub within : next ≤ length file
  pub are : entries (drop at file) ≡ entry_here (drop at file) ∷ entries (drop next file)

pub read-on : (file : List ℕ) (at : ℕ) {k next : ℕ} {vs : List ℕ} → read_at file at ≡ Outcome.gives k (next ∷ vs)
    → Next file at next
read-on file at {next = next} e =
    let w : Onward file at next = onward file at e in
    let r : List ℕ = drop at file in
    let behind : drop (record_length r) r ≡ drop next file =
    drop-drop (record_length r) at file ∙ ap (λ i. drop i file) (sym w.behind) in
    record {
      ahead = w.ahead;
      within = w.within;
      are =
          entries-on r (omega (arith, length-drop at file, w.ahead, w.within)) (passed_here file at e)
          ∙ ap (λ l. entry_here r ∷ entries l) behind;
    }

-- ---- the outcomes

numbers-read : {file : List ℕ} {at : ℕ} {os : List Outcome} → Reads file at os
    → map (λ e. e.number) (entries (drop at file)) ≡ map number_given os
numbers-read {file} {at} (over e) = ap (map (λ e. e.number)) (read-over file at e)
numbers-read {file} {at} (stop e) =
    ap (map (λ e. e.number)) (read-stops file at e) ∙ ap (λ n. n ∷ []) (entry-number file at e)
numbers-read {file} {at} (on e more) =
    ap (map (λ e. e.number)) (read-on file at e).are
    ∙ ap₂ (λ n ns. n ∷ ns) (entry-number file at e) (numbers-read more)

pub numbers-of-file : (file : List ℕ) (os : List Outcome) → Reads file 0 os
    → map (λ e. e.number) (entries file) ≡ map number_given os
numbers-of-file file os h = numbers-read h

pub entries-count : (file : List ℕ) (os : List Outcome) → Reads file 0 os → length (entries file) ≡ length os
entries-count file os h =
    sym (length-map (entries file) (λ e. e.number)) ∙ ap length (numbers-of-file file os h) ∙ length-map os number_given
