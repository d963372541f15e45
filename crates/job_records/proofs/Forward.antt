-- Where reading goes on, and where it does not.
--   Here, here-is   what stands at a place, by cases; every place is one of them
--   onward          a number with a place to go on: exactly behind the complete record, at least five bytes ahead and
--                   within the file
--   stops-only      a number with no place is 11 or 12;  goes-only: one with a place is at most 6
--   accepts         an accepted record says what stands at its place, and its bytes are that part of the file
-- Assumes nothing.
use mathlib.Core.Path.{◌≡◌, refl, sym, ap, ap₂, ◌∙◌, subst}
use mathlib.Core.Bool.{Bool}
use mathlib.Core.List.{List, [], ◌∷◌}
use mathlib.Core.Logic.{◌⊎◌, inl, inr}
use Prim.Native.Nat.{ℕ, ◌+◌, ◌*◌, ◌≤◌, ◌<◌}
use native.Mathlib.Omega.{arith}
use borrow.Author.Tests.{ltb-false}
use lib.ListN.{length, get_or, take, drop, length-drop}
use lib.Seq.{drop-drop, get_or-drop}
use Rattle.refusals.specs.Order.{Given, Passed}
use Rattle.refusals.specs.Order.Given.{here, later}
use Rattle.refusals.proofs.Order.{cases, given-decides, passed-decides, failed, others}
use Rattle.job_records.specs.Layout.{head_length, degree_byte, cutoff_byte, body_length, record_length, words, part}
use Rattle.job_records.specs.Cutoffs.{stated_cutoff}
use Rattle.job_records.specs.Reading.{Outcome, start_tests, call_tests, record_tests, judged, read_here, read_at}

-- two cases that differ are never the same
pub never : {A : Type 0} → ◌≡◌ {A = ℕ} 0 1 → A
never z = absurd (let b : ⊥ = omega arith in b)

-- what stands at a place, by cases: nothing, a record that ends early or has no mark, a complete record
pub data Here (at : ℕ) (r : List ℕ) : Outcome → Type 0 where
  over : length r ≡ 0 → Here at r Outcome.ends
  stop : {k : ℕ} → 0 < length r → Given k (start_tests r) → Here at r (Outcome.gives k [])
  refuse : {k : ℕ} → Passed (start_tests r) → Given k (record_tests r) → Here at r (Outcome.gives k ((at + record_length r) ∷ []))
  accept : Passed (start_tests r) → Passed (record_tests r)
      → Here at r (Outcome.gives 0 ((at + record_length r) ∷ degree_byte r ∷ (at + head_length) ∷ body_length r ∷ stated_cutoff (cutoff_byte r)))

-- every place is one of them
pub here-is : (at : ℕ) (r : List ℕ) → Here at r (read_here at r)
unfolding read_here judged
here-is at [] = over refl
here-is at (b ∷ bs) = by-start (cases (start_tests (b ∷ bs)))
  where
    by-record : Passed (start_tests (b ∷ bs)) → ((k : ℕ) × Given k (record_tests (b ∷ bs))) ⊎ Passed (record_tests (b ∷ bs)) → Here at (b ∷ bs) (judged at (b ∷ bs))
    by-record s (inl g) = rw (given-decides _ _ g.1) (refuse s g.1)
    by-record s (inr p) = rw (passed-decides _ _ p) (accept s p)

    by-start : ((k : ℕ) × Given k (start_tests (b ∷ bs))) ⊎ Passed (start_tests (b ∷ bs)) → Here at (b ∷ bs) (read_here at (b ∷ bs))
    by-start (inl g) = rw (given-decides _ _ g.1) (stop (omega arith) g.1)
    by-start (inr p) = rw (passed-decides _ _ p) (by-record p (cases (record_tests (b ∷ bs))))

-- ---- where reading goes on

-- a place to go on is behind the record
pub record Onward (file : List ℕ) (at next : ℕ) : Type 0 where
  pub behind : next ≡ at + record_length (drop at file)
  pub ahead : at + head_length ≤ next
  pub within : next ≤ length file

-- the bytes of a record that passed the first tests are all there
pub whole-record : (r : List ℕ) → Passed (start_tests r) → record_length r ≤ length r
whole-record r p = ltb-false (length r) (record_length r) (failed (others (others p)))

pub onward : (file : List ℕ) (at : ℕ) {k next : ℕ} {vs : List ℕ} → read_at file at ≡ Outcome.gives k (next ∷ vs) → Onward file at next
onward file at {k} {next} {vs} e = go (here-is at (drop at file)) e
  where
    make : Passed (start_tests (drop at file)) → next ≡ at + record_length (drop at file) → Onward file at next
    make p f =
        let w : record_length (drop at file) ≤ length (drop at file) = whole-record (drop at file) p in
        record { behind = f; ahead = omega arith; within = omega (arith, length-drop at file) }

    go : {o : Outcome} → Here at (drop at file) o → o ≡ Outcome.gives k (next ∷ vs) → Onward file at next
    go (over z) f = never (cc)
    go (stop l g) f = never (cc)
    go (refuse p g) f = make p (cc)
    go (accept p q) f = make p (cc)

-- ---- which numbers there are

-- what holds of the number of each test
pub data Numbers (P : ℕ → Type 0) : List (ℕ × Bool) → Type 0 where
  none : Numbers P []
  one : {k : ℕ} {b : Bool} {ts : List (ℕ × Bool)} → P k → Numbers P ts → Numbers P ((k, b) ∷ ts)

-- a number that is given stands beside a test
pub among : (P : ℕ → Type 0) {k : ℕ} {ts : List (ℕ × Bool)} → Given k ts → Numbers P ts → P k
among P here (one p n) = p
among P (later g) (one p n) = among P g n

-- a number with no place to go on is 11 or 12
pub stops-only : (file : List ℕ) (at : ℕ) {k : ℕ} → read_at file at ≡ Outcome.gives k [] → (k ≡ 11) ⊎ (k ≡ 12)
stops-only file at {k} e = go (here-is at (drop at file)) e
  where
    go : {o : Outcome} → Here at (drop at file) o → o ≡ Outcome.gives k [] → (k ≡ 11) ⊎ (k ≡ 12)
    go (over z) f = never (cc)
    go (stop {k = j} l g) f =
        let same : j ≡ k = cc in
        subst (λ n. (n ≡ 11) ⊎ (n ≡ 12)) same (among (λ n. (n ≡ 11) ⊎ (n ≡ 12)) g (one (inr refl) (one (inl refl) (one (inr refl) none))))
    go (refuse p g) f = never (cc)
    go (accept p q) f = never (cc)

-- a number with a place to go on is 0 for a record, or 1 to 6
pub goes-only : (file : List ℕ) (at : ℕ) {k next : ℕ} {vs : List ℕ} → read_at file at ≡ Outcome.gives k (next ∷ vs) → k ≤ 6
goes-only file at {k} {next} {vs} e = go (here-is at (drop at file)) e
  where
    go : {o : Outcome} → Here at (drop at file) o → o ≡ Outcome.gives k (next ∷ vs) → k ≤ 6
    go (over z) f = never (cc)
    go (stop l g) f = never (cc)
    go (refuse {k = j} p g) f =
        let same : j ≡ k = cc in
        subst (λ n. n ≤ 6) same
        (among (λ n. n ≤ 6) g (one (omega arith) (one (omega arith) (one (omega arith) (one (omega arith) (one (omega arith) (one (omega arith) none)))))))
    go (accept p q) f = let same : ◌≡◌ {A = ℕ} 0 k = cc in omega arith

-- ---- what an accepted record says

-- its fields are the bytes at its place, and its coefficient bytes are the part of the file that is handed back; they
-- pass the whole call's tests
pub record Accepts (file : List ℕ) (at next m start len : ℕ) (cutoff : List ℕ) : Type 0 where
  pub degree : m ≡ get_or file (at + 2) 0
  pub cutoff-is : cutoff ≡ stated_cutoff (get_or file (at + 3) 0)
  pub starts : start ≡ at + head_length
  pub long : len ≡ 2 * get_or file (at + 4) 0
  pub goes : next ≡ start + len
  pub within : next ≤ length file
  pub tests : Passed (call_tests m (get_or file (at + 3) 0) (words (part file start len)))

pub accepts : (file : List ℕ) (at : ℕ) {next m start len : ℕ} {cutoff : List ℕ}
    → read_at file at ≡ Outcome.gives 0 (next ∷ m ∷ start ∷ len ∷ cutoff) → Accepts file at next m start len cutoff
accepts file at {next} {m} {start} {len} {cutoff} e = go (here-is at (drop at file)) e
  where
    byte : (i : ℕ) → get_or (drop at file) i 0 ≡ get_or file (at + i) 0
    byte i = get_or-drop at file i 0

    go : {o : Outcome} → Here at (drop at file) o → o ≡ Outcome.gives 0 (next ∷ m ∷ start ∷ len ∷ cutoff) → Accepts file at next m start len cutoff
    go (over z) f = never (cc)
    go (stop l g) f = never (cc)
    go (refuse p g) f = never (cc)
    go (accept p q) f =
        let w : record_length (drop at file) ≤ length (drop at file) = whole-record (drop at file) p in
        let s : at + head_length ≡ start = cc in
        let l : body_length (drop at file) ≡ len = cc in
        let d : degree_byte (drop at file) ≡ m = cc in
        let n : at + record_length (drop at file) ≡ next = cc in
        let c : stated_cutoff (cutoff_byte (drop at file)) ≡ cutoff = cc in
        record {
          degree = sym d ∙ byte 2;
          cutoff-is = sym c ∙ ap stated_cutoff (byte 3);
          starts = sym s;
          long = sym l ∙ ap (λ n. 2 * n) (byte 4);
          goes = omega arith;
          within = omega (arith, length-drop at file);
          tests = subst (λ c. Passed (call_tests m c (words (part file start len)))) (byte 3)
              (subst (λ m. Passed (call_tests m (cutoff_byte (drop at file)) (words (part file start len)))) d
              (subst (λ bs. Passed (call_tests (degree_byte (drop at file)) (cutoff_byte (drop at file)) (words bs)))
              (ap₂ take l (drop-drop head_length at file ∙ ap (λ i. drop i file) s)) q));
        }
