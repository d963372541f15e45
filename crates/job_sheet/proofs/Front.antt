-- A complete record at the front of bytes is read the same whatever stands behind them.
--   complete-number, stopped-number   the number of a complete record's entry, and of one where reading stops
--   front-byte           a byte of the head;  front_length  how long it is;  front-coefficients  the coefficients
--   front-passed         it is complete
--   front-entry          its entry
--   stopped              where reading stops the entry's number is 11 or 12
--   Clean                no 11 and no 12 among entries
--   entries-joined       THE ENTRIES of two files one behind the other, where the first ends cleanly
-- Assumes nothing.
use Rattle.std.proofs.Common.{◌≡◌, ℕ, zero, suc, ◌+◌, ◌-◌, ◌*◌, ◌<◌, ◌≤◌, true, false, not, ◌&&◌, eqb, ◌⊎◌, List, [], ◌∷◌, ◌++◌, length, get_or, take, drop, sym, refl, ap, ◌∙◌, subst, ap₂, inl, inr, arith, length-append, length-drop, le-ltb, eq-eqb}
use lib.ListN.{get_or-append}
use lib.Seq.{drop-append-le, take-append-le}
use Rattle.refusals.specs.Order.{decide, Given, Passed}
use Rattle.refusals.specs.Order.Passed.{none as all-passed}
use Rattle.refusals.proofs.Order.{passes, failed, others, cases, given-decides, passed-decides}
use Rattle.field.specs.Field.{roots_at}
use Rattle.input.specs.Cutoff.{in_force}
use Rattle.table_rules.specs.Demand.{steps_at}
use Rattle.table_rules.specs.Table.{step_limit}
use Rattle.job_records.specs.Layout.{head_length, mark_low, mark_high, degree_byte, cutoff_byte, body_length, record_length}
use Rattle.job_records.specs.Layout.{words, part, coefficients}
use Rattle.job_records.specs.Reading.{start_tests, call_tests, record_tests}
use Rattle.job_records.proofs.Forward.{whole-record, stops-only}
use Rattle.job_records.proofs.Exactly.{stops-exactly}
use Rattle.job_sheet.specs.Entries.{Entry, number_here, entry_here, entries_behind, entries}
use Rattle.job_sheet.specs.Figures.{count_of, numbered}
use Rattle.job_sheet.proofs.Outcomes.{number-tests}
use Rattle.job_sheet.proofs.Counts.{bit, count-first}

-- ---- the number of an entry

-- a complete record's is that of its own tests
pub complete-number : (r : List ℕ) → 0 < length r → Passed (start_tests r)
    → number_here r ≡ decide (record_tests r) (λ k. k) 0
complete-number [] h p = absurd (let f : ⊥ = omega arith in f)
complete-number (b ∷ bs) h p =
    number-tests 0 b bs ∙ passed-decides (λ k. k) (decide (record_tests (b ∷ bs)) (λ k. k) 0) p

-- where reading stops it is that of the first tests
stopped-number : (r : List ℕ) {k : ℕ} → 0 < length r → Given k (start_tests r) → number_here r ≡ k
stopped-number [] h g = absurd (let f : ⊥ = omega arith in f)
stopped-number (b ∷ bs) h g = number-tests 0 b bs ∙ given-decides (λ k. k) (decide (record_tests (b ∷ bs)) (λ k. k) 0) g

-- an entry, by what it is made of
abbrev entry_from : ℕ → ℕ → ℕ → List ℕ → Entry
entry_from n m c cs = record {
  number = n;
  field = m;
  roots = length (roots_at m cs);
  steps = steps_at m c cs;
  limit = step_limit m (in_force c) (length (roots_at m cs));
}

entry-from : (r : List ℕ) → entry_here r ≡ entry_from (number_here r) (degree_byte r) (cutoff_byte r) (coefficients r)
unfolding entry_here
entry-from r = refl

-- ---- a complete record, and what stands behind it

module _ (r g : List ℕ) (p : Passed (start_tests r)) where
  whole : record_length r ≤ length r
  whole = whole-record r p

  front-byte : (i : ℕ) → i < head_length → get_or (r ++ g) i 0 ≡ get_or r i 0
  front-byte i h = get_or-append r g 0 i (omega (arith, whole))

  front_length : record_length (r ++ g) ≡ record_length r
  front_length = ap (λ n. head_length + 2 * n) (front-byte 4 (omega arith))

  front-coefficients : coefficients (r ++ g) ≡ coefficients r
  front-coefficients =
      ap (λ n. words (part (r ++ g) head_length (2 * n))) (front-byte 4 (omega arith))
      ∙ ap (λ l. words (take (body_length r) l)) (drop-append-le head_length r g (omega (arith, whole)))
      ∙ ap words (take-append-le (body_length r) (drop head_length r) g (omega (arith, whole, length-drop head_length r)))

  front-passed : Passed (start_tests (r ++ g))
  front-passed =
      let l = length-append r g in
      let n = front_length in
      passes (le-ltb (length (r ++ g)) 2 (omega (arith, whole)))
      (passes (ap₂ (λ a b. not (eqb a mark_low && eqb b mark_high))
      (front-byte 0 (omega arith)) (front-byte 1 (omega arith))
      ∙ failed (others p))
      (passes (le-ltb (length (r ++ g)) (record_length (r ++ g)) (omega (arith, whole))) all-passed))

  front-tests : record_tests (r ++ g) ≡ record_tests r
  front-tests =
      ap (λ m. call_tests m (cutoff_byte (r ++ g)) (coefficients (r ++ g))) (front-byte 2 (omega arith))
      ∙ ap₂ (λ c cs. call_tests (degree_byte r) c cs) (front-byte 3 (omega arith)) front-coefficients

  front-number : number_here (r ++ g) ≡ number_here r
  front-number =
      complete-number (r ++ g) (omega (arith, whole, length-append r g)) front-passed
      ∙ ap (λ ts. decide ts (λ k. k) 0) front-tests
      ∙ sym (complete-number r (omega (arith, whole)) p)

  front-entry : entry_here (r ++ g) ≡ entry_here r
  front-entry =
      entry-from (r ++ g)
      ∙ ap₂ (λ n m. entry_from n m (cutoff_byte (r ++ g)) (coefficients (r ++ g)))
      front-number (front-byte 2 (omega arith))
      ∙ ap₂ (λ c cs. entry_from (number_here r) (degree_byte r) c cs) (front-byte 3 (omega arith)) front-coefficients
      ∙ sym (entry-from r)

-- ---- two files one behind the other

-- no 11 and no 12 among entries
pub record Clean (es : List Entry) : Type 0 where
  pub no-mark : count_of (numbered 11) es ≡ 0
  pub no_short : count_of (numbered 12) es ≡ 0

-- so behind the first
clean-behind : (e : Entry) (es : List Entry) → Clean (e ∷ es) → Clean es
clean-behind e es c = record {
  no-mark = omega (arith, count-first (numbered 11) e es, c.no-mark);
  no_short = omega (arith, count-first (numbered 12) e es, c.no_short);
}

-- an entry is not one of them
clean-entry : (e : Entry) (es : List Entry) → Clean (e ∷ es) → (e.number ≡ 11) ⊎ (e.number ≡ 12) → ⊥
clean-entry e es c (inl n) = omega (arith, count-first (numbered 11) e es, c.no-mark, ap bit (eq-eqb e.number 11 n))
clean-entry e es c (inr n) =
    omega (arith, count-first (numbered 12) e es, c.no_short, ap bit (eq-eqb e.number 12 n))

pub stopped : (r : List ℕ) {k : ℕ} → 0 < length r → Given k (start_tests r)
    → ((entry_here r).number ≡ 11) ⊎ ((entry_here r).number ≡ 12)
unfolding entry_here
stopped r {k} h g =
    subst (λ n. (n ≡ 11) ⊎ (n ≡ 12)) (sym (stopped-number r h g)) (stops-only r 0 ((stops-exactly r 0 k).1 (h, g)))

complete-first : (b : ℕ) (bs : List ℕ) → Passed (start_tests (b ∷ bs))
    → entries (b ∷ bs) ≡ entry_here (b ∷ bs) ∷ entries_behind (record_length (b ∷ bs) - 1) bs
unfolding entries_behind
complete-first b bs p = rw (passed-decides (λ k. false) true p)

joined-on : (k : ℕ) (f g : List ℕ) → k ≤ length f → Clean (entries_behind k f)
    → entries_behind k (f ++ g) ≡ entries_behind k f ++ entries g
unfolding entries_behind
joined-on zero [] g h c = refl
joined-on (suc k) [] g h c = absurd (let z : ⊥ = omega arith in z)
joined-on (suc k) (b ∷ bs) g h c = joined-on k bs g (omega arith) c
joined-on zero (b ∷ bs) g h c = go (cases (start_tests (b ∷ bs))) (λ k. joined-on k bs g)
  where
    go : ((k : ℕ) × Given k (start_tests (b ∷ bs))) ⊎ Passed (start_tests (b ∷ bs))
        → ((k : ℕ) → k ≤ length bs → Clean (entries_behind k bs)
        → entries_behind k (bs ++ g) ≡ entries_behind k bs ++ entries g)
        → entries ((b ∷ bs) ++ g) ≡ entries (b ∷ bs) ++ entries g
    go (inl t) more = absurd (clean-entry _ _ c (stopped (b ∷ bs) (omega arith) t.1))
    go (inr p) more =
        let n : ℕ = record_length (b ∷ bs) - 1 in
        let first = complete-first b bs p in
        let clean : Clean (entries_behind n bs) =
        clean-behind (entry_here (b ∷ bs)) (entries_behind n bs) (subst Clean first c) in
        complete-first b (bs ++ g) (front-passed (b ∷ bs) g p)
        ∙ ap₂ (λ e k. e ∷ entries_behind (k - 1) (bs ++ g)) (front-entry (b ∷ bs) g p) (front_length (b ∷ bs) g p)
        ∙ ap (λ es. entry_here (b ∷ bs) ∷ es) (more n (omega (arith, whole-record (b ∷ bs) p)) clean)
        ∙ ap (λ es. es ++ entries g) (sym first)

pub entries-joined : (f g : List ℕ) → Clean (entries f) → entries (f ++ g) ≡ entries f ++ entries g
entries-joined f g c = joined-on 0 f g (omega arith) c
