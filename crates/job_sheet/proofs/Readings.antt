-- The records of a file as the reader gives them, refused or accepted.
--   refused-least           the number that a record is refused under is not 0
--   read-least, read_known  so at a place, and its field is known where the number is not 1
--   stands                  an accepted record stands in the file;  accepted-known  its field is known
--   AcceptedEntry, read-accepted   what its entry counts
--   accepted-roots          its roots are fewer than its bytes
-- Assumes nothing.
use Rattle.std.proofs.Common.{◌≡◌, ℕ, ◌+◌, ◌*◌, ◌<◌, ◌≤◌, Bool, true, false, List, [], ◌∷◌, length, get_or, take, drop, sym, refl, ap, ◌∙◌, subst, ap₂, arith, length-take, get_or-drop, drop-drop}
use native.Mathlib.Nat.{min-le_left}
use borrow.Author.Tests.{not-false}
use Rattle.refusals.specs.Order.{Given}
use Rattle.refusals.specs.Order.Given.{here, later}
use Rattle.field.specs.Rows.{known}
use Rattle.field.specs.Field.{roots_at}
use Rattle.input.proofs.Polynomials.{roots-shorter}
use Rattle.job_records.specs.Layout.{head_length, degree_byte, cutoff_byte, words, part, coefficients}
use Rattle.job_records.specs.Cutoffs.{asked}
use Rattle.job_records.specs.Reading.{Outcome, told_read, record_tests, read_at}
use Rattle.job_records.specs.declared.Job.{Job}
use Rattle.job_records.specs.declared.Read.TheVariants.{Record}
use Rattle.job_records.proofs.Cutoffs.{asked-stated}
use Rattle.job_records.proofs.Forward.{never, Here, here-is, among, accepts}
use Rattle.job_records.proofs.Forward.Here.{over, stop, refuse, accept}
use Rattle.job_records.proofs.Forward.Numbers.{none, one}
use Rattle.job_records.proofs.Words.{length-words}
use Rattle.job_solve.specs.Solving.{cutoff_of}
use Rattle.job_sheet.specs.Entries.{Entry, entry_here}
use Rattle.job_sheet.specs.Adding.{JobStands, CountedIs}
use Rattle.job_sheet.specs.declared.Counted.{Counted}
use Rattle.job_sheet.proofs.Outcomes.{entry-number}
use Rattle.job_sheet.proofs.Solved.{coefficients_of, job-polynomial}

-- a test that is not the one whose number is given fails
given-first : {k j : ℕ} {t : Bool} {ts : List (ℕ × Bool)} → Given k ((j, t) ∷ ts) → (k ≡ j → ⊥) → t ≡ false
given-first here n = absurd (n refl)
given-first (later g) n = refl

-- ---- a refused record

pub refused-least : (r : List ℕ) {k : ℕ} → Given k (record_tests r) → 1 ≤ k
refused-least r g =
    among (λ n. 1 ≤ n) g
    (one (omega arith) (one (omega arith) (one (omega arith) (one (omega arith)
    (one (omega arith) (one (omega arith) none))))))

module _ (file : List ℕ) (at : ℕ) where
  -- the number of a refused record is given by its tests
  read-given : {k next : ℕ} → read_at file at ≡ Outcome.gives k (next ∷ []) → Given k (record_tests (drop at file))
  read-given {k} {next} e = go (here-is at (drop at file)) e
    where
      go : {o : Outcome} → Here at (drop at file) o → o ≡ Outcome.gives k (next ∷ [])
          → Given k (record_tests (drop at file))
      go (over z) f = never (cc)
      go (stop l g) f = never (cc)
      go (refuse {k = j} p g) f = let same : j ≡ k = cc in subst (λ n. Given n (record_tests (drop at file))) same g
      go (accept p q) f = never (cc)

  pub read-least : {k next : ℕ} → read_at file at ≡ Outcome.gives k (next ∷ []) → 1 ≤ k
  read-least e = refused-least (drop at file) (read-given e)

  pub read_known : {k next : ℕ} → read_at file at ≡ Outcome.gives k (next ∷ []) → (k ≡ 1 → ⊥)
      → known (degree_byte (drop at file)) ≡ true
  read_known e n = not-false (known (degree_byte (drop at file))) (given-first (read-given e) n)

-- ---- an accepted record

-- what its entry counts
pub record AcceptedEntry (e : Entry) (m : ℕ) (c : Counted) : Type 0 where
  pub number : e.number ≡ 0
  pub field : e.field ≡ m
  pub roots : e.roots ≡ c.roots
  pub steps : e.steps ≡ c.steps
  pub limit : e.limit ≡ c.limit

module _ (file : List ℕ) (at : ℕ) (j : Job) (e : told_read (Record j) ≡ read_at file at) where
  pub stands : JobStands file j
  stands = record { at = at; read = e }

  pub accepted-known : known j.m ≡ true
  accepted-known = (job-polynomial stands).field

  pub read-accepted : {c : Counted} → CountedIs file j c → AcceptedEntry (entry_here (drop at file)) j.m c
  unfolding entry_here
  read-accepted i =
      let a = accepts file at (sym e) in
      let byte : (i : ℕ) → get_or (drop at file) i 0 ≡ get_or file (at + i) 0 = λ i. get_or-drop at file i 0 in
      let m : degree_byte (drop at file) ≡ j.m = byte 2 ∙ sym a.degree in
      let c : cutoff_byte (drop at file) ≡ cutoff_of j =
      byte 3 ∙ sym (ap asked a.cutoff-is ∙ asked-stated (get_or file (at + 3) 0)) in
      let cs : coefficients (drop at file) ≡ coefficients_of file j =
      ap₂ (λ n l. words (take n l)) (ap (λ n. 2 * n) (byte 4) ∙ sym a.long)
      (drop-drop head_length at file ∙ ap (λ i. drop i file) (sym a.starts)) in
      record {
        number = entry-number file at (sym e);
        field = m;
        roots = ap₂ (λ m cs. length (roots_at m cs)) m cs ∙ sym i.roots;
        steps = rw (m, c, cs) (sym i.steps);
        limit = rw (m, c, cs) (sym i.limit);
      }

  -- each root has its coefficient
  pub accepted-roots : {c : Counted} → CountedIs file j c → at + c.roots ≤ j.next
  accepted-roots {c} i =
      let a = accepts file at (sym e) in
      let few : c.roots < length (coefficients_of file j) =
      subst (λ n. n < length (coefficients_of file j)) (sym i.roots) (roots-shorter (job-polynomial stands)) in
      let n : length (coefficients_of file j) ≤ j.len =
      omega (
        arith,
        length-words (part file j.start j.len),
        length-take j.len (drop j.start file),
        min-le_left j.len (length (drop j.start file)),
      ) in
      omega (arith, a.goes, a.starts)
