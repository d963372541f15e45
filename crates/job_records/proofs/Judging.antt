-- The answer for a complete record.
--   judged-is   the code's answer has the outcome of the record
-- Assumes nothing.
use mathlib.Core.Path.{◌≡◌, sym, ap, ◌∙◌, subst}
use mathlib.Core.List.{List}
use Prim.Native.Nat.{ℕ}
use native.Mathlib.Nat.{add_assoc}
use Rattle.refusals.specs.Admitting.{Admits}
use Rattle.std.specs.Prelude.{⊤, Option, Result, Ok, Err}
use Rattle.refusals.specs.declared.Refusal.{Refusal}
use Rattle.refusals.proofs.Order.{given-decides, passed-decides}
use Rattle.job_records.specs.Layout.{head_length, degree_byte, cutoff_byte, body_length, words, part}
use Rattle.job_records.specs.Cutoffs.{stated_cutoff, stated_by}
use Rattle.job_records.specs.Reading.{told_read, answered, judged, call_tests, record_tests}
use Rattle.job_records.specs.declared.Read.{Read}

pub judged-is : (at : ℕ) (r : List ℕ) (cutoff : Option ℕ) {n : ℕ} (v : Result ⊤ Refusal) {read : Read} → read ≡ answered at (degree_byte r) cutoff (body_length r) v
    → stated_by cutoff ≡ stated_cutoff (cutoff_byte r) → n ≡ body_length r → Admits (call_tests (degree_byte r) (cutoff_byte r) (words (part r head_length n))) v
    → told_read read ≡ judged at r
unfolding judged
judged-is at r cutoff {n} v a e f j =
    ap told_read a ∙ go v (subst (λ n. Admits (call_tests (degree_byte r) (cutoff_byte r) (words (part r head_length n))) v) f j)
  where
    go : (v : Result ⊤ Refusal) → Admits (record_tests r) v → told_read (answered at (degree_byte r) cutoff (body_length r) v) ≡ judged at r
    go (Ok u) p = sym (passed-decides _ _ p ∙ rw (← e, ← add_assoc))
    go (Err k) g = sym (given-decides _ _ g ∙ rw (← add_assoc))
