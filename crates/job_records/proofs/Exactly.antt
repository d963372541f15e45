-- Each outcome is given exactly when docs/RULES.md section 5.2 says so.
--   ends-exactly      reading ends exactly where no byte remains
--   stops-exactly     a number alone is given exactly when its test is the first of the bytes from the place on to
--                     hold
--   refuses-exactly   a number and the place behind the record: exactly when the record is complete and its test is
--                     the first to hold
--   accepts-exactly   m, the cutoff as stated, the coefficient bytes as that part of the file, and the place behind:
--                     exactly when no test holds
-- Assumes nothing.
use mathlib.Core.Path.{◌≡◌, sym, ap, ◌∙◌, subst}
use mathlib.Core.List.{List, [], ◌∷◌}
use mathlib.Core.Logic.{◌↔◌}
use Prim.Native.Nat.{ℕ, suc, ◌+◌, ◌≤◌, ◌<◌, ◌-◌}
use native.Mathlib.Omega.{arith}
use lib.ListN.{length, take, drop, length-drop, drop_of_length-le}
use lib.Seq.{drop-drop}
use Rattle.refusals.specs.Order.{Given, Passed}
use Rattle.refusals.proofs.Order.{given-decides, passed-decides}
use Rattle.job_records.specs.Layout.{head_length, degree_byte, cutoff_byte, body_length, record_length}
use Rattle.job_records.specs.Cutoffs.{stated_cutoff}
use Rattle.job_records.specs.Reading.{Outcome, start_tests, record_tests, judged, read_here, read_at, HandsBack}
use Rattle.job_records.proofs.Starting.{stops, goes_on}
use Rattle.job_records.proofs.Forward.{never, Here, here-is, whole-record}
use Rattle.job_records.proofs.Forward.Here.{over, stop, refuse, accept}

module _ (file : List ℕ) (at : ℕ) where
  -- the bytes from the place on
  abbrev rest : List ℕ
  rest = drop at file

  left : length rest ≡ length file - at
  left = length-drop at file

  pub ends-exactly : (read_at file at ≡ Outcome.ends) ↔ (length file ≤ at)
  unfolding read_here
  ends-exactly = (λ e. go (here-is at rest) e, λ h. ap (read_here at) (drop_of_length-le file h))
    where
      go : {o : Outcome} → Here at rest o → o ≡ Outcome.ends → length file ≤ at
      go (over z) f = omega (arith, left)
      go (stop l g) f = never (cc)
      go (refuse p g) f = never (cc)
      go (accept p q) f = never (cc)

  pub stops-exactly : (k : ℕ) → (read_at file at ≡ Outcome.gives k []) ↔ ((at < length file) × Given k (start_tests rest))
  stops-exactly k = (λ e. go (here-is at rest) e, λ h. stops at rest (omega (arith, left, h.0)) h.1)
    where
      go : {o : Outcome} → Here at rest o → o ≡ Outcome.gives k [] → (at < length file) × Given k (start_tests rest)
      go (over z) f = never (cc)
      go (stop {k = j} l g) f = let same : j ≡ k = cc in (omega (arith, left), subst (λ n. Given n (start_tests rest)) same g)
      go (refuse p g) f = never (cc)
      go (accept p q) f = never (cc)

  pub refuses-exactly : (k : ℕ) → (read_at file at ≡ Outcome.gives (suc k) ((at + record_length rest) ∷ [])) ↔ (Passed (start_tests rest) × Given (suc k) (record_tests rest))
  unfolding judged
  refuses-exactly k = (λ e. go (here-is at rest) e, λ h. back h.0 h.1)
    where
      go : {o : Outcome} → Here at rest o → o ≡ Outcome.gives (suc k) ((at + record_length rest) ∷ []) → Passed (start_tests rest) × Given (suc k) (record_tests rest)
      go (over z) f = never (cc)
      go (stop l g) f = never (cc)
      go (refuse {k = j} p g) f = let same : j ≡ suc k = cc in (p, subst (λ n. Given n (record_tests rest)) same g)
      go (accept p q) f = let z : ◌≡◌ {A = ℕ} 0 (suc k) = cc in absurd (let b : ⊥ = omega arith in b)

      back : Passed (start_tests rest) → Given (suc k) (record_tests rest) → read_at file at ≡ Outcome.gives (suc k) ((at + record_length rest) ∷ [])
      back p g = goes_on at rest (omega (arith, whole-record rest p)) p ∙ given-decides _ _ g

  pub accepts-exactly : HandsBack file at (read_at file at) ↔ (Passed (start_tests rest) × Passed (record_tests rest))
  unfolding judged
  accepts-exactly = (λ h. go (here-is at rest) h.gives, λ p. back p.0 p.1)
    where
      go : {o : Outcome} → Here at rest o
          → o ≡ Outcome.gives 0
          ((at + record_length rest) ∷ degree_byte rest ∷ (at + head_length) ∷ body_length rest ∷ stated_cutoff (cutoff_byte rest))
          → Passed (start_tests rest) × Passed (record_tests rest)
      go (over z) f = never (cc)
      go (stop l g) f = never (cc)
      go (refuse p g) f = never (cc)
      go (accept p q) f = (p, q)

      back : Passed (start_tests rest) → Passed (record_tests rest) → HandsBack file at (read_at file at)
      back p q =
          let w : record_length rest ≤ length rest = whole-record rest p in
          record {
            gives = goes_on at rest (omega arith) p ∙ passed-decides _ _ q;
            bytes = ap (take (body_length rest)) (sym (drop-drop head_length at file));
            inside = omega (arith, left);
          }
