-- An accepted record is solved once, and what it counts.
--   coefficients_of   the coefficients of a record, in the file
--   job-passes       an accepted record passes the reader's tests;  job-polynomial  its polynomial is let in
--   job-few          it has no more roots than the limit
--   job-limit-fits   the limit of its steps is small
--   job-counts       what it counts
-- Assumes nothing.
use Rattle.std.proofs.Common.{◌≡◌, ℕ, suc, ◌*◌, ◌/◌, ◌≤◌, List, refl, ◌∙◌, subst, ap₂, div-le_self, arith}
use Rattle.input.specs.Cutoff.{in_force}
use Rattle.input.specs.Limit.{limit, widest}
use Rattle.input.specs.Polynomials.{PolynomialIn}
use Rattle.input.proofs.Polynomials.{roots_few}
use Rattle.find_solve.specs.Solving.{SolvedOut}
use Rattle.find_solve.specs.declared.Solved.{Solved}
use Rattle.find_solve.proofs.Tracing.{powers-fit}
use Rattle.job_records.specs.Layout.{words, part}
use Rattle.job_records.specs.declared.Job.{Job}
use Rattle.job_solve.specs.Solving.{cutoff_of, Accepted}
use Rattle.job_solve.proofs.Solving.{job-accepted, accepted-in}
use Rattle.job_sheet.specs.Adding.{JobStands, CountedIs}

abbrev pub coefficients_of : List ℕ → Job → List ℕ
coefficients_of file j = words (part file j.start j.len)

module _ {file : List ℕ} {j : Job} (s : JobStands file j) where
  pub job-passes : {bytes : List ℕ} → bytes ≡ part file j.start j.len → Accepted j (words bytes)
  job-passes b = job-accepted file s.at s.read b

  pub job-polynomial : PolynomialIn j.m (coefficients_of file j)
  job-polynomial = accepted-in (job-passes refl)

  module _ {bytes list list' : List ℕ} {r : Solved} (b : bytes ≡ part file j.start j.len)
      (o : SolvedOut j.m (in_force (cutoff_of j)) (words bytes) list r list') where
    -- of the bytes in the file
    solved : SolvedOut j.m (in_force (cutoff_of j)) (coefficients_of file j) list r list'
    solved = subst (λ bs. SolvedOut j.m (in_force (cutoff_of j)) (words bs) list r list') b o

    pub job-few : r.s ≤ limit
    job-few = omega (arith, solved.count, roots_few job-polynomial)

    module _ {k n : ℕ} (e : k ≡ in_force (cutoff_of j)) (l : n ≡ j.m * (r.s / suc k)) where
      pub job-limit-fits : n ≤ widest * limit
      job-limit-fits =
          let few : r.s / suc k ≤ limit = omega (arith, div-le_self r.s (suc k), job-few) in
          omega (arith, l, powers-fit j.m (r.s / suc k) job-polynomial.field few)

      pub job-counts : CountedIs file j (record { roots = r.s; steps = r.steps; limit = n })
      job-counts = record {
        roots = solved.count;
        steps = solved.steps;
        limit = l ∙ ap₂ (λ s c. j.m * (s / suc c)) solved.count e;
      }
