-- The line of an accepted record, from what the engine found.
--   solved-few    as many roots as the limit at most
--   line-solved   the line of what was solved
-- Assumes nothing.
use mathlib.Core.Path.{◌≡◌, sym, ap, ap₂, ◌∙◌}
use mathlib.Core.List.{List}
use Prim.Native.Nat.{ℕ, ◌≤◌}
use native.Mathlib.Omega.{arith}
use lib.ListN.{take}
use Rattle.slices.proofs.Lists.{copied-front}
use Rattle.field.specs.Field.{roots_at}
use Rattle.input.specs.Cutoff.{in_force}
use Rattle.input.specs.Limit.{limit}
use Rattle.input.proofs.Polynomials.{roots_few}
use Rattle.find_solve.specs.Solving.{SolvedOut}
use Rattle.find_solve.specs.declared.Solved.{Solved}
use Rattle.job_records.specs.declared.Job.{Job}
use Rattle.job_text.specs.Lines.{line_of}
use Rattle.job_solve.specs.Solving.{cutoff_of, Accepted}
use Rattle.job_solve.proofs.Solving.{accepted-in}
use Rattle.job_lines.specs.Printing.{solved_line}

module _ (j : Job) {cs list list' : List ℕ} {r : Solved} (o : SolvedOut j.m (in_force (cutoff_of j)) cs list r list') where
  pub solved-few : Accepted j cs → r.s ≤ limit
  solved-few p = omega (arith, o.count, roots_few (accepted-in p))

  pub line-solved : (k : ℕ) {text : List ℕ} → text ≡ line_of k 0 r.steps (take r.s list') → text ≡ solved_line k j.m (cutoff_of j) cs
  line-solved k w =
      w ∙ ap₂ (λ t x. line_of k 0 t x) o.steps (ap (take r.s) o.slots-are ∙ copied-front (roots_at j.m cs) list (sym o.count))
