-- `job_records::read_through` meets its contract: how reading ends from the place on is how it ends from the start.
-- Assumes nothing.
use mathlib.Core.Path.{◌≡◌, refl, sym, ap, ◌∙◌}
use mathlib.Core.List.{List, ◌∷◌}
use Prim.Native.Nat.{ℕ}
use native.Mathlib.Omega.{arith}
use Rattle.job_records.specs.Reading.{Outcome, told_read, read_at}
use Rattle.job_records.specs.Files.Halts.{over, stop}
use Rattle.job_records.proofs.Forward.{onward}
use Rattle.job_records.proofs.Whole.{halts-from, halts-on}
use Rattle.job_records.proofs.read_through.Goals as goal
use Rattle.job_records.proofs.read_through.Goals.{in-Refused, in-Record}

to : {o : Outcome} {number at next : ℕ} {values : List ℕ} → o ≡ Outcome.gives number (next ∷ values) → at ≡ next
    → o ≡ Outcome.gives number (at ∷ values)
to {number = number} {values = values} e q = e ∙ ap (λ n. Outcome.gives number (n ∷ values)) (sym q)

-- reading goes on behind a refused or an accepted record
goes : (c : goal.Joined-read_record)
    → (number : ℕ) × (values : List ℕ) × (read_at c.args.file.now c.loop-refusal.at ≡ Outcome.gives number (c.match-read_record.at ∷ values))
goes c =
    let e = sym c.read_record.ensures in
    elim c.match-read_record.branch [
      | in-Refused w ↦ (_, _, to (e ∙ ap told_read w.in-Refused.is) w.at-is)
      | in-Record w ↦ (_, _, to (e ∙ ap told_read w.in-Record.is) w.at-is)
    ]

pub loop-refusal-init : goal.loop-refusal-init
loop-refusal-init c = halts-from _

pub returns-in-End : goal.returns-in-End
returns-in-End c = c.loop-refusal.invariant.all (over (sym c.read_record.ensures ∙ ap told_read c.in-End.is))

pub returns-in-Stopped : goal.returns-in-Stopped
returns-in-Stopped c =
    let r = c in
    r.loop-refusal.invariant.all (stop (sym r.read_record.ensures ∙ ap told_read c.in-Stopped.is) refl refl)

pub overflow_add-k : goal.overflow_add-k
overflow_add-k c = let i = c.loop-refusal.invariant in omega (arith, i.few, i.within)

pub loop-refusal-smaller : goal.loop-refusal-smaller
loop-refusal-smaller c = let o = onward _ _ (goes c).2 in omega (arith, o.ahead, o.within)

pub loop-refusal-preserved : goal.loop-refusal-preserved
loop-refusal-preserved c = halts-on (goes c).2 c.loop-refusal.invariant
