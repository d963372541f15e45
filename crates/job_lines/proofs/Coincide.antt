-- Two answers that the contract of a turn admits coincide.
--   turned-once   so for `take_turn`
-- Assumes nothing.
use mathlib.Core.Path.{◌≡◌}
use mathlib.Core.List.{List}
use Prim.Native.Nat.{ℕ}
use Rattle.refusals.proofs.Told.{one_answer}
use Rattle.job_lines.specs.Printing.{Turned}
use Rattle.job_lines.specs.declared.Turn.{Turn}

pub turned-once : {file : List ℕ} {at k : ℕ} {q r : Turn} → Turned file at k q → Turned file at k r → q ≡ r
turned-once f g = λ i. record { text = one_answer f.bytes g.bytes i; next = one_answer f.goes g.goes i }
