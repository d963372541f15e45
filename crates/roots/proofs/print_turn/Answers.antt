-- `print_turn` meets its contract: where a turn goes on, it goes on behind what was read.
use mathlib.Core.Path.{◌≡◌, sym, ap}
use mathlib.Core.List.{List}
use Prim.Native.Nat.{ℕ}
use native.Mathlib.Omega.{arith}
use Rattle.std.specs.Prelude.{Option, Some, None, IfSome}
use Rattle.job_records.specs.declared.Read.{Read}
use Rattle.job_lines.specs.Printing.{TurnedBy, Ahead}
use Rattle.job_lines.specs.declared.Turn.{Turn}
use Rattle.job_lines.proofs.Turning.{turn_on}
use Rattle.roots.proofs.print_turn.Goals as goal

ahead : (read : Read) (bytes : List ℕ) (k : ℕ) (turn : Turn) → TurnedBy read bytes k turn → (next : Option ℕ) → turn.next ≡ next → IfSome next (λ at. Ahead read bytes at)
ahead read bytes k turn t None f = tt
ahead read bytes k turn t (Some at) f = λ file i e b small within. omega (arith, (turn_on (t file i e b) f).ahead)

pub returns : goal.returns
returns c = ahead c.args.read c.args.bytes.now c.args.k c.take_turn-turn.result c.take_turn-turn.ensures _ (ap (λ t. t.next) (sym c.turn.view_is))
