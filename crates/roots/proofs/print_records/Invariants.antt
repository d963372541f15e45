-- `print_records` ends: the reader is one of the file, and each turn goes on behind what stands at its place.
use Rattle.std.proofs.Common.{length, ◌-◌, ◌≤◌, ◌≡◌, ◌+◌}
use Rattle.roots.proofs.print_records.Given as goal

abbrev pub invariant-loop-reader : goal.invariant-loop-reader
invariant-loop-reader l = (l.reader.file.now ≡ l.file) × (l.k ≤ l.reader.at + 1)

abbrev pub decreases-loop-reader : goal.decreases-loop-reader
decreases-loop-reader l = length l.file - l.reader.at
