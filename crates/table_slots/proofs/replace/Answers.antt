-- `table_slots::replace` meets its contract: the slots are spliced, and the head's two counts written.
-- Assumes nothing.
use mathlib.Core.Path.{ap}
use Prim.Native.Nat.{◌+◌, ◌-◌, ◌/◌}
use lib.ListN.{length, set}
use Rattle.table_slots.specs.Slots.{count_of, taken_of, degree_at}
use Rattle.table_slots.proofs.replace.Goals as goal

pub returns : goal.returns
returns c = let k = c in
    let l = k.args.table.now in
    ap (λ s. set (set s 2 (count_of l - 1 + (length k.args.parts.now - degree_at l k.args.o) / 2)) 3 (taken_of l + 1)) c.splice.ensures
