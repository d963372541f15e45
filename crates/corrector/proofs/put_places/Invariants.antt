-- `corrector::put_places`: the roots below the index are in their places.
use Rattle.std.proofs.Common.{◌≡◌, ◌++◌, map, take, drop}
use Rattle.field.specs.Field.{field_at}
use Rattle.field_elements.specs.Calls.{position_under}
use Rattle.corrector.proofs.put_places.Given as goal

abbrev pub invariant-loop-root : goal.invariant-loop-root
invariant-loop-root l =
    l.roots ≡ map (position_under 1 (field_at 11)) (take l.root-index l.initial.roots) ++ drop l.root-index l.initial.roots
