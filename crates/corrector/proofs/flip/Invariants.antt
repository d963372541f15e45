-- `corrector::flip`: the bits at the places below the index are flipped.
use Rattle.std.proofs.Common.{◌≡◌, take}
use Rattle.corrector.specs.Places.{flip_all}
use Rattle.corrector.proofs.flip.Given as goal

abbrev pub invariant-loop-place : goal.invariant-loop-place
invariant-loop-place l = l.word ≡ flip_all (take l.place-index l.places) l.initial.word
