-- The data of each word that was taken are 255 bytes at most, so that those of all fit the room.
use Rattle.std.proofs.Common.{◌*◌, ◌≤◌}
use Rattle.blocks.proofs.correcting.take_words.Given as goal

abbrev pub invariant-loop-k : goal.invariant-loop-k
invariant-loop-k l = l.done ≤ 255 * l.k
