-- `keep` lends what was kept: the room is as long as the file, and no more bytes and no more records are kept than the
-- file has bytes.
use native.Mathlib.Omega.{arith}
use mathlib.Core.Path.{refl, sym}
use lib.Seq.{length-take-le}
use Rattle.job_salvage.proofs.Contract.{says-kept, kept-says, few-kept, answer-adds}
use Rattle.salvage.proofs.keep.Goals as goal

pub unwrap-kept-requires : goal.unwrap-kept-requires
unwrap-kept-requires c = let k = says-kept c.args.file.now c.large_buffer-room.result _ (omega arith) c.salvage.ensures in rw k.0 refl

pub slice_bounds-room-end : goal.slice_bounds-room-end
slice_bounds-room-end c =
    let k = kept-says c.args.file.now c.large_buffer-room.result _ c.salvage.ensures c.unwrap-kept.ensures in omega (arith, answer-adds k, c.salvage.auto.room)

pub slice_bounds-write_kept-end : goal.slice_bounds-write_kept-end
slice_bounds-write_kept-end c =
    let k = kept-says c.args.file.now c.large_buffer-room.result _ c.salvage.ensures c.unwrap-kept.ensures in
    sym (length-take-le _ _ (omega (arith, answer-adds k, c.salvage.auto.room)))

pub overflow_cast-kept : goal.overflow_cast-kept
overflow_cast-kept c = omega (arith, few-kept (kept-says c.args.file.now c.large_buffer-room.result _ c.salvage.ensures c.unwrap-kept.ensures))
