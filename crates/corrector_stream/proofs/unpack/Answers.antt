-- `corrector_stream::unpack` meets its contract.
-- Assumes nothing.
use mathlib.Core.Path.{refl}
use Rattle.refusals.proofs.Admitting.{passed-on}
use Rattle.corrector.proofs.Contract.{found-codeword}
use Rattle.corrector_stream.specs.Calls.Unpacks.{no_room, refused}
use Rattle.corrector_stream.proofs.Holding.{cramped, roomy, unpacked}
use Rattle.corrector_stream.proofs.unpack.Goals as goal

pub returns-then-room-unwrap_or : goal.returns-then-room-unwrap_or
returns-then-room-unwrap_or c =
    let h = cramped c.capacity.ensures (rw (← c.unwrap_or.ensures) c.if-room-unwrap_or.true) in no_room h.0 h.1

pub returns-in_err-flips : goal.returns-in_err-flips
returns-in_err-flips c =
    let o = roomy c.args.room.now c.capacity.ensures (rw (← c.unwrap_or.ensures) c.if-room-unwrap_or.false) in
    rw (passed-on _ c.from_residual.ensures.1) (refused o c.in_err-flips.ensures)

pub take_out-held-requires : goal.take_out-held-requires
take_out-held-requires c =
    let o = roomy c.args.room.now c.capacity.ensures (rw (← c.unwrap_or.ensures) c.if-room-unwrap_or.false) in
    let b = found-codeword c.in_ok-flips.ensures refl in
    (b.1, b.0, o b.1)

pub returns : goal.returns
returns c =
    let o = roomy c.args.room.now c.capacity.ensures (rw (← c.unwrap_or.ensures) c.if-room-unwrap_or.false) in
    unpacked o c.in_ok-flips.ensures c.take_out-held.ensures
