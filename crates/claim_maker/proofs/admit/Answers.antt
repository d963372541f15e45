-- `claim_maker::admit` meets its contract: the tests of the polynomial, and those of the buffers behind them.
-- Assumes nothing.
use Rattle.claim_maker.proofs.Making.{admit-all}
use Rattle.claim_maker.proofs.admit.Goals as goal

pub returns : goal.returns
returns c =
    let s = c.args in
    admit-all s.m s.f.now s.roots s.mults s.h s.u s.v c.admit_room.result c.also-first.result c.also-second.result c.also-third.result c.admit_room.ensures c.also-first.ensures c.also-second.ensures c.also-third.ensures c.also.ensures
