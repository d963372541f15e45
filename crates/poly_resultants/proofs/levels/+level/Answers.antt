-- The proof of the cycle of calls {level}.
-- Assumes nothing.
use mathlib.Core.Path.{subst}
use native.Mathlib.Omega.{arith}
use lib.ListN.{length, take, drop}
use Prim.Native.Nat.{◌-◌, ◌<◌}
use Rattle.poly_resultants.proofs.Climbing.{back-front, level-climbs, level-falls, level-descends, level-end, low-long, high-long}
use Rattle.poly_resultants.proofs.levels.+level.Goals as goal

pub level-k-requires : goal.level-k-requires
level-k-requires t c = (
  subst (λ j. length (take (length c.args.chain.now - 1) (drop 1 c.args.chain.now)) < j) c.decreases (level-falls c.args.tables.now.lent c.requires (λ z. omega arith) c.map_once.ensures),
  level-climbs c.args.tables.now.lent c.requires (λ z. omega arith) c.map_once.ensures (omega arith),
)

pub descend-requires : goal.descend-requires
descend-requires t c =
    level-descends c.args.tables.now.lent c.requires (λ z. omega arith) c.map_once.ensures (back-front _ _ (low-long c.args.tables.now.lent c.requires (λ z. omega arith) c.map_once.ensures))
    (back-front _ _ (high-long c.args.tables.now.lent c.requires (λ z. omega arith) c.map_once.ensures)) c.level-k.ensures

pub returns : goal.returns
returns t c =
    level-end c.args.tables.now.lent c.requires (λ z. omega arith) c.map_once.ensures (back-front _ _ (low-long c.args.tables.now.lent c.requires (λ z. omega arith) c.map_once.ensures))
    (back-front _ _ (high-long c.args.tables.now.lent c.requires (λ z. omega arith) c.map_once.ensures)) c.level-k.ensures c.descend.ensures
