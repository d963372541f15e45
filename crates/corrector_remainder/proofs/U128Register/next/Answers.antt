-- `corrector_remainder::Register::next` of u128 meets its contract: the tables bring back what leaves.
-- Assumes nothing.
use Prim.Native.Nat.{◌+◌, ◌*◌, ◌/◌, ◌%◌}
use native.Mathlib.Omega.{arith}
use Rattle.corrector_generator.specs.Generators.{generator_at}
use Rattle.corrector_remainder.proofs.Dividing.{next-is}
use Rattle.corrector_remainder.proofs.U128Register.next.Goals as goal

pub returns : goal.returns
returns c =
    let x = c.args.self in
    next-is (generator_at 8) (x / 72057594037927936) (x % 72057594037927936 * 4294967296 + c.from.result) x c.args.b
    (omega (arith, c.requires, c.from.ensures, c.ranges.b.fits))
    (omega (arith, c.from.ensures)) c.back-back.ensures
