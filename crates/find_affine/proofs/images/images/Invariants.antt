-- `find_affine::images::images` meets its contract: the terms at the first j powers of two stand.
-- Assumes nothing.
use Prim.Native.Nat.{ℕ, ◌^◌}
use Rattle.find_affine.specs.Affine.{terms_at}
use Rattle.find_affine.proofs.RowLoops.{Filling}
use Rattle.find_affine.proofs.images.images.Given as goal

abbrev pub invariant-loop-j : goal.invariant-loop-j
invariant-loop-j l = Filling (λ (i : ℕ). terms_at l.m l.coeffs (2 ^ i)) l.out l.j
