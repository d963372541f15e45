-- The cutoff in force, over the house default.
--   in_force-house                cutoff 0 stands for the house default
--   in_force-stated               a cutoff that is not 0 is in force as it is
--   in_force-least, in_force-most  the cutoff in force is 1 to 3
--   in_force-rises                under a higher house default it is higher, or the same
-- Assumes nothing.
use mathlib.Core.Path.{◌≡◌, refl, sym}
use mathlib.Core.Logic.{◌≢◌}
use mathlib.Core.Bool.{Bool, true, false, cond}
use Prim.Native.Nat.{ℕ, ◌≤◌}
use native.Mathlib.Omega.{arith}
use borrow.Author.Tests.{eq-eqb, eqb-false, ne_eqb}
use lib.Dec.{eqb}
use Rattle.input.specs.Cutoff.{highest_cutoff, house_default, in_force_by, in_force}

-- cutoff 0
pub in_force-house : (c : ℕ) → c ≡ 0 → house_default ≡ in_force c
unfolding in_force_by
in_force-house c e = rw (eq-eqb c 0 e)

-- a stated cutoff
pub in_force-stated : (d c : ℕ) → c ≢ 0 → in_force_by d c ≡ c
unfolding in_force_by
in_force-stated d c n = rw (ne_eqb c 0 n)

-- never 0
pub in_force-least : (d c : ℕ) → 1 ≤ d → 1 ≤ in_force_by d c
unfolding in_force_by
in_force-least d c h = go (eqb c 0) refl
  where
    go : (b : Bool) → eqb c 0 ≡ b → 1 ≤ cond b d c
    go true e = h
    go false e = lib.Arith.lt_of_le-ne (omega arith) (λ z. eqb-false c 0 e (sym z))

-- at most 3
pub in_force-most : (d c : ℕ) → d ≤ highest_cutoff → c ≤ highest_cutoff → in_force_by d c ≤ highest_cutoff
unfolding in_force_by
in_force-most d c h k = go (eqb c 0)
  where
    go : (b : Bool) → cond b d c ≤ highest_cutoff
    go true = h
    go false = k

-- a higher default is a higher cutoff in force, or the same
pub in_force-rises : (d e c : ℕ) → d ≤ e → in_force_by d c ≤ in_force_by e c
unfolding in_force_by
in_force-rises d e c h = go (eqb c 0)
  where
    go : (b : Bool) → cond b d c ≤ cond b e c
    go true = h
    go false = omega arith
