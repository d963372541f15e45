-- What the test of the roots' order says.
--   ascends-exactly   the test holds exactly where each number is below all behind it
-- Assumes nothing.
use mathlib.Core.Path.{◌≡◌, refl}
use mathlib.Core.Bool.{Bool, true, false, ◌&&◌, true≢false}
use mathlib.Core.Logic.{◌↔◌}
use mathlib.Core.List.{List, [], ◌∷◌}
use Prim.Native.Nat.{ℕ, ◌<◌}
use native.Mathlib.Omega.{arith}
use borrow.Author.Tests.{ltb-true, lt-ltb}
use lib.Dec.{ltb}
use Rattle.algebra.specs.Trial.{All, Ascending}
use Rattle.job_writer.specs.Calls.{ascends}

-- both of two tests
both : (a b : Bool) → (a && b) ≡ true → (a ≡ true) × (b ≡ true)
both true b e = (refl, e)
both false b e = absurd (true≢false (cc))

-- what is above y is above x where x is below y
above : {x y : ℕ} (s : List ℕ) → x < y → All (λ z. y < z) s → All (λ z. x < z) s
above [] h a = tt
above (z ∷ s) h a = let l = a.0 in (omega arith, above s h a.1)

-- the test, from the order
tested : (s : List ℕ) → Ascending s → ascends s ≡ true
unfolding ascends
tested [] h = refl
tested (x ∷ []) h = refl
tested (x ∷ y ∷ s) h = rw (lt-ltb x y h.0.0) (tested (y ∷ s) h.1)

-- the order, from the test
ordered : (s : List ℕ) → ascends s ≡ true → Ascending s
unfolding ascends
ordered [] e = tt
ordered (x ∷ []) e = (tt, tt)
ordered (x ∷ y ∷ s) e =
    let b = both (ltb x y) (ascends (y ∷ s)) e in
    let l = ltb-true x y b.0 in
    let r = ordered (y ∷ s) b.1 in
    ((l, above s l r.0), r)

pub ascends-exactly : (s : List ℕ) → (ascends s ≡ true) ↔ Ascending s
ascends-exactly s = (ordered s, tested s)
