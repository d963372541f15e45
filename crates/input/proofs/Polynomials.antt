-- Which polynomials are accepted, and what is known of them.
--   polynomial-told             what a polynomial that passed the five tests is
--   nonzero-place               it has a coefficient that is not 0
--   roots-shorter, roots_few    it has fewer roots than coefficients, and no more than the limit
--   passed-more                 where the five pass, the tests that follow decide: by a pass
--   passed_first, passed-rest   and where all pass, the five and those that follow do
-- Assumes nothing.
use mathlib.Core.Path.{◌≡◌, refl}
use mathlib.Core.Logic.{◌≢◌}
use mathlib.Core.Bool.{Bool, true, false, ◌&&◌}
use mathlib.Core.Option.{Option, none, some}
use mathlib.Core.List.{List, [], ◌∷◌}
use Prim.Native.Nat.{ℕ, suc, ◌≤◌, ◌<◌, ◌^◌}
use native.Mathlib.Omega.{arith}
use borrow.Author.Tests.{eqb-false, ltb-false, not-false}
use lib.Dec.{ltb}
use lib.ListN.{length, get_or}
use Rattle.algebra.specs.Field.{OnNumbers}
use Rattle.algebra.specs.Routines.{norm}
use Rattle.algebra.proofs.NumberMonic.{norm-made, norm-none}
use Rattle.algebra.proofs.RootList.{roots_of-degree}
use Rattle.slices.specs.Bounded.{all_below, all_zero}
use Rattle.slices.proofs.Bounded.{all_below-exactly}
use Rattle.refusals.specs.Order.{Passed}
use Rattle.refusals.specs.Order.Passed.{none as none_left}
use Rattle.field.specs.Rows.{known}
use Rattle.refusals.proofs.Order.{passes, failed, others, passed-both}
use Rattle.field.specs.Field.{roots_at, G}
use Rattle.input.specs.Limit.{limit}
use Rattle.input.specs.Polynomials.{polynomial_tests, PolynomialIn}
use Rattle.input.proofs.Fields.{known-field}

-- whatever tests follow
pub polynomial-told : (m : ℕ) (cs : List ℕ) {us : List (ℕ × Bool)} → Passed (polynomial_tests m cs us) → PolynomialIn m cs
polynomial-told m cs p =
    let second = others p in
    let third = others second in
    let fourth = others third in
    record {
      field = not-false (known m) (failed p);
      some = let n = eqb-false (length cs) 0 (failed second) in omega arith;
      few = ltb-false (suc limit) (length cs) (failed third);
      small = (all_below-exactly (2 ^ m) cs).0 (not-false (all_below (2 ^ m) cs) (failed fourth));
      nonzero = failed (others fourth);
    }

-- it has a coefficient that is not 0
pub nonzero-place : {m : ℕ} {f : List ℕ} → PolynomialIn m f → (j : ℕ) × (get_or f j 0 ≢ 0)
unfolding all_below
nonzero-place {m} {f} t = go f t.nonzero
  where
    go : (l : List ℕ) → all_zero l ≡ false → (j : ℕ) × (get_or l j 0 ≢ 0)
    go [] e = let x : ◌≡◌ {A = ℕ} 0 1 = cc in absurd (omega arith)
    go (x ∷ l) e = at (ltb x 1) refl e (go l)
      where
        at : (b : Bool) → ltb x 1 ≡ b → (b && all_below 1 l) ≡ false → (all_below 1 l ≡ false → (j : ℕ) × (get_or l j 0 ≢ 0)) → (j : ℕ) × (get_or (x ∷ l) j 0 ≢ 0)
        at true t f rec = let r = rec f in (suc r.0, r.1)
        at false t f rec = (0, λ z. omega (arith, ltb-false x 1 t))

-- fewer than coefficients
pub roots-shorter : {m : ℕ} {f : List ℕ} → PolynomialIn m f → length (roots_at m f) < length f
roots-shorter {m} {f} t = go (norm (G m) (length f) f) refl
  where
    N : OnNumbers (G m) (2 ^ m)
    N = (known-field m t.field).numbers

    go : (o : Option (List ℕ)) → norm (G m) (length f) f ≡ o → length (roots_at m f) < length f
    go none e = let z = nonzero-place t in absurd (z.1 (norm-none N f t.small e z.0))
    go (some s) e = omega (arith, roots_of-degree N f t.small e, (norm-made N f t.small e).shorter)

-- no more than the limit
pub roots_few : {m : ℕ} {f : List ℕ} → PolynomialIn m f → length (roots_at m f) ≤ limit
roots_few t = omega (arith, roots-shorter t, t.few)

-- ---- further tests behind the five

-- where the five pass, what follows decides: by a pass
pub passed-more : (m : ℕ) (cs : List ℕ) {us : List (ℕ × Bool)} → Passed (polynomial_tests m cs []) → Passed us → Passed (polynomial_tests m cs us)
passed-more m cs p q = passed-both p q

-- what the tests of a polynomial with others behind them say: the five pass, and so do the others
pub passed_first : (m : ℕ) (cs : List ℕ) {us : List (ℕ × Bool)} → Passed (polynomial_tests m cs us) → Passed (polynomial_tests m cs [])
passed_first m cs p =
    let q = others p in
    let r = others q in
    let s = others r in
    passes (failed p) (passes (failed q) (passes (failed r) (passes (failed s) (passes (failed (others s)) none_left))))

pub passed-rest : (m : ℕ) (cs : List ℕ) {us : List (ℕ × Bool)} → Passed (polynomial_tests m cs us) → Passed us
passed-rest m cs p = others (others (others (others (others p))))
