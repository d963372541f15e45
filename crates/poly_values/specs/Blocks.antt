-- Any number of coefficients: blocks of 2^k coefficients in the basis one behind the other, each block times one more
-- power of the vanishing map, and one more coefficient behind the blocks.
--   whole_of    the value at z of n blocks and one more
--   next_of     z times n blocks, with a carry into the first; what falls out of the last is the one more
--   power_in    z^j in n blocks and one more
--   ColumnsOf  each list stands for z times what the one before it stands for
--   mix        the sum of the columns, each times its coefficient of f
--   coset_of    the blocks brought together for the coset of c, by Horner's rule in the value of the vanishing map
--              there
-- Nobody has to believe this file: it serves the inner contracts of this crate. What others cite is `Values` in
-- Tables.
-- Assumes nothing.
use Rattle.std.specs.Prelude.{◌≡◌, get_or, take, drop}
use mathlib.Core.List.{List, [], ◌∷◌, ◌++◌}
use Prim.Native.Nat.{ℕ, zero, suc, ◌*◌, ◌^◌}
use Rattle.std.proofs.Math.ListN.{length, replicate}
use Rattle.algebra.specs.Field.{Ops}
use Rattle.algebra.specs.Polynomial.{add}
use Rattle.poly_values.specs.Transform.{scaled, value}
use Rattle.poly_values.specs.Basis.{Step, vanishing, levels, raised_in}

module _ {K : Type 0} (F : Ops K) where
  unfoldable pub whole_of : List (Step K) → ℕ → List K → K → K
  whole_of S zero a z = get_or a 0 F.zero
  whole_of S (suc n) a z =
      F.add (value F (levels F S) (take (2 ^ length S) a) z)
      (F.mul (vanishing F S z) (whole_of S n (drop (2 ^ length S) a) z))

  unfoldable pub next_of : List (Step K) → ℕ → K → List K → List K
  unfolding add raised_in
  next_of S zero c a = c ∷ []
  next_of S (suc n) c a =
      add F (raised_in F S (take (2 ^ length S) a)).0 (c ∷ [])
      ++ next_of S n (raised_in F S (take (2 ^ length S) a)).1 (drop (2 ^ length S) a)

  unfoldable pub power_in : List (Step K) → ℕ → ℕ → List K
  unfolding next_of
  power_in S n zero = F.one ∷ replicate (n * 2 ^ length S) F.zero
  power_in S n (suc j) = next_of S n F.zero (power_in S n j)

  -- nothing may stand behind the blocks of a list that is raised
  abbrev pub ColumnsOf : List (Step K) → ℕ → List K → List (List K) → Type 0
  ColumnsOf S n a [] = Unit {0}
  ColumnsOf S n a (b ∷ bs) = (get_or a (n * 2 ^ length S) F.zero ≡ F.zero) × (next_of S n F.zero a ≡ b) × ColumnsOf S n b bs

  unfoldable pub mix : List K → List (List K) → List K
  mix [] columns = []
  mix (c ∷ f) [] = []
  mix (c ∷ f) (a ∷ columns) = add F (scaled F c a) (mix f columns)

  unfoldable pub coset_of : List (Step K) → ℕ → List K → K → List K
  coset_of S zero a c = get_or a 0 F.zero ∷ []
  coset_of S (suc n) a c =
      add F (take (2 ^ length S) a) (scaled F (vanishing F S c) (coset_of S n (drop (2 ^ length S) a) c))
