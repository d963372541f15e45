-- The key equation of a binary code, solved by Berlekamp's shift register. From the power sums s_1, s_2, .. of unknown
-- locators X it finds the locator polynomial, the product of 1 + X z: a polynomial whose product with s has no odd
-- coefficient. A sequence s has s_0 = 1, so that the first turn is like the others, and the even power sums are
-- squares of earlier ones, so that a turn takes two. Laws and inner contracts alone cite it: what the corrector
-- promises does not rest on it.
--   Register          locator and spare polynomial, in a fixed number of coefficients; their degrees are at most low
--                     and high
--   conv p s k        the coefficient at k of the product of p and s
--   shift p           z^2 p, in as many coefficients as p
--   plus_times p d q   p + d q
--   mend d r          the register r mended by a discrepancy d
--   turn s m r        the register after the power sums s_(2m+1) and s_(2m+2)
--   register t s m    the register of t + 1 coefficients after the power sums s_1 to s_2m
--   from_locators X    the product of 1 + x z over the locators x
-- Assumes nothing.
use Rattle.std.specs.Prelude.{cond, List, [], ◌∷◌, map, ℕ, zero, suc, ◌*◌, length, take, replicate, ltb}
use Rattle.algebra.specs.Field.{Ops}
use Rattle.algebra.specs.Polynomial.{add, mul}

-- locator and spare polynomial, and bounds of their degrees
pub record Register (K : Type 0) : Type 0 where
  pub locator : List K
  pub spare : List K
  pub low : ℕ
  pub high : ℕ

module _ {K : Type 0} (F : Ops K) where
  -- the coefficient at k of the product of p and s
  unfoldable pub conv : List K → (ℕ → K) → ℕ → K
  conv [] s k = F.zero
  conv (c ∷ p) s zero = F.mul c (s 0)
  conv (c ∷ p) s (suc k) = F.add (F.mul c (s (suc k))) (conv p s k)

  -- z^2 p, in as many coefficients: the highest two are lost
  unfoldable pub shift : List K → List K
  shift p = take (length p) (F.zero ∷ F.zero ∷ p)

  -- p + d q
  unfoldable pub plus_times : List K → K → List K → List K
  plus_times p d q = add F p (map (F.mul d) q)

  -- what a nonzero discrepancy d does: the locator is mended by d times the spare; where that makes the register
  -- longer, the old locator is the new spare
  unfoldable pub mend : K → Register K → Register K
  mend d r = cond (ltb r.low r.high)
      (record {
        locator = plus_times r.locator d r.spare;
        spare = shift (map (F.mul (F.inv d)) r.locator);
        low = r.high;
        high = suc (suc r.low);
      })
      (record {
        locator = plus_times r.locator d r.spare;
        spare = shift r.spare;
        low = r.low;
        high = suc (suc r.high);
      })

  -- one turn, with d the discrepancy
  unfoldable pub turn : (ℕ → K) → ℕ → Register K → Register K
  turn s m r =
      let d : K = conv r.locator s (suc (2 * m)) in
      cond (F.is_zero d)
      (record { locator = r.locator; spare = shift r.spare; low = r.low; high = suc (suc r.high) }) (mend d r)

  -- the register of t + 1 coefficients after the power sums s_1 to s_2m: it begins with locator 1 and spare z
  unfoldable pub register : ℕ → (ℕ → K) → ℕ → Register K
  register t s zero = record {
    locator = F.one ∷ replicate t F.zero;
    spare = take (suc t) (F.zero ∷ F.one ∷ replicate t F.zero);
    low = 0;
    high = 1;
  }
  register t s (suc m) = turn s m (register t s m)

  -- the product of 1 + x z over a list of locators x
  unfoldable pub from_locators : List K → List K
  from_locators [] = F.one ∷ []
  from_locators (x ∷ s) = mul F (F.one ∷ x ∷ []) (from_locators s)
