-- The routines on polynomials that the code follows. A monic polynomial of degree d is held as the list p of its d
-- coefficients below the leading 1.
--   monic          the polynomial that p holds
--   quotient_digit  one step of a division by monic p: what falls out at the top of the remainder r where the next
--                  coefficient c is shifted in
--   shift_in        the remainder after that step: the digit is taken back by a multiple of p
--   rem            the remainder of f by monic p, as long as p
--   quo            the quotient of f by monic p
--   square         f^2, by squaring each coefficient: c0^2 + c1^2 z^2 + ..
--   frobenius_mod   w^(2^j) modulo monic p, each square reduced
--   trace_mod       w + w^2 + w^4 + .. , j terms, modulo monic p, each square reduced
--   norm           the first k coefficients of r, made monic and so held; none where they are all 0
--   cofactor       what is left of monic p where monic g, which divides it, is taken out
--   monic_roots     the product of z + r over a list of roots r, so held
--   euclid         the monic greatest common divisor of monic p and f, in at most n divisions
--   gcd            the same, in as many divisions as it takes
-- Assumes nothing.
use Rattle.std.specs.Prelude.{cond, List, [], ◌∷◌, ◌++◌, map, get_or, length, take, replicate}
use Rattle.std.proofs.Math.Option.{Option, none, some, Option-elim}
use Prim.Native.Nat.{ℕ, zero, suc, ◌-◌}
use Rattle.algebra.specs.Field.{Ops}
use Rattle.algebra.specs.Polynomial.{add, from_roots}

module _ {K : Type 0} (F : Ops K) where
  abbrev pub monic : List K → List K
  monic p = p ++ F.one ∷ []

  unfoldable pub quotient_digit : List K → K → List K → K
  quotient_digit p c r = get_or (c ∷ r) (length p) F.zero

  unfoldable pub shift_in : List K → K → List K → List K
  shift_in p c r = add F (take (length p) (c ∷ r)) (map (F.mul (quotient_digit p c r)) p)

  unfoldable pub rem : List K → List K → List K
  rem p [] = replicate (length p) F.zero
  rem p (c ∷ f) = shift_in p c (rem p f)

  unfoldable pub quo : List K → List K → List K
  quo p [] = []
  quo p (c ∷ f) = quotient_digit p c (rem p f) ∷ quo p f

  unfoldable pub square : List K → List K
  square [] = []
  square (c ∷ f) = F.mul c c ∷ F.zero ∷ square f

  unfoldable pub frobenius_mod : List K → ℕ → List K → List K
  frobenius_mod p zero w = w
  frobenius_mod p (suc j) w = frobenius_mod p j (rem p (square w))

  unfoldable pub trace_mod : List K → ℕ → List K → List K
  trace_mod p zero w = []
  trace_mod p (suc j) w = add F w (trace_mod p j (rem p (square w)))

  unfoldable pub norm : ℕ → List K → Option (List K)
  norm zero r = none
  norm (suc k) r =
      cond (F.is_zero (get_or r k F.zero)) (norm k r) (some (map (F.mul (F.inv (get_or r k F.zero))) (take k r)))

  unfoldable pub cofactor : List K → List K → List K
  cofactor p g = take (length p - length g) (quo g (monic p))

  unfoldable pub monic_roots : List K → List K
  monic_roots s = take (length s) (from_roots F s)

  unfoldable pub euclid : ℕ → List K → List K → List K
  unfolding Option-elim
  euclid zero p f = p
  euclid (suc n) p f = Option-elim (norm (length p) (rem p f)) p (λ r. euclid n r (monic p))

  unfoldable pub gcd : List K → List K → List K
  gcd p f = euclid (length p) p f
