-- Polynomials over a field of characteristic 2, as lists of coefficients, constant first. Zeros at the top are
-- allowed: two lists are the same polynomial where they have the same coefficient at every place. All is stated over
-- the field's operations, for numbers and for elements alike.
--   coef           the coefficient at each place: 0 past the end
--   eval           the value at x
--   is_root         is f 0 at x?
--   add            the sum
--   mul            the product: (c + z p) r = c r + z (p r)
--   linear         z + r
--   from_roots      the product of z + r over a list of roots r
--   frobenius      f ^ (2 ^ j), by j squarings
--   trace_poly      f + f^2 + f^4 + .. , j terms
--   field_poly      z^(2^m) + z
--   trace_of        Tr(b z) where the field has 2^m elements
--   Divides        d divides the polynomial with the coefficients f
--   IsGcd          g is a greatest common divisor of p and t: what divides g is what divides both
--   Below          all numbers of a list are below q
--   roots_of        the numbers below q at which f is 0, ascending
--   DividesBelow   d divides f, and the quotient is a list of numbers below q
--   IsGcdBelow     g is a greatest common divisor of p and t among lists of numbers below q
--   CombinesBelow  p u + t w = f for lists u and w of numbers below q
-- Assumes nothing.
use Rattle.std.specs.Prelude.{◌≡◌, ◌↔◌, Bool, List, [], ◌∷◌, map, ℕ, zero, suc, ◌<◌, get_or}
use Rattle.algebra.specs.Field.{Ops}
use Rattle.algebra.specs.Trial.{up_from, keep, All}

module _ {K : Type 0} (F : Ops K) where
  abbrev pub coef : List K → ℕ → K
  coef p k = get_or p k F.zero

  unfoldable pub eval : List K → K → K
  eval [] x = F.zero
  eval (c ∷ p) x = F.add c (F.mul x (eval p x))

  abbrev pub is_root : List K → K → Bool
  is_root f x = F.is_zero (eval f x)

  unfoldable pub add : List K → List K → List K
  add [] r = r
  add (c ∷ p) [] = c ∷ p
  add (c ∷ p) (d ∷ r) = F.add c d ∷ add p r

  unfoldable pub mul : List K → List K → List K
  mul [] r = []
  mul (c ∷ p) r = add (map (F.mul c) r) (F.zero ∷ mul p r)

  abbrev pub linear : K → List K
  linear r = r ∷ F.one ∷ []

  unfoldable pub from_roots : List K → List K
  from_roots [] = F.one ∷ []
  from_roots (r ∷ s) = mul (linear r) (from_roots s)

  unfoldable pub frobenius : ℕ → List K → List K
  frobenius zero f = f
  frobenius (suc j) f = frobenius j (mul f f)

  unfoldable pub trace_poly : ℕ → List K → List K
  trace_poly zero f = []
  trace_poly (suc j) f = add f (trace_poly j (mul f f))

  abbrev pub field_poly : ℕ → List K
  field_poly m = add (frobenius m (linear F.zero)) (linear F.zero)

  abbrev pub trace_of : ℕ → K → List K
  trace_of m b = trace_poly m (F.zero ∷ b ∷ [])

pub record Divides {K : Type 0} (F : Ops K) (d : List K) (f : ℕ → K) : Type 0 where
  pub quotient : List K
  pub exact : coef F (mul F d quotient) ≡ f

abbrev pub IsGcd : {K : Type 0} (F : Ops K) → (ℕ → K) → (ℕ → K) → (ℕ → K) → Type 0
IsGcd {K} F p t g = (d : List K) → Divides F d g ↔ (Divides F d p × Divides F d t)

-- ---- of numbers below q

abbrev pub Below : ℕ → List ℕ → Type 0
Below q p = All (λ c. c < q) p

unfoldable pub roots_of : Ops ℕ → ℕ → List ℕ → List ℕ
roots_of G q f = keep (is_root G f) (up_from 0 q)

pub record DividesBelow (G : Ops ℕ) (q : ℕ) (d f : List ℕ) : Type 0 where
  pub quotient : List ℕ
  pub small : Below q quotient
  pub exact : coef G (mul G d quotient) ≡ coef G f

abbrev pub IsGcdBelow : (G : Ops ℕ) (q : ℕ) → List ℕ → List ℕ → List ℕ → Type 0
IsGcdBelow G q p t g = (d : List ℕ) → Below q d → DividesBelow G q d g ↔ (DividesBelow G q d p × DividesBelow G q d t)

pub record CombinesBelow (G : Ops ℕ) (q : ℕ) (p t f : List ℕ) : Type 0 where
  pub left : List ℕ
  pub right : List ℕ
  pub left-small : Below q left
  pub right-small : Below q right
  pub sum : coef G (add G (mul G p left) (mul G t right)) ≡ coef G f
