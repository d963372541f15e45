-- One map of the successive resultants, on lists of coefficients, constant first. With y = x^2 + b x a polynomial is
-- f(x) = A(y) + x B(y), and f(x) f(x + b) is a polynomial in y, the resultant.
--   quad b x        x^2 + b x
--   tower bs x      one such map after the other
--   combine b l     b times each element at an odd place is added to the one before it
--   digits b f      f by powers of x^2 + b x: the coefficients of A and B by turns
--   evens, odds     the elements at the even places, and those at the odd places
--   low b f         A;  high b f  B
--   resultant b g   A^2 + b A B + y B^2, from the digits g: A^2 + y B^2 is each digit squared
--   image b f       the resultant of f
--   Led             a list whose last element is not 0
-- Assumes nothing.
use Rattle.std.specs.Prelude.{◌≢◌, List, [], ◌∷◌, map, drop}
use Rattle.algebra.specs.Field.{Ops}
use Rattle.algebra.specs.Polynomial.{add, mul}

-- every other element, from the first on
unfoldable pub evens : {A : Type 0} → List A → List A
evens [] = []
evens (c ∷ []) = c ∷ []
evens (c ∷ d ∷ l) = c ∷ evens l

-- every other element, from the second on
abbrev pub odds : {A : Type 0} → List A → List A
odds l = evens (drop 1 l)

module _ {K : Type 0} (F : Ops K) where
  -- the map: what it takes to 0 is 0 and b
  abbrev pub quad : K → K → K
  quad b x = F.add (F.mul x x) (F.mul b x)

  -- the first map first
  unfoldable pub tower : List K → K → K
  tower [] x = x
  tower (b ∷ bs) x = tower bs (quad b x)

  -- pair by pair
  unfoldable pub combine : K → List K → List K
  combine b [] = []
  combine b (c ∷ []) = c ∷ []
  combine b (c ∷ d ∷ l) = F.add c (F.mul b d) ∷ d ∷ combine b l

  -- c + x (A + x B) = (c + y B) + x (A + b B)
  unfoldable pub digits : K → List K → List K
  digits b [] = []
  digits b (c ∷ f) = c ∷ combine b (digits b f)

  abbrev pub low : K → List K → List K
  low b f = evens (digits b f)

  abbrev pub high : K → List K → List K
  high b f = odds (digits b f)

  unfoldable pub resultant : K → List K → List K
  resultant b g = add F (map (λ c. F.mul c c) g) (mul F (map (F.mul b) (evens g)) (odds g))

  abbrev pub image : K → List K → List K
  image b f = resultant b (digits b f)

  -- the last element is not 0
  abbrev pub Led : List K → Type 0
  Led [] = ⊥
  Led (c ∷ []) = c ≢ F.zero
  Led (c ∷ d ∷ l) = Led (d ∷ l)
