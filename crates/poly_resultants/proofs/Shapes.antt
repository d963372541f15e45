-- Lengths and leading coefficients: the resultant has as many coefficients as f, and its highest is not 0.
--   length-combine, length_digits   as long as they were
--   length-halves     evens and odds are the whole;  length-odds  the half, rounded down
--   led-digits, led-add   what keeps the last element
--   length-mul        the length of a product
--   length-image      as long as f
-- Assumes nothing.
use mathlib.Core.Path.{◌≡◌, ◌∙◌, refl, ap}
use mathlib.Core.List.{List, [], ◌∷◌, map}
use Prim.Native.Nat.{suc, ◌+◌, ◌/◌, ◌<◌}
use native.Mathlib.Omega.{arith}
use lib.ListN.{length, length-map}
use Rattle.algebra.specs.Field.{Ops}
use Rattle.algebra.specs.Polynomial.{add, mul}
use Rattle.algebra.proofs.Lengths.{length-add, length-add-left}
use Rattle.poly_resultants.specs.Maps.{evens, odds, combine, digits, resultant, image, Led}
use Rattle.poly_resultants.proofs.Values.{evens-cons}

-- evens and odds are the whole
pub length-halves : {A : Type 0} (l : List A) → length (evens l) + length (odds l) ≡ length l
unfolding evens
length-halves [] = refl
length-halves (c ∷ l) = omega (arith, ap length (evens-cons c l), length-halves l)

-- half, rounded down
pub length-odds : {A : Type 0} (l : List A) → length (odds l) ≡ length l / 2
unfolding evens
length-odds [] = refl
length-odds (c ∷ []) = refl
length-odds (c ∷ d ∷ l) = ap length (evens-cons d l) ∙ omega (arith, length-odds l)

module _ {K : Type 0} (F : Ops K) where
  pub led-cons : (c : K) (l : List K) → Led F l → Led F (c ∷ l)
  led-cons c [] h = absurd h
  led-cons c (d ∷ l) h = h

  pub length-combine : (b : K) (l : List K) → length (combine F b l) ≡ length l
  unfolding combine
  length-combine b [] = refl
  length-combine b (c ∷ []) = refl
  length-combine b (c ∷ d ∷ l) = ap (λ n. suc (suc n)) (length-combine b l)

  pub length_digits : (b : K) (f : List K) → length (digits F b f) ≡ length f
  unfolding digits
  length_digits b [] = refl
  length_digits b (c ∷ f) = ap suc (length-combine b (digits F b f) ∙ length_digits b f)

  led-combine : (b : K) (l : List K) → Led F l → Led F (combine F b l)
  unfolding combine
  led-combine b [] h = h
  led-combine b (c ∷ []) h = h
  led-combine b (c ∷ d ∷ []) h = h
  led-combine b (c ∷ d ∷ e ∷ l) h = led-cons d (combine F b (e ∷ l)) (led-combine b (e ∷ l) h)

  pub led-digits : (b : K) (f : List K) → Led F f → Led F (digits F b f)
  unfolding digits combine
  led-digits b [] h = h
  led-digits b (c ∷ []) h = h
  led-digits b (c ∷ d ∷ f) h = led-cons c (combine F b (digits F b (d ∷ f))) (led-combine b (digits F b (d ∷ f)) (led-digits b (d ∷ f) h))

  pub led-add : (p r : List K) → length r < length p → Led F p → Led F (add F p r)
  unfolding add
  led-add [] r l h = absurd h
  led-add (c ∷ p) [] l h = h
  led-add (c ∷ []) (d ∷ r) l h = absurd (omega arith)
  led-add (c ∷ e ∷ p) (d ∷ r) l h = led-cons (F.add c d) (add F (e ∷ p) r) (led-add (e ∷ p) r (omega arith) h)

  pub length-mul : (p r : List K) → 0 < length p → 0 < length r → suc (length (mul F p r)) ≡ length p + length r
  unfolding mul
  length-mul [] r a h = absurd (omega arith)
  length-mul (c ∷ []) r a h =
      ap suc (length-add-left F (map (F.mul c) r) (F.zero ∷ []) (omega (arith, length-map r (F.mul c))) ∙ length-map r (F.mul c)) ∙ omega arith
  length-mul (c ∷ d ∷ p) r a h =
      let n : suc (length (mul F (d ∷ p) r)) ≡ length (d ∷ p) + length r = length-mul (d ∷ p) r (omega arith) h in
      ap suc (length-add F (map (F.mul c) r) (F.zero ∷ mul F (d ∷ p) r) (omega (arith, length-map r (F.mul c)))) ∙ omega arith

  -- the product is shorter than the digits by one
  pub shorter : (b : K) (g : List K) → 1 < length g → length (mul F (map (F.mul b) (evens g)) (odds g)) < length g
  shorter b g h =
      let s : length (evens g) + length (odds g) ≡ length g = length-halves g in
      let o : length (odds g) ≡ length g / 2 = length-odds g in
      let e : length (map (F.mul b) (evens g)) ≡ length (evens g) = length-map (evens g) (F.mul b) in
      omega (arith, length-mul (map (F.mul b) (evens g)) (odds g) (omega arith) (omega arith))

  pub length-resultant : (b : K) (g : List K) → 1 < length g → length (resultant F b g) ≡ length g
  unfolding resultant
  length-resultant b g h =
      let m : length (map (λ c. F.mul c c) g) ≡ length g = length-map g (λ c. F.mul c c) in
      length-add-left F (map (λ c. F.mul c c) g) (mul F (map (F.mul b) (evens g)) (odds g)) (omega (arith, shorter b g h)) ∙ m

  -- a square of what is not 0 is not 0: so the highest coefficient of the resultant is that of f, squared
  pub led-resultant : (b : K) (g : List K) → 1 < length g → Led F (map (λ c. F.mul c c) g) → Led F (resultant F b g)
  unfolding resultant
  led-resultant b g h l =
      let m : length (map (λ c. F.mul c c) g) ≡ length g = length-map g (λ c. F.mul c c) in
      led-add (map (λ c. F.mul c c) g) (mul F (map (F.mul b) (evens g)) (odds g)) (omega (arith, shorter b g h)) l

  pub length-image : (b : K) (f : List K) → 1 < length f → length (image F b f) ≡ length f
  length-image b f h = length-resultant b (digits F b f) (omega (arith, length_digits b f)) ∙ length_digits b f
