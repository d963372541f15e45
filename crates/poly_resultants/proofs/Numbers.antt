-- The same of the numbers of a known field: the roots of f above a root y of the resultant.
--   few-roots       a polynomial with a leading coefficient has fewer roots than coefficients
--   quotient-quad, quotient-zero, quotient-only   where B(y) is not 0, A(y) / B(y) is the one root above y
--   zero-low        where B(y) is 0, so is A(y)
--   image-below, led-image   the resultant is a polynomial with a leading coefficient
-- Assumes nothing.
use mathlib.Core.Path.{◌≡◌, ◌∙◌, refl, sym, ap, subst}
use mathlib.Core.Logic.{◌≢◌, ⊎_elim}
use mathlib.Core.Bool.{true}
use mathlib.Core.List.{List, [], ◌∷◌, map}
use Prim.Native.Nat.{ℕ, zero, suc, ◌^◌, ◌≤◌, ◌<◌}
use native.Mathlib.Nat.{pos_of_ne-zero}
use native.Mathlib.Omega.{arith}
use lib.Bits.{bit_xor, xor_lt, xor_self}
use lib.ListN.{length, get_or, length-map}
use Rattle.algebra.specs.Field.{Ops, OnNumbers}
use Rattle.algebra.specs.Trial.{All, Distinct}
use Rattle.algebra.specs.Polynomial.{eval, Below, coef}
use Rattle.algebra.proofs.Degree.{Top}
use Rattle.algebra.proofs.Factors.{roots-at-most}
use Rattle.algebra.proofs.Crossing.{Elem, elems, elem-equal, laws, low as lowered, lift, low-lift, low-eval, distinct-low}
use Rattle.algebra.proofs.StaysBelow.{add-below, mul-below, scale-below}
use Rattle.algebra.proofs.Trial.{all_map}
use Rattle.field.specs.Rows.{known}
use Rattle.field.specs.Field.{field_at, G, mul, inverse}
use Rattle.field.proofs.Known.{listed}
use Rattle.field.proofs.Generator.{Generated, generated, mul-inverse, zero-product}
use Rattle.field.proofs.Ring.{ring}
use Rattle.field.proofs.Xor.{xor-equal}
use Rattle.field.proofs.Instance.{known-numbers}
use Rattle.poly_resultants.specs.Maps.{evens, odds, quad, combine, digits, resultant, image, Led}
use Rattle.poly_resultants.proofs.Ring.{Ring, known-ring}
use Rattle.poly_resultants.proofs.Values.{norm-of}
use Rattle.poly_resultants.proofs.Shapes.{length_digits, led-digits, led-resultant}

-- the coefficient at the top of a list with a leading one, and 0 above it
led-at : {K : Type 0} (F : Ops K) (c : K) (f : List K) → Led F (c ∷ f) → get_or (c ∷ f) (length f) F.zero ≢ F.zero
led-at F c [] h = h
led-at F c (d ∷ f) h = led-at F d f h

past_end : {K : Type 0} (o : K) (f : List K) (k : ℕ) → length f ≤ k → get_or f k o ≡ o
past_end o [] k h = refl
past_end o (c ∷ f) zero h = absurd (omega arith)
past_end o (c ∷ f) (suc k) h = past_end o f k (omega arith)

module _ (m : ℕ) (k : known m ≡ true) where
  abbrev q : ℕ
  q = 2 ^ m

  abbrev R : Ring (G m)
  R = known-ring m k

  abbrev pub N : OnNumbers (G m) q
  N = known-numbers (listed m k)

  gen : Generated (field_at m)
  gen = generated (listed m k)

  -- ---- how many roots

  led-up : (u : List (Elem q)) → Led (G m) (lowered N u) → Led (elems N) u
  led-up [] h = h
  led-up (c ∷ []) h = λ e. h (ap (λ x. x.0) e)
  led-up (c ∷ d ∷ u) h = led-up (d ∷ u) h

  all_up : (u s : List (Elem q)) → All (λ x. (x < q) × (eval (G m) (lowered N u) x ≡ 0)) (lowered N s) → All (λ r. eval (elems N) u r ≡ (elems N).zero) s
  all_up u [] h = tt
  all_up u (x ∷ s) h = (elem-equal (low-eval N u x ∙ h.0.1), all_up u s h.1)

  few-up : (u s : List (Elem q)) → Led (G m) (lowered N u) → Distinct (lowered N s)
      → All (λ x. (x < q) × (eval (G m) (lowered N u) x ≡ 0)) (lowered N s) → length s < length u
  few-up [] s l d a = absurd l
  few-up (c ∷ u) s l d a =
      let t : Top (elems N) (coef (elems N) (c ∷ u)) (length u) (get_or (c ∷ u) (length u) (elems N).zero) =
      record { at = refl; above = λ j h. past_end (elems N).zero (c ∷ u) j (omega arith) } in
      let n : length s ≤ length u =
      roots-at-most (laws N) s (c ∷ u) (distinct-low N s d) (all_up (c ∷ u) s a) t (led-at (elems N) c u (led-up (c ∷ u) l)) in
      omega arith

  below-roots : (P : ℕ → Type 0) (xs : List ℕ) → All (λ x. (x < q) × P x) xs → Below q xs
  below-roots P xs h = all_map (λ x e. e.0) xs h

  pub few-roots : (f xs : List ℕ) → Below q f → Led (G m) f → Distinct xs
      → All (λ x. (x < q) × (eval (G m) f x ≡ 0)) xs → length xs < length f
  few-roots f xs hf l d a =
      let hx : Below q xs = below-roots (λ x. eval (G m) f x ≡ 0) xs a in
      let u : List (Elem q) = lift N f hf in
      let s : List (Elem q) = lift N xs hx in
      let eu : lowered N u ≡ f = low-lift N f hf in
      let es : lowered N s ≡ xs = low-lift N xs hx in
      let h : length s < length u =
      few-up u s (subst (Led (G m)) (sym eu) l) (subst Distinct (sym es) d)
      (subst (λ g. All (λ x. (x < q) × (eval (G m) g x ≡ 0)) (lowered N s)) (sym eu)
      (subst (All (λ x. (x < q) × (eval (G m) f x ≡ 0))) (sym es) a)) in
      omega (arith, length-map u (λ x. x.0), length-map s (λ x. x.0), ap length eu, ap length es)

  -- ---- the roots above y

  open ring (field_at m) gen.monic use {mul_comm, mul_assoc, mul-one-l, mul-xor-l, mul-lt, mul-zero-r}

  pub nonzero : (x : ℕ) → x ≢ 0 → 0 < x
  nonzero x h = pos_of_ne-zero h

  -- B x = A for x = A / B
  quotient-back : (v w : ℕ) → v < q → w < q → w ≢ 0 → v ≡ mul (field_at m) (mul (field_at m) (inverse (field_at m) w) v) w
  quotient-back v w hv hw n =
      sym (mul_comm (mul (field_at m) (inverse (field_at m) w) v) w
      ∙ sym (mul_assoc w (inverse (field_at m) w) v)
      ∙ ap (λ t. mul (field_at m) t v) (mul-inverse (field_at m) gen w (nonzero w n) hw)
      ∙ mul-one-l v hv)

  zero_right : (x y : ℕ) → x < q → y < q → x ≢ 0 → mul (field_at m) x y ≡ 0 → y ≡ 0
  zero_right x y hx hy n e = ⊎_elim (λ z. absurd (n z)) (λ z. z) (zero-product (field_at m) gen x y hx hy e)

  pub quad-lt : (b x : ℕ) → quad (G m) b x < q
  quad-lt b x = xor_lt m (mul (field_at m) x x) (mul (field_at m) b x) (mul-lt x x) (mul-lt b x)

  -- x = A / B lies above y
  pub quotient-quad : (b y v w : ℕ) → y < q → v < q → w < q → w ≢ 0
      → bit_xor (bit_xor (mul (field_at m) v v) (mul (field_at m) y (mul (field_at m) w w))) (mul (field_at m) b (mul (field_at m) v w)) ≡ 0
      → quad (G m) b (mul (field_at m) (inverse (field_at m) w) v) ≡ y
  quotient-quad b y v w hy hv hw n e =
      let x : ℕ = mul (field_at m) (inverse (field_at m) w) v in
      let s : bit_xor (quad (G m) b x) y < q = xor_lt m (quad (G m) b x) y (quad-lt b x) hy in
      xor-equal (zero_right w (bit_xor (quad (G m) b x) y) hw s n
      (zero_right w (mul (field_at m) w (bit_xor (quad (G m) b x) y)) hw (mul-lt w (bit_xor (quad (G m) b x) y)) n
      (sym (norm-of R b x y v w (quotient-back v w hv hw n)) ∙ e)))

  -- and f is 0 there
  pub quotient-zero : (v w : ℕ) → v < q → w < q → w ≢ 0
      → bit_xor v (mul (field_at m) (mul (field_at m) (inverse (field_at m) w) v) w) ≡ 0
  quotient-zero v w hv hw n = ap (bit_xor v) (sym (quotient-back v w hv hw n)) ∙ xor_self v

  -- nowhere else above y
  pub quotient-only : (v w x : ℕ) → v < q → w < q → w ≢ 0 → x < q → bit_xor v (mul (field_at m) x w) ≡ 0
      → x ≡ mul (field_at m) (inverse (field_at m) w) v
  quotient-only v w x hv hw n hx e =
      sym (ap (mul (field_at m) (inverse (field_at m) w)) (xor-equal e ∙ mul_comm x w)
      ∙ sym (mul_assoc (inverse (field_at m) w) w x)
      ∙ ap (λ t. mul (field_at m) t x) (mul_comm (inverse (field_at m) w) w ∙ mul-inverse (field_at m) gen w (nonzero w n) hw)
      ∙ mul-one-l x hx)

  -- where B(y) is 0, so is A(y)
  pub zero-low : (b y v w : ℕ) → v < q → w ≡ 0
      → bit_xor (bit_xor (mul (field_at m) v v) (mul (field_at m) y (mul (field_at m) w w))) (mul (field_at m) b (mul (field_at m) v w)) ≡ 0
      → v ≡ 0
  zero-low b y v w hv z e = ⊎_elim (λ s. s) (λ s. s) (zero-product (field_at m) gen v v hv hv
      (sym (ap (λ t. bit_xor (bit_xor (mul (field_at m) v v) (mul (field_at m) y (mul (field_at m) t t))) (mul (field_at m) b (mul (field_at m) v t))) z
      ∙ simp (mul-zero-r, add_zero_r)) ∙ e))
    where
      add_zero_r : (x : ℕ) → bit_xor x 0 ≡ x
      add_zero_r x = R.add_comm x 0

  -- ---- the resultant is a polynomial of the same kind

  combine-below : (b : ℕ) (l : List ℕ) → Below q l → Below q (combine (G m) b l)
  unfolding combine
  combine-below b [] h = tt
  combine-below b (c ∷ []) h = h
  combine-below b (c ∷ d ∷ l) h = (xor_lt m c (mul (field_at m) b d) h.0 (mul-lt b d), (h.1.0, combine-below b l h.1.1))

  pub digits-below : (b : ℕ) (f : List ℕ) → Below q f → Below q (digits (G m) b f)
  unfolding digits
  digits-below b [] h = tt
  digits-below b (c ∷ f) h = (h.0, combine-below b (digits (G m) b f) (digits-below b f h.1))

  pub evens-below : (l : List ℕ) → Below q l → Below q (evens l)
  unfolding evens
  evens-below [] h = tt
  evens-below (c ∷ []) h = h
  evens-below (c ∷ d ∷ l) h = (h.0, evens-below l h.1.1)

  pub odds-below : (l : List ℕ) → Below q l → Below q (odds l)
  unfolding evens
  odds-below [] h = tt
  odds-below (c ∷ l) h = evens-below l h.1

  squares-below : (l : List ℕ) → Below q (map (λ c. mul (field_at m) c c) l)
  squares-below [] = tt
  squares-below (c ∷ l) = (mul-lt c c, squares-below l)

  pub image-below : (b : ℕ) (f : List ℕ) → b < q → Below q f → Below q (image (G m) b f)
  unfolding resultant
  image-below b f hb h =
      let g : List ℕ = digits (G m) b f in
      let hg : Below q g = digits-below b f h in
      add-below N (map (λ c. mul (field_at m) c c) g) _ (squares-below g)
      (mul-below N (map (mul (field_at m) b) (evens g)) (odds g) (scale-below N b (evens g) hb (evens-below g hg)) (odds-below g hg))

  led-squares : (l : List ℕ) → Below q l → Led (G m) l → Led (G m) (map (λ c. mul (field_at m) c c) l)
  led-squares [] h l = l
  led-squares (c ∷ []) h l = λ e. l (⊎_elim (λ s. s) (λ s. s) (zero-product (field_at m) gen c c h.0 h.0 e))
  led-squares (c ∷ d ∷ f) h l = led-squares (d ∷ f) h.1 l

  pub led-image : (b : ℕ) (f : List ℕ) → Below q f → 1 < length f → Led (G m) f → Led (G m) (image (G m) b f)
  led-image b f h n l =
      let g : List ℕ = digits (G m) b f in
      led-resultant (G m) b g (omega (arith, length_digits (G m) b f)) (led-squares g (digits-below b f h) (led-digits (G m) b f l))
