-- Values: f(x) = A(y) + x B(y) at y = x^2 + b x, and the resultant at y.
--   evens-cons        behind the first element the places change their turns
--   combine-odds      what `combine` leaves as it was;  combine-evens  what it adds, by value
--   digits_value      f(x) = A(y) + x B(y)
--   squares-value     each digit squared is A^2 + y B^2
--   resultant-value   the resultant is A^2 + b A B + y B^2
--   root-image        a root x of f gives a root y of the resultant
--   zero-values       where A and B are 0 at y, f is 0 at x
-- Assumes nothing.
use mathlib.Core.Path.{◌≡◌, ◌∙◌, refl, sym, ap, ap₂}
use mathlib.Core.List.{List, [], ◌∷◌, map}
use Rattle.algebra.specs.Field.{Ops}
use Rattle.algebra.specs.Polynomial.{eval, add, mul}
use Rattle.poly_resultants.specs.Maps.{evens, odds, quad, combine, digits, low, high, resultant, image}
use Rattle.poly_resultants.proofs.Ring.{Ring, add_left_comm, mul_left_comm, add-zero, add_back, mul-zero, zero-mul, add-mul, equal-of-sum, square-add}

pub evens-cons : {A : Type 0} (c : A) (l : List A) → evens (c ∷ l) ≡ c ∷ odds l
unfolding evens
evens-cons c [] = refl
evens-cons c (d ∷ l) = refl

module _ {K : Type 0} {F : Ops K} (R : Ring F) where
  infixl 60 ◌⊕◌
  infixl 70 ◌⊗◌
  open F use {zero as 0#, add as ◌⊕◌, mul as ◌⊗◌}
  open R use {add_comm, add_assoc, zero-add, add-self, mul_comm, mul_assoc, mul-add}

  -- ---- values of sums and products, for any elements

  pub eval_add : (p q : List K) (x : K) → eval F (add F p q) x ≡ eval F p x ⊕ eval F q x
  unfolding eval add
  eval_add [] q x = sym (zero-add (eval F q x))
  eval_add (c ∷ p) [] x = sym (add-zero R (c ⊕ x ⊗ eval F p x))
  eval_add (c ∷ p) (d ∷ q) x =
      ap (λ w. c ⊕ d ⊕ x ⊗ w) (eval_add p q x) ∙ ap (λ w. c ⊕ d ⊕ w) (mul-add x (eval F p x) (eval F q x))
      ∙ simp (add_assoc, add_left_comm R)

  pub eval-scale : (c : K) (p : List K) (x : K) → eval F (map (F.mul c) p) x ≡ c ⊗ eval F p x
  unfolding eval
  eval-scale c [] x = sym (mul-zero R c)
  eval-scale c (d ∷ p) x =
      ap (λ w. c ⊗ d ⊕ x ⊗ w) (eval-scale c p x) ∙ ap (λ w. c ⊗ d ⊕ w) (mul_left_comm R x c (eval F p x))
      ∙ sym (mul-add c d (x ⊗ eval F p x))

  pub eval_mul : (p q : List K) (x : K) → eval F (mul F p q) x ≡ eval F p x ⊗ eval F q x
  unfolding eval mul
  eval_mul [] q x = sym (zero-mul R (eval F q x))
  eval_mul (c ∷ p) q x =
      eval_add (map (F.mul c) q) (0# ∷ mul F p q) x
      ∙ ap₂ ◌⊕◌ (eval-scale c q x) (zero-add (x ⊗ eval F (mul F p q) x) ∙ ap (λ w. x ⊗ w) (eval_mul p q x) ∙ sym (mul_assoc x (eval F p x) (eval F q x)))
      ∙ sym (add-mul R c (x ⊗ eval F p x) (eval F q x))

  -- ---- the digits

  pub combine-odds : (b : K) (l : List K) → odds (combine F b l) ≡ odds l
  unfolding combine evens
  combine-odds b [] = refl
  combine-odds b (c ∷ []) = refl
  combine-odds b (c ∷ d ∷ l) =
      evens-cons d (combine F b l) ∙ ap (λ w. d ∷ w) (combine-odds b l) ∙ sym (evens-cons d l)

  pub combine-evens : (b : K) (l : List K) (y : K)
      → eval F (evens (combine F b l)) y ≡ eval F (evens l) y ⊕ b ⊗ eval F (odds l) y
  unfolding combine evens eval
  combine-evens b [] y = sym (zero-add (b ⊗ 0#) ∙ mul-zero R b)
  combine-evens b (c ∷ []) y = sym (ap (λ w. c ⊕ y ⊗ 0# ⊕ w) (mul-zero R b) ∙ add-zero R (c ⊕ y ⊗ 0#))
  combine-evens b (c ∷ d ∷ l) y =
      ap (λ w. c ⊕ b ⊗ d ⊕ y ⊗ w) (combine-evens b l y)
      ∙ pair (eval F (evens l) y) (eval F (odds l) y)
      ∙ ap (λ w. c ⊕ y ⊗ eval F (evens l) y ⊕ b ⊗ eval F w y) (sym (evens-cons d l))
    where
      pair : (p q : K) → c ⊕ b ⊗ d ⊕ y ⊗ (p ⊕ b ⊗ q) ≡ c ⊕ y ⊗ p ⊕ b ⊗ (d ⊕ y ⊗ q)
      pair p q = simp (mul-add, add_assoc, add_left_comm R, add_comm, mul_left_comm R)

  module _ (b x : K) where
    -- where the digits are taken
    abbrev y : K
    y = quad F b x

    pub digits_value : (f : List K) → eval F f x ≡ eval F (low F b f) y ⊕ x ⊗ eval F (high F b f) y
    unfolding digits eval evens
    digits_value [] = sym (zero-add (x ⊗ 0#) ∙ mul-zero R x)
    digits_value (c ∷ f) =
        ap (λ w. c ⊕ x ⊗ w) (digits_value f)
        ∙ turn (eval F (low F b f) y) (eval F (high F b f) y)
        ∙ sym (ap₂ (λ v w. v ⊕ x ⊗ w)
        (ap (λ l. eval F l y) (evens-cons c (combine F b (digits F b f)) ∙ ap (λ l. c ∷ l) (combine-odds b (digits F b f))))
        (combine-evens b (digits F b f) y))
      where
        turn : (p q : K) → c ⊕ x ⊗ (p ⊕ x ⊗ q) ≡ (c ⊕ y ⊗ q) ⊕ x ⊗ (p ⊕ b ⊗ q)
        turn p q = simp (mul-add, add-mul R, mul_assoc, mul_left_comm R, mul_comm, add_assoc, add_left_comm R, add_comm, add_back R, add-self)

  -- ---- the resultant

  -- c^2 + y (A^2 + y B^2) is (c + y B)^2 + y A^2
  pub squares-value : (l : List K) (y : K)
      → eval F (map (λ c. c ⊗ c) l) y
      ≡ eval F (evens l) y ⊗ eval F (evens l) y ⊕ y ⊗ (eval F (odds l) y ⊗ eval F (odds l) y)
  unfolding eval evens
  squares-value [] y = sym (simp (mul-zero R, zero-add))
  squares-value (c ∷ l) y =
      ap (λ w. c ⊗ c ⊕ y ⊗ w) (squares-value l y)
      ∙ turn (eval F (evens l) y) (eval F (odds l) y)
      ∙ ap (λ w. eval F w y ⊗ eval F w y ⊕ y ⊗ (eval F (evens l) y ⊗ eval F (evens l) y)) (sym (evens-cons c l))
    where
      turn : (p q : K) → c ⊗ c ⊕ y ⊗ (p ⊗ p ⊕ y ⊗ (q ⊗ q)) ≡ (c ⊕ y ⊗ q) ⊗ (c ⊕ y ⊗ q) ⊕ y ⊗ (p ⊗ p)
      turn p q =
          sym (ap (λ w. w ⊕ y ⊗ (p ⊗ p)) (square-add R c (y ⊗ q))
          ∙ simp (mul-add, mul_assoc, mul_left_comm R, add_assoc, add_left_comm R, add_comm))

  pub resultant-value : (b : K) (g : List K) (y : K)
      → eval F (resultant F b g) y
      ≡ (eval F (evens g) y ⊗ eval F (evens g) y ⊕ y ⊗ (eval F (odds g) y ⊗ eval F (odds g) y))
      ⊕ b ⊗ (eval F (evens g) y ⊗ eval F (odds g) y)
  unfolding resultant
  resultant-value b g y =
      eval_add (map (λ c. c ⊗ c) g) (mul F (map (F.mul b) (evens g)) (odds g)) y
      ∙ ap₂ ◌⊕◌ (squares-value g y)
      (eval_mul (map (F.mul b) (evens g)) (odds g) y ∙ ap (λ w. w ⊗ eval F (odds g) y) (eval-scale b (evens g) y)
      ∙ mul_assoc b (eval F (evens g) y) (eval F (odds g) y))

  -- with A = x B the resultant is B^2 (x^2 + y + b x)
  pub norm-of : (b x y p q : K) → p ≡ x ⊗ q
      → (p ⊗ p ⊕ y ⊗ (q ⊗ q)) ⊕ b ⊗ (p ⊗ q) ≡ q ⊗ (q ⊗ (quad F b x ⊕ y))
  norm-of b x y p q e =
      ap (λ w. (w ⊗ w ⊕ y ⊗ (q ⊗ q)) ⊕ b ⊗ (w ⊗ q)) e
      ∙ simp (mul-add, add-mul R, mul_assoc, mul_left_comm R, mul_comm, add_assoc, add_left_comm R, add_comm)

  -- a root of f has a root of the resultant below it
  pub root-image : (b x : K) (f : List K) → eval F f x ≡ 0# → eval F (image F b f) (quad F b x) ≡ 0#
  root-image b x f e =
      let y : K = quad F b x in
      let p : K = eval F (low F b f) y in
      let q : K = eval F (high F b f) y in
      let s : p ≡ x ⊗ q = equal-of-sum R p (x ⊗ q) (sym (digits_value b x f) ∙ e) in
      resultant-value b (digits F b f) y ∙ norm-of b x y p q s
      ∙ ap (λ w. q ⊗ (q ⊗ w)) (add-self y) ∙ ap (λ w. q ⊗ w) (mul-zero R q) ∙ mul-zero R q

  -- where y is below x, f(x) is A(y) + x B(y)
  pub value-above : (b x y : K) (f : List K) → quad F b x ≡ y
      → eval F f x ≡ eval F (low F b f) y ⊕ x ⊗ eval F (high F b f) y
  value-above b x y f e = digits_value b x f ∙ ap (λ w. eval F (low F b f) w ⊕ x ⊗ eval F (high F b f) w) e
