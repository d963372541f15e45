-- The solutions of x^2 + x = i: two that differ by 1, or none where Tr(i) = 1. And those of z^2 + az + b = 0, by z =
-- ax.
--   Root               z is a root of z^2 + az + b, written out
--   half-root-unique   the quadratic table's rule leaves one number at each place
--   answer-none, answer-up, answer-down, one-root   the list of all roots, by the table's entry, as the solver goes by
--                                                   it
-- Assumes nothing.
use mathlib.Core.Path.{◌≡◌, sym, ap, ap₂, ◌∙◌, subst}
use mathlib.Core.Logic.{◌⊎◌, inl, inr, ⊎_elim, ◌≢◌}
use Prim.Native.Nat.{ℕ, ◌%◌, ◌≤◌, ◌<◌}
use native.Mathlib.Omega.{arith}
use lib.Bits.{bit_xor, differ, xor_comm, xor_self, xor_lt, xor_zero_r}
use Rattle.field.specs.Field.{Field, size, mul, Tr}
use Rattle.field.specs.Powers.{turned}
use Rattle.field.specs.Tables.{HalfRoot}
use mathlib.Core.Logic.{◌↔◌}
use mathlib.Core.List.Memᴰ
use mathlib.Core.List.{[], ◌∷◌}
use lib.Dec.{T, eqb, eqb→eq}
use Rattle.algebra.specs.Polynomial.{eval, is_root, roots_of}
use Rattle.algebra.proofs.Trial.{kept-only}
use Rattle.field.specs.Field.{numbers}
use Rattle.field.specs.Quadratics.{roots_of_quadratic}
use Rattle.field.proofs.Xor.{xor-cancel, xor-equal, xor-digit}
use Rattle.field.proofs.Ring.{ring}
use Rattle.field.proofs.Generator.{Generated, one_below, zero-product}
use Rattle.field.proofs.Trace.{trace-xor, trace-of-square}
use Rattle.field.proofs.HalfRoots.{quad, quad-xor}

-- z is a root of z^2 + az + b
abbrev pub Root : Field → ℕ → ℕ → ℕ → Type 0
Root F a b z = (z < size F) × (bit_xor (bit_xor (mul F z z) (mul F a z)) b ≡ 0)

module _ (F : Field) (gen : Generated F) where
  open ring F gen.monic use {mul_comm, mul_assoc, mul-xor-r, mul-zero-l, mul-zero-r, mul-one-l, mul-one-r, mul-lt, mul-swap, square-xor}

  -- x^2 + x = x (x + 1)
  quad-product : (x : ℕ) → x < size F → quad F x ≡ mul F x (bit_xor x 1)
  unfolding quad
  quad-product x h = ap (bit_xor (mul F x x)) (sym (mul-one-r x h)) ∙ sym (mul-xor-r x x 1)

  quad-zero : (x : ℕ) → x < size F → quad F x ≡ 0 → (x ≡ 0) ⊎ (x ≡ 1)
  quad-zero x h e =
      ⊎_elim inl (λ k. inr (xor-equal k))
      (zero-product F gen x (bit_xor x 1) h (xor_lt F.degree x 1 h (one_below F gen)) (sym (quad-product x h) ∙ e))

  -- a second solution differs from the first by 1
  pub second : (x j : ℕ) → x < size F → j < size F → quad F x ≡ quad F j → (x ≡ j) ⊎ (x ≡ bit_xor j 1)
  second x j hx hj e =
      ⊎_elim (λ k. inl (sym (xor-equal k))) (λ k. inr (sym (xor-cancel j x) ∙ ap (bit_xor j) k))
      (quad-zero (bit_xor j x) (xor_lt F.degree j x hj hx) (quad-xor F gen j x ∙ ap (bit_xor (quad F j)) e ∙ xor_self (quad F j)))

  -- the even solution is the only even one
  pub even-unique : (x j : ℕ) → x < size F → j < size F → x % 2 ≡ 0 → j % 2 ≡ 0 → quad F x ≡ quad F j → x ≡ j
  even-unique x j hx hj ex ej e = ⊎_elim (λ k. k) (λ k. absurd (odd k)) (second x j hx hj e)
    where
      odd : x ≡ bit_xor j 1 → ⊥
      odd k =
          let z : ◌≡◌ {A = ℕ} 0 1 = sym ex ∙ ap (λ (t : ℕ). t % 2) k ∙ xor-digit j 1 ∙ ap (λ (d : ℕ). differ d 1) ej in
          omega arith

  -- x^2 + x has trace 0
  pub quad-trace : (x : ℕ) → x < size F → Tr F (quad F x) ≡ 0
  unfolding quad
  quad-trace x h =
      trace-xor F gen (mul F x x) x ∙ ap (λ (t : ℕ). bit_xor t (Tr F x)) (trace-of-square F gen x h) ∙ xor_self (Tr F x)

  never : (i j : ℕ) → Tr F i ≡ 1 → (j < size F) × (j % 2 ≡ 0) × (bit_xor (mul F j j) j ≡ i) → ⊥
  unfolding quad
  never i j t h =
      let z : ◌≡◌ {A = ℕ} 0 1 = sym (quad-trace j h.0) ∙ ap (Tr F) h.2 ∙ t in
      omega arith

  -- the table's rule leaves one number at each place
  pub half-root-unique : (i j k : ℕ) → HalfRoot F i j → HalfRoot F i k → j ≡ k
  unfolding quad
  half-root-unique i j k (inl t) (inl u) = t.1 ∙ sym u.1
  half-root-unique i j k (inl t) (inr u) = absurd (never i k t.0 u)
  half-root-unique i j k (inr t) (inl u) = absurd (never i j u.0 t)
  half-root-unique i j k (inr t) (inr u) = even-unique j k t.0 u.0 t.1 u.1 (t.2 ∙ sym u.2)

  -- ---- the roots of a polynomial are those written out
  written : (a b z : ℕ) → a < size F → b < size F → z < size F → eval (numbers F) (b ∷ a ∷ 1 ∷ []) z ≡ bit_xor (bit_xor (mul F z z) (mul F a z)) b
  unfolding eval
  written a b z ha hb hz =
      xor_comm b (mul F z (bit_xor a (mul F z (bit_xor 1 (mul F z 0)))))
      ∙ ap (λ (t : ℕ). bit_xor t b)
      (ap (λ (t : ℕ). mul F z (bit_xor a (mul F z (bit_xor 1 t)))) (mul-zero-r z)
      ∙ ap (λ (t : ℕ). mul F z (bit_xor a t)) (mul-one-r z hz)
      ∙ mul-xor-r z a z ∙ xor_comm (mul F z a) (mul F z z) ∙ ap (bit_xor (mul F z z)) (mul_comm z a))

  is-root : (a b z : ℕ) → a < size F → b < size F → ((z < size F) × T (is_root (numbers F) (b ∷ a ∷ 1 ∷ []) z)) ↔ Root F a b z
  is-root a b z ha hb = (
    λ h. (h.0, sym (written a b z ha hb h.0) ∙ eqb→eq (eval (numbers F) (b ∷ a ∷ 1 ∷ []) z) 0 h.1),
    λ h. (h.0, subst (λ (t : ℕ). T (eqb t 0)) (sym (written a b z ha hb h.0 ∙ h.1)) tt),
  )

  none-are : (a b : ℕ) → a < size F → b < size F → ((z : ℕ) → Root F a b z → ⊥) → roots_of_quadratic F a b ≡ []
  unfolding roots_of
  none-are a b ha hb none =
      kept-only (is_root (numbers F) (b ∷ a ∷ 1 ∷ [])) (size F) [] tt
      (λ z. (λ m. absurd (Memᴰ.not-nil m), λ h. absurd (none z ((is-root a b z ha hb).0 h))))

  one-is : (a b : ℕ) → a < size F → b < size F → {x : ℕ} → Root F a b x → ((z : ℕ) → Root F a b z → z ≡ x) → roots_of_quadratic F a b ≡ x ∷ []
  unfolding roots_of
  one-is a b ha hb {x} r only =
      kept-only (is_root (numbers F) (b ∷ a ∷ 1 ∷ [])) (size F) (x ∷ []) (tt, tt)
      (λ z. (
        λ m. (is-root a b z ha hb).1 (⊎_elim (λ e. subst (Root F a b) (sym e) r) (λ n. absurd (Memᴰ.not-nil n)) (Memᴰ.cases_cons m)),
        λ h. Memᴰ.head (only z ((is-root a b z ha hb).0 h)),
      ))

  two-are : (a b : ℕ) → a < size F → b < size F → {x y : ℕ} → x < y → Root F a b x → Root F a b y
      → ((z : ℕ) → Root F a b z → (z ≡ x) ⊎ (z ≡ y)) → roots_of_quadratic F a b ≡ x ∷ y ∷ []
  unfolding roots_of
  two-are a b ha hb {x} {y} l r s only =
      kept-only (is_root (numbers F) (b ∷ a ∷ 1 ∷ [])) (size F) (x ∷ y ∷ []) ((l, tt), (tt, tt))
      (λ z. (
        λ m. (is-root a b z ha hb).1
            (⊎_elim (λ e. subst (Root F a b) (sym e) r)
            (λ n. ⊎_elim (λ e. subst (Root F a b) (sym e) s) (λ o. absurd (Memᴰ.not-nil o)) (Memᴰ.cases_cons n)) (Memᴰ.cases_cons m)),
        λ h. ⊎_elim (λ e. Memᴰ.head e) (λ e. Memᴰ.tail (Memᴰ.head e)) (only z ((is-root a b z ha hb).0 h)),
      ))

  -- ---- z^2 + az + b at z = ax is a^2 (x^2 + x) + b
  pub scaled-quadratic : (a x : ℕ) → bit_xor (mul F (mul F a x) (mul F a x)) (mul F a (mul F a x)) ≡ mul F (mul F a a) (quad F x)
  unfolding quad
  scaled-quadratic a x =
      ap₂ bit_xor (mul-swap a x a x) (sym (mul_assoc a a x)) ∙ sym (mul-xor-r (mul F a a) (mul F x x) x)

  quad-lt : (x : ℕ) → x < size F → quad F x < size F
  unfolding quad
  quad-lt x h = xor_lt F.degree (mul F x x) x (mul-lt x x) h

  quad-one : quad F 1 ≡ 0
  quad-one = quad-product 1 (one_below F gen) ∙ mul-zero-r 1

  -- a table entry that is no mark is a solution, and a mark says that there is none
  pub solution : {i j : ℕ} → HalfRoot F i j → j ≢ 65535 → (j < size F) × (quad F j ≡ i)
  unfolding quad
  solution (inl t) h = absurd (h t.1)
  solution (inr t) h = (t.0, t.2)

  pub no-solution : {i j : ℕ} → HalfRoot F i j → size F ≤ 65535 → j ≡ 65535 → Tr F i ≡ 1
  no-solution (inl t) h e = t.0
  no-solution (inr t) h e = absurd (let k = t.0 in let z : ⊥ = omega arith in z)

  -- v is the inverse of a, and part is b / a^2
  module _ (a b v : ℕ) (ha : a < size F) (hb : b < size F) (inv : mul F v a ≡ 1) where
    abbrev part : ℕ
    part = mul F b (mul F v v)

    undo : (z : ℕ) → z < size F → mul F a (mul F v z) ≡ z
    undo z hz =
        sym (mul_assoc a v z) ∙ ap (λ (t : ℕ). mul F t z) (mul_comm a v ∙ inv) ∙ mul-one-l z hz

    squares : mul F (mul F a a) (mul F v v) ≡ 1
    squares =
        mul-swap a a v v
        ∙ ap₂ (mul F) (mul_comm a v ∙ inv) (mul_comm a v ∙ inv) ∙ mul-one-l 1 (one_below F gen)

    -- a^2 part = b, and nothing else is so
    back : mul F (mul F a a) part ≡ b
    back =
        ap (mul F (mul F a a)) (mul_comm b (mul F v v)) ∙ sym (mul_assoc (mul F a a) (mul F v v) b)
        ∙ ap (λ (t : ℕ). mul F t b) squares ∙ mul-one-l b hb

    forth : (q : ℕ) → q < size F → mul F (mul F a a) q ≡ b → q ≡ part
    forth q hq e =
        sym (mul-one-l q hq)
        ∙ ap (λ (t : ℕ). mul F t q) (sym squares ∙ mul_comm (mul F a a) (mul F v v))
        ∙ mul_assoc (mul F v v) (mul F a a) q ∙ ap (mul F (mul F v v)) e ∙ mul_comm (mul F v v) b

    pub root-to : (z : ℕ) → Root F a b z → quad F (mul F v z) ≡ part
    root-to z h =
        forth (quad F (mul F v z)) (quad-lt (mul F v z) (mul-lt v z))
        (sym (scaled-quadratic a (mul F v z)) ∙ ap (λ (t : ℕ). bit_xor (mul F t t) (mul F a t)) (undo z h.0) ∙ xor-equal h.1)

    pub root-from : (x : ℕ) → quad F x ≡ part → Root F a b (mul F a x)
    root-from x e =
        (mul-lt a x, ap (λ (t : ℕ). bit_xor t b) (scaled-quadratic a x ∙ ap (mul F (mul F a a)) e ∙ back) ∙ xor_self b)

    -- no x: no root
    pub no-roots : Tr F part ≡ 1 → roots_of_quadratic F a b ≡ []
    no-roots t =
        none-are a b ha hb (λ z h. let e : ◌≡◌ {A = ℕ} 0 1 = sym (quad-trace (mul F v z) (mul-lt v z)) ∙ ap (Tr F) (root-to z h) ∙ t in
        let x : ⊥ = omega arith in x)

    -- x: the roots ax and ax + a
    module _ (j : ℕ) (hj : j < size F) (ej : quad F j ≡ part) where
      first-root : Root F a b (mul F a j)
      first-root = root-from j ej

      next : mul F a (bit_xor j 1) ≡ bit_xor (mul F a j) a
      next = mul-xor-r a j 1 ∙ ap (bit_xor (mul F a j)) (mul-one-r a ha)

      second-root : Root F a b (bit_xor (mul F a j) a)
      second-root =
          subst (Root F a b) next
          (root-from (bit_xor j 1) (quad-xor F gen j 1 ∙ ap (bit_xor (quad F j)) quad-one ∙ xor_zero_r (quad F j) ∙ ej))

      every-root : (z : ℕ) → Root F a b z → (z ≡ mul F a j) ⊎ (z ≡ bit_xor (mul F a j) a)
      every-root z h =
          ⊎_elim (λ e. inl (sym (undo z h.0) ∙ ap (mul F a) e)) (λ e. inr (sym (undo z h.0) ∙ ap (mul F a) e ∙ next))
          (second (mul F v z) j (mul-lt v z) hj (root-to z h ∙ sym ej))

      pub roots-up : mul F a j < bit_xor (mul F a j) a → roots_of_quadratic F a b ≡ mul F a j ∷ bit_xor (mul F a j) a ∷ []
      roots-up h = two-are a b ha hb h first-root second-root every-root

      pub roots-down : 0 < a → ¬ (mul F a j < bit_xor (mul F a j) a) → roots_of_quadratic F a b ≡ bit_xor (mul F a j) a ∷ mul F a j ∷ []
      roots-down pos h = two-are a b ha hb lower second-root first-root (λ z r. ⊎_elim inr inl (every-root z r))
        where
          apart : bit_xor (mul F a j) a ≢ mul F a j
          apart e =
              let z : a ≡ 0 = sym (xor-cancel (mul F a j) a) ∙ ap (bit_xor (mul F a j)) e ∙ xor_self (mul F a j) in
              omega arith

          lower : bit_xor (mul F a j) a < mul F a j
          lower = let k = apart in omega arith

    -- q is the square root of b, divided by a: what the table's entry j at q says of the roots, as the solver goes by it
    module _ (q : ℕ) (hq : q < size F) (root : turned F a q ≡ b) where
      square-part : mul F q q ≡ part
      unfolding turned
      square-part = forth (mul F q q) (mul-lt q q) (sym (mul-swap a q a q) ∙ root)

      -- j + q is an x
      shifted : (j : ℕ) → quad F j ≡ q → quad F (bit_xor j q) ≡ part
      unfolding quad
      shifted j e =
          quad-xor F gen j q ∙ ap (λ (t : ℕ). bit_xor t (bit_xor (mul F q q) q)) e
          ∙ ap (bit_xor q) (xor_comm (mul F q q) q) ∙ xor-cancel q (mul F q q) ∙ square-part

      pub answer-none : {j : ℕ} → HalfRoot F q j → size F ≤ 65535 → j ≡ 65535 → roots_of_quadratic F a b ≡ []
      answer-none h small k = no-roots (ap (Tr F) (sym square-part) ∙ trace-of-square F gen q hq ∙ no-solution h small k)

      pub answer-up : {j x : ℕ} → HalfRoot F q j → j ≢ 65535 → x ≡ mul F a (bit_xor j q) → x < bit_xor x a → roots_of_quadratic F a b ≡ x ∷ bit_xor x a ∷ []
      answer-up {j} {x} h n ex =
          subst (λ (t : ℕ). t < bit_xor t a → roots_of_quadratic F a b ≡ t ∷ bit_xor t a ∷ []) (sym ex)
          (roots-up (bit_xor j q) (xor_lt F.degree j q (solution h n).0 hq) (shifted j (solution h n).1))

      pub answer-down : {j x : ℕ} → HalfRoot F q j → j ≢ 65535 → x ≡ mul F a (bit_xor j q) → 0 < a → ¬ (x < bit_xor x a)
          → roots_of_quadratic F a b ≡ bit_xor x a ∷ x ∷ []
      answer-down {j} {x} h n ex pos =
          subst (λ (t : ℕ). ¬ (t < bit_xor t a) → roots_of_quadratic F a b ≡ bit_xor t a ∷ t ∷ []) (sym ex)
          (roots-down (bit_xor j q) (xor_lt F.degree j q (solution h n).0 hq) (shifted j (solution h n).1) pos)

  -- a = 0: the square root is the only root
  pub one-root : {a b s : ℕ} → a ≡ 0 → b < size F → s < size F → mul F s s ≡ b → roots_of_quadratic F a b ≡ s ∷ []
  one-root {a} {b} {s} z0 hb hs e = one-is a b (let u = one_below F gen in omega arith) hb (hs, sum s ∙ ap (λ (t : ℕ). bit_xor t b) e ∙ xor_self b) only
    where
      sum : (z : ℕ) → bit_xor (bit_xor (mul F z z) (mul F a z)) b ≡ bit_xor (mul F z z) b
      sum z = ap (λ (t : ℕ). bit_xor (bit_xor (mul F z z) t) b) (ap (λ (c : ℕ). mul F c z) z0 ∙ mul-zero-l z) ∙ ap (λ (t : ℕ). bit_xor t b) (xor_zero_r (mul F z z))

      only : (z : ℕ) → Root F a b z → z ≡ s
      only z h =
          xor-equal (⊎_elim (λ k. k) (λ k. k)
          (zero-product F gen (bit_xor z s) (bit_xor z s) (xor_lt F.degree z s h.0 hs) (xor_lt F.degree z s h.0 hs)
          (square-xor z s ∙ ap (bit_xor (mul F z z)) e ∙ sym (sum z) ∙ h.1)))
