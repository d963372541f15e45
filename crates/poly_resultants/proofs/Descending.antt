-- Down one map: lists of roots above lists of roots.
--   mem-left, mem-right, all_from, distinct_append   lists
--   solves-none, solves-two   x^2 + b x = y by the table of halves
--   lifts-none                nothing above nothing
--   lifts-one, lifts-both     the roots above one y
--   lifts-append              above one y more
--   lifts-few                 never more than there can be
--   norm-zeros, image-few, level-up   from a level to the one above it
-- Assumes nothing.
use mathlib.Core.Path.{◌≡◌, ◌∙◌, refl, sym, ap, ap₂, subst}
use mathlib.Core.Logic.{◌≢◌, ◌⊎◌, inl, inr, ⊎_elim}
use mathlib.Core.Bool.{true}
use mathlib.Core.List.Memᴰ
use mathlib.Core.List.{List, Memᴰ, [], ◌∷◌, ◌++◌}
use Prim.Native.Nat.{ℕ, ◌^◌, ◌≤◌, ◌<◌}
use native.Mathlib.Omega.{arith}
use lib.Bits.{bit_xor, xor_lt, xor_self}
use lib.ListN.{length, take}
use Rattle.algebra.specs.Trial.{All, Distinct}
use Rattle.algebra.specs.Polynomial.{eval, Below}
use Rattle.algebra.proofs.Trial.{all-at, all_map}
use Rattle.algebra.proofs.StaysBelow.{eval-below}
use Rattle.field.specs.Rows.{known}
use Rattle.field.specs.Field.{field_at, G, mul, inverse, Tr}
use Rattle.field.specs.Tables.{HalfRoot}
use Rattle.field.proofs.Known.{listed}
use Rattle.field.proofs.Generator.{Generated, generated, mul-inverse, zero-product, small, Small}
use Rattle.field.proofs.Ring.{ring}
use Rattle.field.proofs.Xor.{xor-equal, xor-cancel}
use Rattle.field.proofs.Solutions.{solution, no-solution, root-to, root-from, quad-trace}
use Rattle.poly_resultants.specs.Maps.{quad, tower, low, high, image, digits}
use Rattle.poly_resultants.specs.Levels.{most, Solves, Lifts, value_by, norm_by, Few, Polynomial, Levelled}
use Rattle.poly_resultants.proofs.Ring.{Ring, known-ring, add_left_comm, mul_left_comm, add_back, add-mul, add-zero}
use Rattle.poly_resultants.proofs.Values.{digits_value, resultant-value, root-image}
use Rattle.poly_resultants.proofs.Numbers.{N, few-roots, quotient-quad, quotient-zero, quotient-only, zero-low, quad-lt}

-- ---- lists

pub mem-left : {A : Type 0} {x : A} (s t : List A) → Memᴰ x s → Memᴰ x (s ++ t)
mem-left [] t h = absurd (Memᴰ.not-nil h)
mem-left (y ∷ s) t h = ⊎_elim (λ e. Memᴰ.head e) (λ k. Memᴰ.tail (mem-left s t k)) (Memᴰ.cases_cons h)

pub mem-right : {A : Type 0} {x : A} (s t : List A) → Memᴰ x t → Memᴰ x (s ++ t)
mem-right [] t h = h
mem-right (y ∷ s) t h = Memᴰ.tail (mem-right s t h)

pub all_from : {A : Type 0} (P : A → Type 0) (s : List A) → ((x : A) → Memᴰ x s → P x) → All P s
all_from P [] h = tt
all_from P (x ∷ s) h = (h x (Memᴰ.head refl), all_from P s (λ y k. h y (Memᴰ.tail k)))

pub distinct_append : {A : Type 0} (s t : List A) → Distinct s → Distinct t
    → ((x : A) → Memᴰ x s → Memᴰ x t → ⊥) → Distinct (s ++ t)
distinct_append [] t d e h = e
distinct_append {A} (x ∷ s) t d e h = (
  all_from (λ y. x ≢ y) (s ++ t) (λ y k. ⊎_elim (λ i. all-at (λ z. x ≢ z) s d.0 i)
      (λ i z. h x (Memᴰ.head refl) (subst (λ w. Memᴰ w t) (sym z) i)) (Memᴰ.append_cases s k)),
  distinct_append s t d.1 e (λ y i j. h y (Memᴰ.tail i) j),
)

-- an element that stands before another is not the same
pub distinct_apart : {A : Type 0} (s : List A) (x : A) (t : List A) → Distinct (s ++ x ∷ t) → Memᴰ x s → ⊥
distinct_apart [] x t d h = Memᴰ.not-nil h
distinct_apart (y ∷ s) x t d h =
    ⊎_elim (λ e. all-at (λ z. y ≢ z) (s ++ x ∷ t) d.0 (mem-right s (x ∷ t) (Memᴰ.head refl)) (sym e))
    (λ k. distinct_apart s x t d.1 k) (Memᴰ.cases_cons h)

module _ (m : ℕ) (k : known m ≡ true) where
  abbrev q : ℕ
  q = 2 ^ m

  abbrev R : Ring (G m)
  R = known-ring m k

  gen : Generated (field_at m)
  gen = generated (listed m k)

  open R use {add_comm, add_assoc, zero-add, add-self, mul_comm, mul_assoc, mul-add}
  open ring (field_at m) gen.monic use {mul-lt, mul-zero-r}

  -- ---- x^2 + b x = y

  -- b is taken to 0
  quad-other : (b x : ℕ) → quad (G m) b (bit_xor x b) ≡ quad (G m) b x
  quad-other b x =
      simp (mul-add, add-mul R, mul_assoc, mul_left_comm R, mul_comm, add_assoc, add_left_comm R, add_comm, add_back R, add-self, add-zero R)

  quad-sum : (b x z : ℕ) → bit_xor (quad (G m) b z) (quad (G m) b x) ≡ mul (field_at m) (bit_xor z x) (bit_xor (bit_xor z x) b)
  quad-sum b x z =
      simp (mul-add, add-mul R, mul_assoc, mul_left_comm R, mul_comm, add_assoc, add_left_comm R, add_comm, add_back R, add-self, add-zero R)

  -- what goes to the same place differs by 0 or b
  pub quad-same : (b x z : ℕ) → b < q → x < q → z < q → quad (G m) b z ≡ quad (G m) b x → (z ≡ x) ⊎ (z ≡ bit_xor x b)
  quad-same b x z hb hx hz e =
      let s : bit_xor z x < q = xor_lt m z x hz hx in
      ⊎_elim (λ i. inl (xor-equal i)) (λ i. inr (xor-equal (sym (add_assoc z x b) ∙ i)))
      (zero-product (field_at m) gen (bit_xor z x) (bit_xor (bit_xor z x) b) s (xor_lt m (bit_xor z x) b s hb)
      (sym (quad-sum b x z) ∙ ap (λ w. bit_xor w (quad (G m) b x)) e ∙ add-self (quad (G m) b x)))

  module _ (b y v : ℕ) (pb : 0 < b) (hb : b < q) (hy : y < q) (ev : v ≡ inverse (field_at m) b) where
    inv : mul (field_at m) v b ≡ 1
    inv = ap (λ w. mul (field_at m) w b) ev ∙ mul_comm (inverse (field_at m) b) b ∙ mul-inverse (field_at m) gen b pb hb

    -- what the table is asked at
    abbrev place : ℕ
    place = mul (field_at m) (mul (field_at m) v v) y

    part-is : place ≡ mul (field_at m) y (mul (field_at m) v v)
    part-is = mul_comm (mul (field_at m) v v) y

    pub solves-none : {h : ℕ} → HalfRoot (field_at m) place h → h ≡ 65535 → Solves m b y []
    solves-none {h} r e = record { exact = λ x. (λ i. absurd (Memᴰ.not-nil i), λ i. absurd (none x i.0 i.1)); distinct = tt }
      where
        none : (x : ℕ) → x < q → quad (G m) b x ≡ y → ⊥
        none x hx z =
            let g = root-to (field_at m) gen b y v hb hy inv x (hx, ap (λ w. bit_xor w y) z ∙ add-self y) in
            let t = quad-trace (field_at m) gen (mul (field_at m) v x) (mul-lt v x) in
            let o = no-solution (field_at m) gen r (size_small (small (listed m k))) e in
            let w : ◌≡◌ {A = ℕ} 1 0 = sym o ∙ ap (Tr (field_at m)) (part-is ∙ sym g) ∙ t in
            omega arith
          where
            size_small : Small m (field_at m).poly → 2 ^ m ≤ 65535
            size_small s = let a = s.size-le in omega arith

    pub solves-two : {h x : ℕ} → HalfRoot (field_at m) place h → h ≢ 65535 → x ≡ mul (field_at m) b h → Solves m b y (x ∷ bit_xor x b ∷ [])
    solves-two {h} {x} r n e = record {
      exact = λ z. (to z, from z);
      distinct = ((apart, tt), (tt, tt));
    }
      where
        goes : quad (G m) b x ≡ y
        goes =
            let s = solution (field_at m) gen r n in
            let t = root-from (field_at m) gen b y v hb hy inv h (s.1 ∙ part-is) in
            ap (quad (G m) b) e ∙ xor-equal t.1

        small-x : x < q
        small-x = subst (λ w. w < q) (sym e) (mul-lt b h)

        apart : x ≢ bit_xor x b
        apart z =
            let w : b ≡ 0 = sym (xor-cancel x b) ∙ ap (bit_xor x) (sym z) ∙ xor_self x in
            omega arith

        to : (z : ℕ) → Memᴰ z (x ∷ bit_xor x b ∷ []) → (z < q) × (quad (G m) b z ≡ y)
        to z i =
            ⊎_elim (λ s. (subst (λ w. w < q) (sym s) small-x, ap (quad (G m) b) s ∙ goes))
            (λ j. let s : z ≡ bit_xor x b = Memᴰ.eq_of_singleton j in
            (subst (λ w. w < q) (sym s) (xor_lt m x b small-x hb), ap (quad (G m) b) s ∙ quad-other b x ∙ goes))
            (Memᴰ.cases_cons i)

        from : (z : ℕ) → (z < q) × (quad (G m) b z ≡ y) → Memᴰ z (x ∷ bit_xor x b ∷ [])
        from z i =
            ⊎_elim (λ s. Memᴰ.head s) (λ s. Memᴰ.tail (Memᴰ.head s))
            (quad-same b x z hb small-x i.0 (i.1 ∙ sym goes))

  -- ---- the roots above one y

  pub lifts-none : (b : ℕ) (p r : List ℕ) → Lifts m b p r [] []
  lifts-none b p r = record { exact = λ x. (λ i. absurd (Memᴰ.not-nil i), λ i. absurd (Memᴰ.not-nil i.1)); distinct = tt }

  module _ (b : ℕ) (p r : List ℕ) (hp : Below q p) (hr : Below q r) (y : ℕ) (hy : y < q) (z : norm_by m b p r y ≡ 0) where
    -- the value of p and of r at y
    abbrev v : ℕ
    v = eval (G m) p y

    abbrev w : ℕ
    w = eval (G m) r y

    at_y : (x : ℕ) → quad (G m) b x ≡ y → value_by m b p r x ≡ bit_xor v (mul (field_at m) x w)
    at_y x e = ap (λ t. bit_xor (eval (G m) p t) (mul (field_at m) x (eval (G m) r t))) e

    pub lifts-one : w ≢ 0 → Lifts m b p r (y ∷ []) (mul (field_at m) (inverse (field_at m) w) v ∷ [])
    lifts-one n = record {
      exact = λ x. (
        λ i. let e : x ≡ one = Memᴰ.eq_of_singleton i in
            subst (λ t. (t < q) × Memᴰ (quad (G m) b t) (y ∷ []) × (value_by m b p r t ≡ 0)) (sym e)
            (mul-lt (inverse (field_at m) w) v, Memᴰ.head goes, at_y one goes ∙ quotient-zero m k v w hv hw n),
        λ i. Memᴰ.head (quotient-only m k v w x hv hw n i.0 (sym (at_y x (Memᴰ.eq_of_singleton i.1)) ∙ i.2)),
      );
      distinct = (tt, tt);
    }
      where
        one : ℕ
        one = mul (field_at m) (inverse (field_at m) w) v

        hv : v < q
        hv = eval-below (N m k) p y hp hy

        hw : w < q
        hw = eval-below (N m k) r y hr hy

        goes : quad (G m) b one ≡ y
        goes = quotient-quad m k b y v w hy hv hw n z

    pub lifts-both : {xs : List ℕ} → w ≡ 0 → Solves m b y xs → Lifts m b p r (y ∷ []) xs
    lifts-both {xs} n s = record {
      exact = λ x. (
        λ i. let j = (s.exact x).0 i in (j.0, Memᴰ.head j.1, at_y x j.1 ∙ zero x),
        λ i. (s.exact x).1 (i.0, Memᴰ.eq_of_singleton i.1),
      );
      distinct = s.distinct;
    }
      where
        zero : (x : ℕ) → bit_xor v (mul (field_at m) x w) ≡ 0
        zero x = ap₂ (λ s t. bit_xor s (mul (field_at m) x t)) (zero-low m k b y v w (eval-below (N m k) p y hp hy) n z) n ∙ mul-zero-r x

  -- ---- one y more

  pub lifts-append : {b : ℕ} {p r ys xs zs : List ℕ} {y : ℕ} → Lifts m b p r ys xs → (Memᴰ y ys → ⊥)
      → Lifts m b p r (y ∷ []) zs → Lifts m b p r (ys ++ y ∷ []) (xs ++ zs)
  lifts-append {b} {p} {r} {ys} {xs} {zs} {y} a n c = record {
    exact = λ x. (
      λ i. ⊎_elim
          (λ j. let h = (a.exact x).0 j in (h.0, mem-left ys (y ∷ []) h.1, h.2))
          (λ j. let h = (c.exact x).0 j in (h.0, mem-right ys (y ∷ []) h.1, h.2))
          (Memᴰ.append_cases xs i),
      λ i. ⊎_elim
          (λ j. mem-left xs zs ((a.exact x).1 (i.0, j, i.2)))
          (λ j. mem-right xs zs ((c.exact x).1 (i.0, j, i.2)))
          (Memᴰ.append_cases ys i.1),
    );
    distinct = distinct_append xs zs a.distinct c.distinct
        (λ x i j. n (subst (λ t. Memᴰ t ys) (Memᴰ.eq_of_singleton ((c.exact x).0 j).1) ((a.exact x).0 i).1));
  }

  pub lifts-few : {b : ℕ} {p r ys xs : List ℕ} → Few m b p r → Lifts m b p r ys xs → length xs ≤ most
  lifts-few {b} {p} {r} {ys} {xs} f l =
      f xs l.distinct (all_from (λ x. (x < q) × (value_by m b p r x ≡ 0)) xs (λ x i. let h = (l.exact x).0 i in (h.0, h.2)))

  -- ---- from a level to the one above it

  module _ (b : ℕ) (f : List ℕ) where
    -- a root of the resultant makes the norm 0
    pub norm-zeros : (ys : List ℕ) → All (λ y. (y < q) × (eval (G m) (image (G m) b f) y ≡ 0)) ys
        → All (λ y. (y < q) × (norm_by m b (low (G m) b f) (high (G m) b f) y ≡ 0)) ys
    norm-zeros ys = all_map (λ y h. (h.0, sym (resultant-value R b (digits (G m) b f) y) ∙ h.1)) ys

    pub image-few : Polynomial m f → Few m b (low (G m) b f) (high (G m) b f)
    image-few g xs d a =
        let n : length xs < length f = few-roots m k f xs g.small g.led d (all_map (λ x h. (h.0, digits_value R b x f ∙ h.1)) xs a) in
        let l = g.limited in
        omega arith

    pub level-up : {bs ys out : List ℕ} {end j n : ℕ} → Levelled m bs end (image (G m) b f) j ys
        → Lifts m b (low (G m) b f) (high (G m) b f) (take j ys) (take n out) → n ≤ length out
        → Levelled m (b ∷ bs) end f n out
    unfolding tower
    level-up {bs} {ys} {out} {end} {j} {n} l s h = record {
      within = h;
      roots = all_from (λ x. (x < q) × (eval (G m) f x ≡ 0)) (take n out) (λ x i. let e = (s.exact x).0 i in (e.0, digits_value R b x f ∙ e.2));
      whole = λ x hx e t. (s.exact x).1 (hx, l.whole (quad (G m) b x) (quad-lt m k b x) (root-image R b x f e) t, sym (digits_value R b x f) ∙ e);
      distinct = s.distinct;
    }
