-- Traces of numbers below q, and the trace bits, which tell them apart.
--   trace-add    Tr(x + y) = Tr(x) + Tr(y)
--   trace-zero   Tr(0) = 0
--   trace-fixed  Tr(x^2) = Tr(x)
--   trace-bit    Tr(x) is 0 or 1
--   trace-told   so the test for 0 tells it
-- and where the sum is exclusive or and q is 2^m, so that the numbers 2^i, which are the powers of a below m, span the
-- field:
--   fermat       x^(2^m) = x, shown by m computed values
--   trace-apart  no two elements have the same trace bits
--   tests-apart  nor do they pass the same tests of these bits
-- Assumes nothing.
use mathlib.Core.Path.{◌∙◌, ◌≡◌, ap, ap₂, refl, subst, sym}
use mathlib.Core.Logic.{◌⊎◌, inl, inr, ⊎_elim}
use Prim.Native.Nat.{◌+◌, ◌-◌, ◌<◌, ◌^◌, ◌≤◌, suc, zero, ℕ}
use native.Mathlib.Nat.{lt_of_lt_of_le, one-mul as one-mul-nat}
use native.Mathlib.Decide.{dec_lt}
use native.Mathlib.Omega.{arith}
use lib.Arith.{lt-one}
use lib.Pow.{pow-lt, pow_mono}
use lib.Bits.{bit_xor, xor_shifted}
use lib.Dec.{T}
use Rattle.algebra.specs.Field.{OnNumbers, Ops, squared, trace}
use Rattle.algebra.proofs.TraceBits.{SpansField}
use Rattle.algebra.proofs.Crossing.{Elem, all, count-all, distinct-all, elem-equal, elems, laws, low-squared, low-trace}
use Rattle.algebra.proofs.Trace as R
use Rattle.algebra.proofs.TraceBits as B

module _ {G : Ops ℕ} {q : ℕ} (N : OnNumbers G q) where
  pub trace-add : (j x y : ℕ) → x < q → y < q → trace G j (G.add x y) ≡ G.add (trace G j x) (trace G j y)
  trace-add j x y hx hy =
      sym (low-trace N j ((elems N).add (x, hx) (y, hy))) ∙ ap (λ u. u.0) (R.trace-add (laws N) j (x, hx) (y, hy))
      ∙ ap₂ G.add (low-trace N j (x, hx)) (low-trace N j (y, hy))

  pub trace-zero : (j : ℕ) → trace G j G.zero ≡ G.zero
  trace-zero j = sym (low-trace N j (elems N).zero) ∙ ap (λ u. u.0) (R.trace-zero (laws N) j)

  -- Tr(x^2) = Tr(x)
  pub trace-fixed : (m x : ℕ) → x < q → squared G m x ≡ x → trace G m (G.mul x x) ≡ trace G m x
  trace-fixed m x hx e =
      sym (low-trace N m ((elems N).mul (x, hx) (x, hx)))
      ∙ ap (λ u. u.0) (R.trace-fixed (laws N) m (x, hx) (elem-equal (low-squared N m (x, hx) ∙ e))) ∙ low-trace N m (x, hx)

  -- Tr(x) is 0 or 1
  pub trace-bit : (m x : ℕ) → x < q → squared G m x ≡ x → (trace G m x ≡ G.zero) ⊎ (trace G m x ≡ G.one)
  trace-bit m x hx e =
      ⊎_elim (λ z. inl (sym (low-trace N m (x, hx)) ∙ ap (λ u. u.0) z)) (λ z. inr (sym (low-trace N m (x, hx)) ∙ ap (λ u. u.0) z))
      (R.trace-bit (laws N) m (x, hx) (elem-equal (low-squared N m (x, hx) ∙ e)))

  -- so the test for 0 tells it
  pub trace-told : (m x y : ℕ) → x < q → y < q → squared G m x ≡ x → squared G m y ≡ y → G.is_zero (trace G m x) ≡ G.is_zero (trace G m y) → trace G m x ≡ trace G m y
  trace-told m x y hx hy ex ey e = go (trace-bit m x hx ex) (trace-bit m y hy ey)
    where
      differ : G.is_zero G.zero ≡ G.is_zero G.one → ⊥
      differ h = N.one≢zero ((N.zero_test G.one N.one_below).0 (subst T h ((N.zero_test G.zero N.zero-below).1 refl)))

      go : (trace G m x ≡ G.zero) ⊎ (trace G m x ≡ G.one) → (trace G m y ≡ G.zero) ⊎ (trace G m y ≡ G.one) → trace G m x ≡ trace G m y
      go (inl u) (inl v) = u ∙ sym v
      go (inr u) (inr v) = u ∙ sym v
      go (inl u) (inr v) = absurd (differ (ap G.is_zero (sym u) ∙ e ∙ ap G.is_zero v))
      go (inr u) (inl v) = absurd (differ (ap G.is_zero (sym v) ∙ sym e ∙ ap G.is_zero u))

  module _ (m : ℕ) (size : q ≡ 2 ^ m) (zero_is : G.zero ≡ 0) (add_is : (x y : ℕ) → G.add x y ≡ bit_xor x y) where
    below-spans : (Q : ℕ → Type 0) → Q 0 → ((k y : ℕ) → k < m → y < 2 ^ k → Q (2 ^ k) → Q y → Q (bit_xor (2 ^ k) y)) → ((i : ℕ) → i < m → Q (2 ^ i))
        → (k : ℕ) → k ≤ m → (x : ℕ) → x < 2 ^ k → Q x
    below-spans Q z s b zero l x h = subst Q (sym (lt-one h)) z
    below-spans Q z s b (suc k) l x h = go (dec_lt x (2 ^ k)) (below-spans Q z s b k (omega arith))
      where
        go : Dec (x < 2 ^ k) → ((y : ℕ) → y < 2 ^ k → Q y) → Q x
        go (yes i) rec = rec x i
        go (no g) rec =
            let y : ℕ = x - 2 ^ k in
            let small : y < 2 ^ k = omega arith in
            let whole : 2 ^ k + y ≡ x = omega arith in
            subst Q (ap (λ w. bit_xor w y) (sym (one-mul-nat (2 ^ k))) ∙ xor_shifted 1 k y small ∙ ap (λ w. w + y) (one-mul-nat (2 ^ k)) ∙ whole)
            (s k y l small (b k l) (rec y small))

    abbrev unit-bit : (i : ℕ) → i < m → Elem q
    unit-bit i h = (2 ^ i, rw size (pow-lt h))

    pub bits-span : SpansField (elems N) m unit-bit
    bits-span Q z s b (x, h) =
        below-spans (λ x. (h : x < q) → Q (x, h)) (λ h. subst Q (elem-equal zero_is) z)
        (λ k y hk hy qk qy h.
        let u : Elem q = unit-bit k hk in
        let v : Elem q = (y, rw size (lt_of_lt_of_le hy (pow_mono (omega arith)))) in
        subst Q (elem-equal (add_is (2 ^ k) y)) (s u v (qk u.1) (qy v.1)))
        (λ i hi h. subst Q (elem-equal refl) (b i hi)) m (omega arith) x (rw size at h) h

    -- x^(2^m) = x: shown by m computed values
    pub fermat : ((i : ℕ) → i < m → squared G m (2 ^ i) ≡ 2 ^ i) → (x : ℕ) → x < q → squared G m x ≡ x
    fermat t x h =
        sym (low-squared N m (x, h)) ∙ ap (λ u. u.0) (B.fermat (laws N) m unit-bit bits-span m (λ i l. elem-equal (low-squared N m (unit-bit i l) ∙ t i l)) (x, h))

    -- no two elements have the same trace bits
    pub trace-apart : 0 < m → (x y : ℕ) → x < q → y < q → ((i : ℕ) → i < m → trace G m (G.mul (2 ^ i) x) ≡ trace G m (G.mul (2 ^ i) y)) → x ≡ y
    trace-apart p x y hx hy t =
        let e : suc (m - 1) ≡ m = omega arith in
        let same : (i : ℕ) (h : i < m) (z : ℕ) (hz : z < q) → (trace (elems N) (suc (m - 1)) ((elems N).mul (unit-bit i h) (z, hz))).0 ≡ trace G m (G.mul (2 ^ i) z) =
        λ i h z hz. low-trace N (suc (m - 1)) ((elems N).mul (unit-bit i h) (z, hz)) ∙ ap (λ k. trace G k (G.mul (2 ^ i) z)) e in
        ap (λ u. u.0) (B.trace-apart (laws N) m unit-bit bits-span (m - 1) (all N) (distinct-all N) (count-all N ∙ size ∙ ap (λ k. 2 ^ k) (sym e)) (x, hx) (y, hy)
        (λ i h. elem-equal (same i h x hx ∙ t i h ∙ sym (same i h y hy))))

    -- nor do they pass the same tests of these bits
    pub tests-apart : 0 < m → ((x : ℕ) → x < q → squared G m x ≡ x) → (x y : ℕ) → x < q → y < q
        → ((i : ℕ) → i < m → G.is_zero (trace G m (G.mul (2 ^ i) x)) ≡ G.is_zero (trace G m (G.mul (2 ^ i) y))) → x ≡ y
    tests-apart p fixed x y hx hy h =
        trace-apart p x y hx hy λ i l.
        let b : 2 ^ i < q = (unit-bit i l).1 in
        let a : G.mul (2 ^ i) x < q = N.mul-below (2 ^ i) x b hx in
        let c : G.mul (2 ^ i) y < q = N.mul-below (2 ^ i) y b hy in
        trace-told m (G.mul (2 ^ i) x) (G.mul (2 ^ i) y) a c (fixed (G.mul (2 ^ i) x) a) (fixed (G.mul (2 ^ i) y) c) (h i l)
