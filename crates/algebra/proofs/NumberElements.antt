-- Numbers below q as elements: what follows at once from the laws of the field.
--   equal-of-sum     two numbers whose sum is 0 are equal
--   zero-of-product  no product of nonzero numbers is 0
--   square-add       (x + y)^2 = x^2 + y^2
--   square-mul       (x y)^2 = x^2 y^2
--   squared-add      (x + y)^(2^j) = x^(2^j) + y^(2^j)
--   squared-power    `squared` is the power to 2^j
--   power-add        x^(n + k) = x^n x^k
--   power-mul        (x y)^n = x^n y^n
-- Assumes nothing.
use mathlib.Core.Path.{◌∙◌, ◌≡◌, ap, ap₂, sym}
use mathlib.Core.Logic.{◌≢◌}
use Prim.Native.Nat.{◌+◌, ◌<◌, ◌^◌, ℕ}
use Rattle.algebra.specs.Field.{OnNumbers, Ops, power, squared}
use Rattle.algebra.proofs.Crossing.{elem-equal, elems, laws, low-power, low-squared}
use Rattle.algebra.proofs.Elements as E

module _ {G : Ops ℕ} {q : ℕ} (N : OnNumbers G q) where
  pub add-zero : (x : ℕ) → x < q → G.add x G.zero ≡ x
  add-zero x h = ap (λ u. u.0) (E.add-zero (laws N) (x, h))

  pub mul-one : (x : ℕ) → x < q → G.mul x G.one ≡ x
  mul-one x h = ap (λ u. u.0) (E.mul-one (laws N) (x, h))

  pub mul-zero : (x : ℕ) → x < q → G.mul x G.zero ≡ G.zero
  mul-zero x h = ap (λ u. u.0) (E.mul-zero (laws N) (x, h))

  pub zero-mul : (x : ℕ) → x < q → G.mul G.zero x ≡ G.zero
  zero-mul x h = ap (λ u. u.0) (E.zero-mul (laws N) (x, h))

  pub add-mul : (x y z : ℕ) → x < q → y < q → z < q → G.mul (G.add x y) z ≡ G.add (G.mul x z) (G.mul y z)
  add-mul x y z hx hy hz = ap (λ u. u.0) (E.add-mul (laws N) (x, hx) (y, hy) (z, hz))

  pub equal-of-sum : (x y : ℕ) → x < q → y < q → G.add x y ≡ G.zero → x ≡ y
  equal-of-sum x y hx hy e = ap (λ u. u.0) (E.equal-of-sum (laws N) (x, hx) (y, hy) (elem-equal e))

  pub zero-of-product : (x y : ℕ) → x < q → y < q → x ≢ G.zero → G.mul x y ≡ G.zero → y ≡ G.zero
  zero-of-product x y hx hy n e = ap (λ u. u.0) (E.zero-of-product (laws N) (x, hx) (y, hy) (λ z. n (ap (λ u. u.0) z)) (elem-equal e))

  pub square-add : (x y : ℕ) → x < q → y < q → G.mul (G.add x y) (G.add x y) ≡ G.add (G.mul x x) (G.mul y y)
  square-add x y hx hy = ap (λ u. u.0) (E.square-add (laws N) (x, hx) (y, hy))

  pub square-mul : (x y : ℕ) → x < q → y < q → G.mul (G.mul x y) (G.mul x y) ≡ G.mul (G.mul x x) (G.mul y y)
  square-mul x y hx hy = ap (λ u. u.0) (E.square-mul (laws N) (x, hx) (y, hy))

  pub squared-add : (j x y : ℕ) → x < q → y < q → squared G j (G.add x y) ≡ G.add (squared G j x) (squared G j y)
  squared-add j x y hx hy =
      sym (low-squared N j ((elems N).add (x, hx) (y, hy))) ∙ ap (λ u. u.0) (E.squared-add (laws N) j (x, hx) (y, hy))
      ∙ ap₂ G.add (low-squared N j (x, hx)) (low-squared N j (y, hy))

  -- `squared` is the power to 2^j
  pub squared-power : (j x : ℕ) → x < q → squared G j x ≡ power G x (2 ^ j)
  squared-power j x hx = sym (low-squared N j (x, hx)) ∙ ap (λ u. u.0) (E.squared-power (laws N) j (x, hx)) ∙ low-power N (x, hx) (2 ^ j)

  pub power-add : (x n k : ℕ) → x < q → power G x (n + k) ≡ G.mul (power G x n) (power G x k)
  power-add x n k hx =
      sym (low-power N (x, hx) (n + k)) ∙ ap (λ u. u.0) (E.power-add (laws N) (x, hx) n k) ∙ ap₂ G.mul (low-power N (x, hx) n) (low-power N (x, hx) k)

  pub power-mul : (x y n : ℕ) → x < q → y < q → power G (G.mul x y) n ≡ G.mul (power G x n) (power G y n)
  power-mul x y n hx hy =
      sym (low-power N ((elems N).mul (x, hx) (y, hy)) n) ∙ ap (λ u. u.0) (E.power-mul (laws N) (x, hx) (y, hy) n)
      ∙ ap₂ G.mul (low-power N (x, hx) n) (low-power N (y, hy) n)
