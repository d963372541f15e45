-- A field of characteristic 2: its operations, and the laws that they obey.
--   Ops        the operations on a type K. Sum and difference are one
--   Laws       the laws of a field in which x + x = 0
--   OnNumbers  the numbers below q are such a field
--   power      x^n
--   squared    x^(2^j), by j squarings
--   trace      x + x^2 + x^4 + .. , j terms: the trace where the field has 2^j elements
-- Assumes nothing.
use Rattle.std.specs.Prelude.{◌≡◌, ◌≢◌, ◌↔◌, Bool, ℕ, zero, suc, ◌<◌, T}

pub record Ops (K : Type 0) : Type 0 where
  pub zero : K
  pub one : K
  pub add : K → K → K
  pub mul : K → K → K
  pub inv : K → K
  pub is_zero : K → Bool

pub record Laws {K : Type 0} (F : Ops K) : Type 0 where
  pub add_comm : (x y : K) → F.add x y ≡ F.add y x
  pub add_assoc : (x y z : K) → F.add (F.add x y) z ≡ F.add x (F.add y z)
  pub zero-add : (x : K) → F.add F.zero x ≡ x
  pub add-self : (x : K) → F.add x x ≡ F.zero
  pub mul_comm : (x y : K) → F.mul x y ≡ F.mul y x
  pub mul_assoc : (x y z : K) → F.mul (F.mul x y) z ≡ F.mul x (F.mul y z)
  pub one-mul : (x : K) → F.mul F.one x ≡ x
  pub mul-add : (x y z : K) → F.mul x (F.add y z) ≡ F.add (F.mul x y) (F.mul x z)
  pub mul-inv : (x : K) → x ≢ F.zero → F.mul x (F.inv x) ≡ F.one
  pub one≢zero : F.one ≢ F.zero
  pub zero_test : (x : K) → T (F.is_zero x) ↔ (x ≡ F.zero)

-- the laws above, for numbers below q, and the operations do not leave them
pub record OnNumbers (G : Ops ℕ) (q : ℕ) : Type 0 where
  pub zero-below : G.zero < q
  pub one_below : G.one < q
  pub add-below : (x y : ℕ) → x < q → y < q → G.add x y < q
  pub mul-below : (x y : ℕ) → x < q → y < q → G.mul x y < q
  pub inv-below : (x : ℕ) → x < q → G.inv x < q
  pub add_comm : (x y : ℕ) → x < q → y < q → G.add x y ≡ G.add y x
  pub add_assoc : (x y z : ℕ) → x < q → y < q → z < q → G.add (G.add x y) z ≡ G.add x (G.add y z)
  pub zero-add : (x : ℕ) → x < q → G.add G.zero x ≡ x
  pub add-self : (x : ℕ) → x < q → G.add x x ≡ G.zero
  pub mul_comm : (x y : ℕ) → x < q → y < q → G.mul x y ≡ G.mul y x
  pub mul_assoc : (x y z : ℕ) → x < q → y < q → z < q → G.mul (G.mul x y) z ≡ G.mul x (G.mul y z)
  pub one-mul : (x : ℕ) → x < q → G.mul G.one x ≡ x
  pub mul-add : (x y z : ℕ) → x < q → y < q → z < q → G.mul x (G.add y z) ≡ G.add (G.mul x y) (G.mul x z)
  pub mul-inv : (x : ℕ) → x < q → x ≢ G.zero → G.mul x (G.inv x) ≡ G.one
  pub one≢zero : G.one ≢ G.zero
  pub zero_test : (x : ℕ) → x < q → T (G.is_zero x) ↔ (x ≡ G.zero)

module _ {K : Type 0} (F : Ops K) where
  unfoldable pub power : K → ℕ → K
  power x zero = F.one
  power x (suc n) = F.mul x (power x n)

  unfoldable pub squared : ℕ → K → K
  squared zero x = x
  squared (suc j) x = squared j (F.mul x x)

  unfoldable pub trace : ℕ → K → K
  trace zero x = F.zero
  trace (suc j) x = F.add x (trace j (F.mul x x))
