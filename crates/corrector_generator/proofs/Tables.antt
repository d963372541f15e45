-- The tables of a generator G, each by one computed test, and the sum of five rows.
--   each, each_at       a table is f at 0, 1, ..
--   row_test, row_at    the entry at c is the remainder of c m x^d, d the degree of G
--   brought             the rows at the five parts of t, added: the remainder of t x^d
-- Assumes nothing.
use mathlib.Core.Path.{◌≡◌, sym, ap, ap₂, ◌∙◌}
use mathlib.Core.Bool.{Bool}
use mathlib.Core.List.{List, [], ◌∷◌}
use Prim.Native.Nat.{ℕ, zero, suc, ◌+◌, ◌-◌, ◌*◌, ◌/◌, ◌%◌, ◌^◌, ◌<◌}
use native.Mathlib.Omega.{arith}
use lib.Bits.{bit_xor, xor_comm, xor_shifted}
use lib.Dec.{T, eqb, eqb→eq}
use lib.ListN.{get_or}
use Rattle.field.specs.Field.{Field}
use Rattle.field.proofs.Table.{both_true, both_true-left, both_true-right}
use Rattle.field.proofs.Xor.{xor_assoc}
use Rattle.corrector_generator.specs.Generators.{back_from_top}
use Rattle.corrector_generator.proofs.Bases.{back_from_top-additive}

-- is the list f at i, i + 1, .., so many numbers?
unfoldable pub each : (ℕ → ℕ) → ℕ → ℕ → List ℕ → Bool
each f i n [] = eqb n 0
each f i n (x ∷ l) = both_true (eqb x (f i)) (each f (suc i) (n - 1) l)

pub each_at : (f : ℕ → ℕ) (i n : ℕ) (l : List ℕ) (k : ℕ) → T (each f i n l) → k < n → get_or l k 0 ≡ f (k + i)
unfolding each
each_at f i n [] k t h = let z : n ≡ 0 = eqb→eq n 0 t in absurd (let b : ⊥ = omega arith in b)
each_at f i n (x ∷ l) zero t h = eqb→eq x (f i) (both_true-left (eqb x (f i)) (each f (suc i) (n - 1) l) t) ∙ ap f (omega arith)
each_at f i n (x ∷ l) (suc k) t h =
    each_at f (suc i) (n - 1) l k (both_true-right (eqb x (f i)) (each f (suc i) (n - 1) l) t) (omega arith)
    ∙ ap f (omega arith)

-- a table of n rows, that at c for c m
unfoldable pub row_test : Field → ℕ → ℕ → List ℕ → Bool
unfolding each
row_test G m n l = each (λ c. back_from_top G (c * m)) 0 n l

pub row_at : (G : Field) (m n : ℕ) (l : List ℕ) → T (row_test G m n l) → (c : ℕ) → c < n → get_or l c 0 ≡ back_from_top G (c * m)
unfolding row_test
row_at G m n l t c h = each_at (λ c. back_from_top G (c * m)) 0 n l c t h ∙ ap (λ x. back_from_top G (x * m)) (omega arith)

module _ (G : Field) where
  -- the lowest digits of what is left, and those above
  part : (k t u v : ℕ) → u < 2 ^ k → v * 2 ^ k + u ≡ t
      → back_from_top G t ≡ bit_xor (back_from_top G u) (back_from_top G (v * 2 ^ k))
  part k t u v h e =
      ap (back_from_top G) (sym e ∙ sym (xor_shifted v k u h) ∙ xor_comm (v * 2 ^ k) u)
      ∙ back_from_top-additive G u (v * 2 ^ k)

  -- a sum of five, from the left and from the right
  five : (p q r s t : ℕ) → bit_xor (bit_xor (bit_xor (bit_xor p q) r) s) t ≡ bit_xor p (bit_xor q (bit_xor r (bit_xor s t)))
  five p q r s t =
      xor_assoc (bit_xor (bit_xor p q) r) s t ∙ xor_assoc (bit_xor p q) r (bit_xor s t) ∙ xor_assoc p q (bit_xor r (bit_xor s t))

  -- 32 DIGITS COME BACK IN FIVE PARTS
  pub brought : (t : ℕ) → t < 2 ^ 32 → (l0 l7 l14 l20 l26 : List ℕ)
      → T (row_test G 1 128 l0) → T (row_test G 128 128 l7) → T (row_test G 16384 64 l14) → T (row_test G 1048576 64 l20)
      → T (row_test G 67108864 64 l26)
      → bit_xor (bit_xor (bit_xor (bit_xor (get_or l0 (t % 128) 0) (get_or l7 (t / 128 % 128) 0))
      (get_or l14 (t / 16384 % 64) 0)) (get_or l20 (t / 1048576 % 64) 0)) (get_or l26 (t / 67108864 % 64) 0)
      ≡ back_from_top G t
  brought t h l0 l7 l14 l20 l26 t0 t7 t14 t20 t26 =
      let p₀ = part 7 t (t % 128 * 1) (t / 128) (omega arith) (omega arith) in
      let p₁ = part 14 (t / 128 * 2 ^ 7) (t / 128 % 128 * 128) (t / 16384) (omega arith) (omega arith) in
      let p₂ = part 20 (t / 16384 * 2 ^ 14) (t / 16384 % 64 * 16384) (t / 1048576) (omega arith) (omega arith) in
      let p₃ =
      part 26 (t / 1048576 * 2 ^ 20) (t / 1048576 % 64 * 1048576) (t / 67108864 % 64) (omega arith) (omega arith) in
      five (get_or l0 (t % 128) 0) (get_or l7 (t / 128 % 128) 0) (get_or l14 (t / 16384 % 64) 0) (get_or l20 (t / 1048576 % 64) 0)
      (get_or l26 (t / 67108864 % 64) 0)
      ∙ ap₂ bit_xor (row_at G 1 128 l0 t0 (t % 128) (omega arith))
      (ap₂ bit_xor (row_at G 128 128 l7 t7 (t / 128 % 128) (omega arith))
      (ap₂ bit_xor (row_at G 16384 64 l14 t14 (t / 16384 % 64) (omega arith))
      (ap₂ bit_xor (row_at G 1048576 64 l20 t20 (t / 1048576 % 64) (omega arith))
      (row_at G 67108864 64 l26 t26 (t / 67108864 % 64) (omega arith)))))
      ∙ sym (p₀ ∙ ap (bit_xor (back_from_top G (t % 128 * 1))) (p₁ ∙ ap (bit_xor (back_from_top G (t / 128 % 128 * 128)))
      (p₂ ∙ ap (bit_xor (back_from_top G (t / 16384 % 64 * 16384))) p₃)))
