-- What `run` does with its two halves.
--   HalfCount, half_count   what is known of the half of n = 2^k
--   halves-back             what stands when both halves are back;  halves-back-plain  the same with no butterflies
--                           before
-- Assumes nothing.
use mathlib.Core.Path.{◌≡◌, sym, ap, ap₂, ◌∙◌}
use mathlib.Core.List.{List, ◌++◌}
use Prim.Native.Nat.{ℕ, suc, ◌+◌, ◌-◌, ◌*◌, ◌/◌, ◌^◌, ◌≤◌, ◌<◌}
use native.Mathlib.Nat.{pow-suc}
use native.Mathlib.Omega.{arith}
use lib.Pow.{pow_pos}
use lib.ListN.{length, take, drop}
use lib.Seq.{take_at, drop_at}
use borrow.Rule.Slice.PartMut.{put_mid}
use Rattle.poly_values.specs.Planes.{words_at, butterflies_at, transform_at, halves_at}
use Rattle.poly_values.proofs.Tail.{lent-tail, back}

-- the half of n = 2^k
pub record HalfCount (k n : ℕ) : Type 0 where
  pub below : k ≡ suc (k - 1)
  pub half : n / 2 ≡ 2 ^ (k - 1)
  pub whole : n ≡ n / 2 + n / 2
  pub some : 1 ≤ n / 2

pub half_count : (k n : ℕ) → 0 < k → n ≡ 2 ^ k → HalfCount k n
half_count k n h e =
    let b : k ≡ suc (k - 1) = omega arith in
    let d : n ≡ 2 ^ (k - 1) * 2 = e ∙ ap (λ i. 2 ^ i) b ∙ pow-suc 2 (k - 1) in
    record { below = b; half = omega arith; whole = omega arith; some = omega (arith, pow_pos (k - 1)) }

-- what stands when both halves are back
pub halves-back : (q g p : List ℕ) {e b y z : List ℕ} (k h : ℕ) → 0 < k → h ≡ 2 ^ (k - 1) → length y ≡ h * length q
    → e ≡ words_at (length q) g 0 → b ≡ butterflies_at q e (h * length q) h p
    → y ≡ transform_at q (k - 1) (take (length g - length q) (drop (length q) g)) (take (h * length q - 0) b)
    → z ≡ transform_at q (k - 1) (take (length g - h * length q) (drop (h * length q) g))
    (take (length (y ++ drop (h * length q - 0) b) - h * length q) (drop (h * length q) (y ++ drop (h * length q - 0) b)))
    → put_mid (h * length q) (length (y ++ drop (h * length q - 0) b) - h * length q) (y ++ drop (h * length q - 0) b) z ≡ transform_at q k g p
unfolding transform_at
halves-back q g p {e} {b} {y} {z} k h some half n ee eb ey ez =
    back (y ++ drop (u - 0) b) z u
    ∙ ap₂ ◌++◌
    (take_at y (drop (u - 0) b) u n ∙ ey ∙ ap₂ (λ s t. transform_at q (k - 1) s t) (lent-tail g (length q)) (ap (λ i. take i b) nought))
    (ez ∙ ap₂ (λ s t. transform_at q (k - 1) s t) (lent-tail g u) (lent-tail (y ++ drop (u - 0) b) u ∙ drop_at y (drop (u - 0) b) u n ∙ ap (λ i. drop i b) nought))
    ∙ ap (λ l. transform_at q (k - 1) (drop (length q) g) (take u l) ++ transform_at q (k - 1) (drop u g) (drop u l))
    (eb ∙ ap (λ l. butterflies_at q l u h p) ee)
    ∙ ap (λ i. transform_at q (k - 1) (drop (length q) g) (take (i * length q) (butterflies_at q (words_at (length q) g 0) (i * length q) i p))
    ++ transform_at q (k - 1) (drop (i * length q) g) (drop (i * length q) (butterflies_at q (words_at (length q) g 0) (i * length q) i p))) half
    ∙ ap (λ i. transform_at q i g p) (sym down)
  where
    u : ℕ
    u = h * length q

    nought : u - 0 ≡ u
    nought = omega arith

    down : k ≡ suc (k - 1)
    down = omega arith

-- what stands when both halves are back, with no butterflies before
pub halves-back-plain : (q g p : List ℕ) {y z : List ℕ} (k h : ℕ) → length y ≡ h * length q
    → y ≡ transform_at q k (take (length g - length q) (drop (length q) g)) (take (h * length q - 0) p)
    → z ≡ transform_at q k (take (length g - h * length q) (drop (h * length q) g))
    (take (length (y ++ drop (h * length q - 0) p) - h * length q) (drop (h * length q) (y ++ drop (h * length q - 0) p)))
    → put_mid (h * length q) (length (y ++ drop (h * length q - 0) p) - h * length q) (y ++ drop (h * length q - 0) p) z ≡ halves_at q k h g p
halves-back-plain q g p {y} {z} k h n ey ez =
    back (y ++ drop (u - 0) p) z u
    ∙ ap₂ ◌++◌
    (take_at y (drop (u - 0) p) u n ∙ ey ∙ ap₂ (λ s t. transform_at q k s t) (lent-tail g (length q)) (ap (λ i. take i p) nought))
    (ez ∙ ap₂ (λ s t. transform_at q k s t) (lent-tail g u) (lent-tail (y ++ drop (u - 0) p) u ∙ drop_at y (drop (u - 0) p) u n ∙ ap (λ i. drop i p) nought))
  where
    u : ℕ
    u = h * length q

    nought : u - 0 ≡ u
    nought = omega arith
