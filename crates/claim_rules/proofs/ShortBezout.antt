-- Bezout's identity with short factors: where monic p and w have no common factor, u p + v w = 1 for some u and v whose
-- degrees are at most that of p, and so for a multiple h of monic p.
--   fit            a list brought to n places: cut, or with zeros on top
--   short-bezout   u p + v w = 1, where v is as long as p, and u has no coefficient above that
--   fitting-pair   u h + v w = 1, where u and v have n places each
--   Pair, pair_of  the same of numbers below q
-- Assumes nothing.
use mathlib.Core.Path.{◌∙◌, ◌≡◌, ap, ap₂, fun_ext, refl, sym}
use mathlib.Core.Logic.{◌≢◌, ◌⊎◌, inl, inr}
use mathlib.Core.List.{List, [], ◌++◌, ◌∷◌, map}
use Prim.Native.Nat.{◌+◌, ◌<◌, ◌≤◌, suc, zero, ℕ}
use native.Mathlib.Decide.{dec_le}
use native.Mathlib.Nat.{not-suc-le-zero}
use native.Mathlib.Omega.{arith}
use lib.ListN.{get_or-eq_default, length, length-append, length-map, length-replicate, length-take, replicate, take}
use lib.Seq.{get_or-take}
use Rattle.algebra.specs.Field.{Laws, OnNumbers, Ops}
use Rattle.algebra.specs.Polynomial.{Below, add, coef, mul}
use Rattle.algebra.specs.Routines.{gcd, monic, quo, rem}
use Rattle.algebra.proofs.Elements.{zero-mul}
use Rattle.algebra.proofs.Series.{Series, nought, plus, plus_assoc, plus-back, plus_comm, scale, scale_back, starting_with, times-comm, times-left-comm, times-plus, times-scale, unit}
use Rattle.algebra.proofs.Coefficients.{coef-add, coef-mul, coef-one, coef-scale, coef-top}
use Rattle.algebra.proofs.Degree.{Top, monic-list, top-times, top?}
use Rattle.algebra.proofs.Division.{division}
use Rattle.algebra.proofs.Lengths.{length-rem}
use Rattle.algebra.proofs.Bezout.{bezout}
use Rattle.algebra.proofs.Crossing.{Elem, below-low, by-elements, by_two, coef-down, coef-up, elems, laws, low, low-add, low-gcd, low-monic, low-mul, low-scale}
use Rattle.algebra.proofs.Signs.{signs}

-- n places
unfoldable pub fit : {K : Type 0} → Ops K → ℕ → List K → List K
fit F n l = take n (l ++ replicate n F.zero)

module _ {K : Type 0} {F : Ops K} (L : Laws F) where
  open signs F use {0#, 1#, ◌⊕◌, ◌⊗◌, ◌⊞◌, ◌⊠◌}

  -- as many as asked
  pub fit_length : (n : ℕ) (l : List K) → length (fit F n l) ≡ n
  unfolding fit
  fit_length n l = length-take n (l ++ replicate n 0#) ∙ omega (arith, length-append l (replicate n 0#), length-replicate n 0#)

  -- the same polynomial, where nothing but 0 is cut
  pub fit_same : (n : ℕ) (l : List K) → ((k : ℕ) → n ≤ k → coef F l k ≡ 0#) → coef F (fit F n l) ≡ coef F l
  unfolding fit
  fit_same n l h = fun_ext λ k. elim (dec_le (suc k) n) [
    | yes i ↦ get_or-take n (l ++ replicate n 0#) k 0# i ∙ ap (λ f. f k) (coef-top L l n)
    | no i ↦ get_or-eq_default (take n (l ++ replicate n 0#)) 0# (omega (arith, fit_length n l)) ∙ sym (h k (omega arith))
  ]

  -- nothing above the place behind the last
  last : (n : ℕ) (l : List K) → length l ≤ n → Top F (coef F l) n (coef F l n)
  last n l h = record { at = refl; above = λ k i. get_or-eq_default l 0# (omega arith) }

  -- 1 has one coefficient
  unit-above : (i : ℕ) → 0 < i → unit F i ≡ 0#
  unfolding starting_with
  unit-above zero h = absurd (not-suc-le-zero h)
  unit-above (suc i) h = refl

  -- where p u + w v = 1, the product p u has no coefficient above those of w v
  zero-there : (p w u v : List K) → coef F (monic F p) ⊠ coef F u ⊞ coef F w ⊠ coef F v ≡ unit F → length w ≤ length p → length v ≡ length p
      → (j : ℕ) → length p < j → (coef F (monic F p) ⊠ coef F u) (length p + j) ≡ 0#
  unfolding plus
  zero-there p w u v e l n j h =
      let P : Series K = coef F (monic F p) ⊠ coef F u in
      let Q : Series K = coef F w ⊠ coef F v in
      let swap : P ≡ Q ⊞ unit F = sym (plus-back L Q P) ∙ ap (λ x. Q ⊞ x) (plus_comm L Q P ∙ e) in
      ap (λ f. f (length p + j)) swap
      ∙ ap₂ ◌⊕◌ ((top-times L (last (length p) w l) (last (length p) v (omega arith))).above (length p + j) (omega arith)) (unit-above (length p + j) (omega arith))
      ∙ L.zero-add 0#

  -- a multiple of 0
  zero-scaled : (d : K) (f : Series K) (k : ℕ) → f k ≡ 0# → scale F d f k ≡ 0#
  unfolding scale
  zero-scaled d f k y = ap (λ x. d ⊗ x) y ∙ L.mul_comm d 0# ∙ zero-mul L d

  -- v as long as p, and u no longer by more than one
  pub short-bezout : (p w : List K) → length w ≤ length p → gcd F p w ≡ []
      → (u : List K) × (v : List K) × (coef F (monic F p) ⊠ coef F u ⊞ coef F w ⊠ coef F v ≡ unit F) × (length v ≡ length p)
      × ((k : ℕ) → length p < k → coef F u k ≡ 0#)
  short-bezout p w l g =
      let b = bezout L p w in
      let P : Series K = coef F (monic F p) in
      let W : Series K = coef F w in
      let c : List K = quo F p b.right in
      let v : List K = rem F p b.right in
      let u : List K = add F b.left (mul F w c) in
      let whole : P ⊠ coef F u ⊞ W ⊠ coef F v ≡ unit F =
      ap (λ x. P ⊠ x ⊞ W ⊠ coef F v) (coef-add L b.left (mul F w c) ∙ ap (λ x. coef F b.left ⊞ x) (coef-mul L w c))
      ∙ ap (λ x. x ⊞ W ⊠ coef F v) (times-plus L P (coef F b.left) (W ⊠ coef F c))
      ∙ plus_assoc L (P ⊠ coef F b.left) (P ⊠ (W ⊠ coef F c)) (W ⊠ coef F v)
      ∙ ap (λ x. P ⊠ coef F b.left ⊞ x)
      (ap (λ x. x ⊞ W ⊠ coef F v) (times-left-comm L P W (coef F c)) ∙ sym (times-plus L W (P ⊠ coef F c) (coef F v)) ∙ ap (λ x. W ⊠ x) (sym (division L p b.right)))
      ∙ b.sum ∙ ap (λ x. coef F (monic F x)) g ∙ coef-one L in
      (u, v, whole, length-rem F p b.right, ends u v whole (length-rem F p b.right) (top? L u))
    where
      -- w v ends before p u does
      ends : (u v : List K) → coef F (monic F p) ⊠ coef F u ⊞ coef F w ⊠ coef F v ≡ unit F → length v ≡ length p
          → (coef F u ≡ nought F) ⊎ ((n : ℕ) × (c : K) × (c ≢ 0#) × Top F (coef F u) n c) → (k : ℕ) → length p < k → coef F u k ≡ 0#
      ends u v e n (inl z) k h = ap (λ f. f k) z
      ends u v e n (inr t) k h = elim (dec_le t.0 (length p)) [
        | yes i ↦ t.3.above k (omega arith)
        | no i ↦ absurd (t.2 (sym (L.one-mul t.1) ∙ sym (top-times L (monic-list L p) t.3).at ∙ zero-there p w u v e l n t.0 (omega arith)))
      ]

  -- a multiple of p in its place, and lists of n places
  pub fitting-pair : (h p w : List K) (c : K) (n : ℕ) → c ≢ 0# → coef F h ≡ scale F c (coef F (monic F p)) → length w ≤ length p → gcd F p w ≡ [] → length p < n
      → (u : List K) × (v : List K) × (length u ≡ n) × (length v ≡ n) × (coef F (add F (mul F u h) (mul F v w)) ≡ coef F (1# ∷ []))
  fitting-pair h p w c n z e l g i =
      let b = short-bezout p w l g in
      let P : Series K = coef F (monic F p) in
      let a : List K = map (F.mul (F.inv c)) b.0 in
      let u : List K = fit F n a in
      let v : List K = fit F n b.1 in
      let none : (k : ℕ) → n ≤ k → coef F a k ≡ 0# = λ k j.
      ap (λ f. f k) (coef-scale L (F.inv c) b.0) ∙ zero-scaled (F.inv c) (coef F b.0) k (b.4 k (omega arith)) in
      let su : coef F u ≡ scale F (F.inv c) (coef F b.0) = fit_same n a none ∙ coef-scale L (F.inv c) b.0 in
      let sv : coef F v ≡ coef F b.1 = fit_same n b.1 (λ k j. get_or-eq_default b.1 0# (omega (arith, b.3))) in
      let first : coef F u ⊠ coef F h ≡ P ⊠ coef F b.0 =
      ap₂ ◌⊠◌ su e ∙ times-comm L (scale F (F.inv c) (coef F b.0)) (scale F c P) ∙ times-scale L (F.inv c) (scale F c P) (coef F b.0)
      ∙ ap (scale F (F.inv c)) (times-comm L (scale F c P) (coef F b.0) ∙ times-scale L c (coef F b.0) P)
      ∙ scale_back L c (coef F b.0 ⊠ P) z ∙ times-comm L (coef F b.0) P in (
        u,
        v,
        fit_length n a,
        fit_length n b.1,
        coef-add L (mul F u h) (mul F v w) ∙ ap₂ ◌⊞◌ (coef-mul L u h ∙ first) (coef-mul L v w ∙ ap (λ x. x ⊠ coef F w) sv ∙ times-comm L (coef F b.1) (coef F w))
            ∙ b.2 ∙ sym (coef-one L),
      )

-- u h + v w = 1 for lists of n numbers below q
pub record Pair (G : Ops ℕ) (q n : ℕ) (h w : List ℕ) : Type 0 where
  pub first : List ℕ
  pub second : List ℕ
  pub first_small : Below q first
  pub second-small : Below q second
  pub first-long : length first ≡ n
  pub second-long : length second ≡ n
  pub one : coef G (add G (mul G first h) (mul G second w)) ≡ coef G (G.one ∷ [])

module _ {G : Ops ℕ} {q : ℕ} (N : OnNumbers G q) where
  -- the field of elements, and its laws
  abbrev K : Ops (Elem q)
  K = elems N

  abbrev L : Laws K
  L = laws N

  -- nothing is nothing
  empty-up : (u : List (Elem q)) → low N u ≡ [] → u ≡ []
  empty-up [] e = refl
  empty-up (x ∷ u) e = let z : ◌≡◌ {A = ℕ} 0 1 = cc in absurd (omega arith)

  -- of elements, as numbers
  pair-down : (h w u v : List (Elem q)) (n : ℕ) → length u ≡ n → length v ≡ n → coef K (add K (mul K u h) (mul K v w)) ≡ coef K (K.one ∷ [])
      → Pair G q n (low N h) (low N w)
  pair-down h w u v n a b e = record {
    first = low N u;
    second = low N v;
    first_small = below-low N u;
    second-small = below-low N v;
    first-long = length-map u (λ x. x.0) ∙ a;
    second-long = length-map v (λ x. x.0) ∙ b;
    one = ap (coef G) (sym (low-add N (mul K u h) (mul K v w) ∙ ap₂ (add G) (low-mul N u h) (low-mul N v w)))
        ∙ coef-down N (add K (mul K u h) (mul K v w)) (K.one ∷ []) e;
  }

  -- where they have no common factor
  pair-low : (h p w : List (Elem q)) (c : Elem q) (n : ℕ) → c.0 ≢ G.zero → coef G (low N h) ≡ coef G (map (G.mul c.0) (monic G (low N p)))
      → length (low N w) ≤ length (low N p) → gcd G (low N p) (low N w) ≡ [] → length (low N p) < n → Pair G q n (low N h) (low N w)
  pair-low h p w c n z e l g i =
      let k : length (low N p) ≡ length p = length-map p (λ x. x.0) in
      let same : coef K h ≡ scale K c (coef K (monic K p)) =
      coef-up N h (map (K.mul c) (monic K p)) (e ∙ ap (coef G) (sym (low-scale N c (monic K p) ∙ ap (map (G.mul c.0)) (low-monic N p)))) ∙ coef-scale L c (monic K p) in
      let b = fitting-pair L h p w c n (λ y. z (ap (λ x. x.0) y)) same (omega (arith, length-map w (λ x. x.0))) (empty-up (gcd K p w) (low-gcd N p w ∙ g)) (omega arith) in
      pair-down h w b.0 b.1 n b.2 b.3 b.4

  -- the same of numbers below q
  pub pair_of : (h p w : List ℕ) (c n : ℕ) → Below q h → Below q p → Below q w → c < q → c ≢ G.zero → coef G h ≡ coef G (map (G.mul c) (monic G p))
      → length w ≤ length p → gcd G p w ≡ [] → length p < n → Pair G q n h w
  pair_of h p w c n hh hp hw hc z =
      by_two N (λ h p. coef G h ≡ coef G (map (G.mul c) (monic G p)) → length w ≤ length p → gcd G p w ≡ [] → length p < n → Pair G q n h w)
      (λ a b. by-elements N (λ w. coef G (low N a) ≡ coef G (map (G.mul c) (monic G (low N b))) → length w ≤ length (low N b) → gcd G (low N b) w ≡ []
      → length (low N b) < n → Pair G q n (low N a) w) (λ d. pair-low a b d (c, hc) n z) w hw) h p hh hp
