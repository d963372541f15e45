-- Euclid's algorithm from behind. Where a = d b + r, a combination of a and b is one of b and r, and the other way
-- round: so x and y with x a + y b = 1 are had from those of b and r.
--   by-six          what is shown of six lists of elements holds of numbers below q
--   quo-ends        a quotient by monic p ends before what is divided, by the degree of p;  quo-cut  so it may be cut
--   product-ends    the degrees of a product add
--   no-unit         no multiple of a polynomial that is not constant is 1
--   across          a factor of one of two polynomials is one of the other
--   combine-on      x a + y b is (y + d x) b + x r
--   COMBINE-BACK    x a + (y + d x) b is y b + x r
-- Assumes nothing.
use mathlib.Core.Path.{◌∙◌, ◌≡◌, ap, ap₂, fun_ext, refl, subst, sym}
use mathlib.Core.Logic.{◌≢◌, ◌⊎◌, inl, inr}
use mathlib.Core.List.{List, [], ◌∷◌, map}
use Prim.Native.Nat.{◌+◌, ◌<◌, ◌≤◌, suc, ℕ}
use native.Mathlib.Decide.{dec_le}
use native.Mathlib.Omega.{arith}
use lib.ListN.{get_or-eq_default, length, length-map, length-take, take}
use lib.Seq.{get_or-take}
use Rattle.algebra.specs.Field.{Laws, OnNumbers, Ops}
use Rattle.algebra.specs.Polynomial.{Below, Divides, add, coef, mul}
use Rattle.algebra.specs.Routines.{monic, quo, rem}
use Rattle.algebra.proofs.Coefficients.{coef-add, coef-mul, coef-scale}
use Rattle.algebra.proofs.Crossing.{Elem, by_two, coef-down, coef-up, elem-equal, elems, laws, low, low-add, low-coef, low-mul, low-quo, low-scale}
use Rattle.algebra.proofs.Degree.{Top, monic-list, top-times, top?}
use Rattle.algebra.proofs.Divisibility.{divides-multiple}
use Rattle.algebra.proofs.Division.{division}
use Rattle.algebra.proofs.Lengths.{length-rem}
use Rattle.algebra.proofs.Series.{Series, nought, nought-plus, plus, plus_assoc, plus-back, plus_comm, plus-self, plus-times, scale, times, times-assoc, times-comm, times-left-comm, times-plus, times-scale}
use Rattle.algebra.proofs.Signs.{signs}
use Rattle.algebra.proofs.StaysBelow.{add-below, mul-below}
use Rattle.claim_rules.proofs.TheRemainder.{add_same, mul-same, small-multiple}

module _ {K : Type 0} {F : Ops K} (L : Laws F) where
  open signs F use {0#, 1#, ◌⊕◌, ◌⊗◌, ◌⊞◌, ◌⊠◌, ◌∣◌}

  -- what both polynomials lack, their sum lacks
  none-there : (f g : Series K) (k : ℕ) → f k ≡ 0# → g k ≡ 0# → (f ⊞ g) k ≡ 0#
  unfolding plus
  none-there f g k x y = ap₂ ◌⊕◌ x y ∙ L.zero-add 0#

  -- where f has no coefficient from e on, the quotient by monic p has none from e less the degree of p on
  quo-ends-up : (p f : List K) (e k : ℕ) → ((j : ℕ) → e ≤ j → coef F f j ≡ 0#) → length p ≤ e → e ≤ k + length p → coef F (quo F p f) k ≡ 0#
  quo-ends-up p f e k a n l = go (top? L (quo F p f))
    where
      go : (coef F (quo F p f) ≡ nought F) ⊎ ((j : ℕ) × (c : K) × (c ≢ 0#) × Top F (coef F (quo F p f)) j c) → coef F (quo F p f) k ≡ 0#
      go (inl z) = ap (λ g. g k) z
      go (inr t) = elim (dec_le k t.0) [
        | yes i ↦
            let P : Series K = coef F (monic F p) ⊠ coef F (quo F p f) in
            let R : Series K = coef F (rem F p f) in
            let same : P ≡ coef F f ⊞ R = sym (plus-back L R P) ∙ ap (λ g. R ⊞ g) (plus_comm L R P ∙ sym (division L p f)) ∙ plus_comm L R (coef F f) in
            absurd (t.2 (sym (L.one-mul t.1) ∙ sym (top-times L (monic-list L p) t.3).at ∙ ap (λ g. g (length p + t.0)) same
            ∙ none-there (coef F f) R (length p + t.0) (a (length p + t.0) (omega arith)) (get_or-eq_default (rem F p f) 0# (omega (arith, length-rem F p f)))))
        | no i ↦ t.3.above k (omega arith)
      ]

  -- a factor of one of two series is one of the other
  across-up : (c : K) (f g : Series K) → scale F c f ⊠ g ≡ scale F c g ⊠ f
  across-up c f g =
      times-comm L (scale F c f) g ∙ times-scale L c g f ∙ ap (scale F c) (times-comm L g f) ∙ sym (times-comm L (scale F c g) f ∙ times-scale L c f g)

  -- a combination of A and B is one of B and R
  exchange : (X Y A B D R : Series K) → A ≡ D ⊠ B ⊞ R → X ⊠ A ⊞ Y ⊠ B ≡ (Y ⊞ D ⊠ X) ⊠ B ⊞ X ⊠ R
  exchange X Y A B D R e =
      ap (λ g. X ⊠ g ⊞ Y ⊠ B) e ∙ ap (λ g. g ⊞ Y ⊠ B) (times-plus L X (D ⊠ B) R) ∙ plus_comm L (X ⊠ (D ⊠ B) ⊞ X ⊠ R) (Y ⊠ B)
      ∙ sym (plus_assoc L (Y ⊠ B) (X ⊠ (D ⊠ B)) (X ⊠ R))
      ∙ ap (λ g. g ⊞ X ⊠ R) (ap (λ g. Y ⊠ B ⊞ g) (times-left-comm L X D B ∙ sym (times-assoc L D X B)) ∙ sym (plus-times L Y (D ⊠ X) B))

  -- a series added twice
  twice : (f g : Series K) → (f ⊞ g) ⊞ g ≡ f
  twice f g = plus_assoc L f g g ∙ ap (λ h. f ⊞ h) (plus-self L g) ∙ plus_comm L f (nought F) ∙ nought-plus L f

module _ {G : Ops ℕ} {q : ℕ} (N : OnNumbers G q) where
  -- the field of elements, and its laws
  abbrev K : Ops (Elem q)
  K = elems N

  abbrev L : Laws K
  L = laws N

  -- what is shown of six lists of elements holds of numbers below q
  pub by-six : (P : List ℕ → List ℕ → List ℕ → List ℕ → List ℕ → List ℕ → Type 0)
      → ((a b c d e g : List (Elem q)) → P (low N a) (low N b) (low N c) (low N d) (low N e) (low N g))
      → (a b c d e g : List ℕ) → Below q a → Below q b → Below q c → Below q d → Below q e → Below q g → P a b c d e g
  by-six P f a b c d e g ha hb hc hd he hg =
      by_two N (λ a b. P a b c d e g) (λ a b. by_two N (λ c d. P (low N a) (low N b) c d e g) (λ c d. by_two N (P (low N a) (low N b) (low N c) (low N d)) (f a b c d) e g he hg) c d hc hd) a b ha hb

  -- where f has no coefficient from e on, the quotient by monic p has none from e less the degree of p on
  quo-ends : (p f : List ℕ) → Below q p → Below q f → (e k : ℕ) → ((j : ℕ) → e ≤ j → coef G f j ≡ G.zero) → length p ≤ e → e ≤ k + length p
      → coef G (quo G p f) k ≡ G.zero
  quo-ends = by_two N (λ p f. (e k : ℕ) → ((j : ℕ) → e ≤ j → coef G f j ≡ G.zero) → length p ≤ e → e ≤ k + length p → coef G (quo G p f) k ≡ G.zero)
      λ u v e k a n l.
      let x : length (low N u) ≡ length u = length-map u (λ x. x.0) in
      ap (λ g. coef G g k) (sym (low-quo N u v)) ∙ sym (low-coef N (quo K u v) k)
      ∙ ap (λ x. x.0) (quo-ends-up L u v e k (λ j i. elem-equal (low-coef N v j ∙ a j i)) (omega arith) (omega arith))

  -- so it may be cut
  pub quo-cut : (p f : List ℕ) (n : ℕ) → Below q p → Below q f → ((j : ℕ) → length p + n ≤ j → coef G f j ≡ G.zero)
      → coef G (take n (quo G p f)) ≡ coef G (quo G p f)
  quo-cut p f n hp hf a = fun_ext λ k. elim (dec_le (suc k) n) [
    | yes i ↦ get_or-take n (quo G p f) k G.zero i
    | no i ↦ get_or-eq_default (take n (quo G p f)) G.zero (omega (arith, length-take n (quo G p f)))
        ∙ sym (quo-ends p f hp hf (length p + n) k a (omega arith) (omega arith))
  ]

  -- the degrees of a product add
  pub product-ends : (a b : List ℕ) → Below q a → Below q b → (i j : ℕ) → ((k : ℕ) → i < k → coef G a k ≡ G.zero) → ((k : ℕ) → j < k → coef G b k ≡ G.zero)
      → (k : ℕ) → i + j < k → coef G (mul G a b) k ≡ G.zero
  product-ends = by_two N (λ a b. (i j : ℕ) → ((k : ℕ) → i < k → coef G a k ≡ G.zero) → ((k : ℕ) → j < k → coef G b k ≡ G.zero)
      → (k : ℕ) → i + j < k → coef G (mul G a b) k ≡ G.zero) λ a b i j x y k l.
      let s : Top K (coef K a) i (coef K a i) = record { at = refl; above = λ k l. elem-equal (low-coef N a k ∙ x k l) } in
      let t : Top K (coef K b) j (coef K b j) = record { at = refl; above = λ k l. elem-equal (low-coef N b k ∙ y k l) } in
      ap (λ g. coef G g k) (sym (low-mul N a b)) ∙ sym (low-coef N (mul K a b) k) ∙ ap (λ x. x.0) (ap (λ g. g k) (coef-mul L a b) ∙ (top-times L s t).above k l)

  -- no multiple of a polynomial that is not constant is 1
  pub no-unit : (s b : List ℕ) → Below q s → Below q b → (n : ℕ) → 0 < n → coef G b n ≢ G.zero → coef G (mul G s b) ≡ coef G (G.one ∷ []) → ⊥
  no-unit = by_two N (λ s b. (n : ℕ) → 0 < n → coef G b n ≢ G.zero → coef G (mul G s b) ≡ coef G (G.one ∷ []) → ⊥) λ s b n p z e.
      let whole : times K (coef K b) (coef K s) ≡ coef K (K.one ∷ []) =
      times-comm L (coef K b) (coef K s) ∙ sym (coef-mul L s b) ∙ coef-up N (mul K s b) (K.one ∷ []) (ap (coef G) (low-mul N s b) ∙ e) in
      let none : coef K (K.one ∷ []) ≡ nought K =
      small-multiple L b (K.one ∷ []) n (λ y. z (sym (low-coef N b n) ∙ ap (λ x. x.0) y)) (λ k l. get_or-eq_default (K.one ∷ []) K.zero {n = k} (omega arith))
      (subst (Divides K b) whole (divides-multiple L b s)) in
      N.one≢zero (ap (λ f. (f 0).0) none)

  -- a factor of one of two polynomials is one of the other
  pub across : (c : ℕ) → c < q → (a b : List ℕ) → Below q a → Below q b → coef G (mul G (map (G.mul c) a) b) ≡ coef G (mul G (map (G.mul c) b) a)
  across c hc = by_two N (λ a b. coef G (mul G (map (G.mul c) a) b) ≡ coef G (mul G (map (G.mul c) b) a)) λ a b.
      let y : Elem q = (c, hc) in
      let one : (a b : List (Elem q)) → low N (mul K (map (K.mul y) a) b) ≡ mul G (map (G.mul c) (low N a)) (low N b) =
      λ a b. low-mul N (map (K.mul y) a) b ∙ ap (λ u. mul G u (low N b)) (low-scale N y a) in
      let two : (a b : List (Elem q)) → coef K (mul K (map (K.mul y) a) b) ≡ times K (scale K y (coef K a)) (coef K b) =
      λ a b. coef-mul L (map (K.mul y) a) b ∙ ap (λ g. times K g (coef K b)) (coef-scale L y a) in
      ap (coef G) (sym (one a b)) ∙ coef-down N (mul K (map (K.mul y) a) b) (mul K (map (K.mul y) b) a) (two a b ∙ across-up L y (coef K a) (coef K b) ∙ sym (two b a))
      ∙ ap (coef G) (one b a)

  -- a combination of a and b is one of b and r
  pub combine-on : (x y a b d r : List ℕ) → Below q x → Below q y → Below q a → Below q b → Below q d → Below q r → coef G a ≡ coef G (add G (mul G d b) r)
      → coef G (add G (mul G x a) (mul G y b)) ≡ coef G (add G (mul G (add G y (mul G d x)) b) (mul G x r))
  combine-on = by-six (λ x y a b d r. coef G a ≡ coef G (add G (mul G d b) r)
      → coef G (add G (mul G x a) (mul G y b)) ≡ coef G (add G (mul G (add G y (mul G d x)) b) (mul G x r)))
      λ x y a b d r h.
      let e : coef K a ≡ plus K (times K (coef K d) (coef K b)) (coef K r) =
      coef-up N a (add K (mul K d b) r) (h ∙ ap (coef G) (sym (low-add N (mul K d b) r ∙ ap (λ u. add G u (low N r)) (low-mul N d b))))
      ∙ coef-add L (mul K d b) r ∙ ap (λ g. plus K g (coef K r)) (coef-mul L d b) in
      let z : List (Elem q) = add K y (mul K d x) in
      let sum : (s t u v : List (Elem q)) → coef K (add K (mul K s t) (mul K u v)) ≡ plus K (times K (coef K s) (coef K t)) (times K (coef K u) (coef K v)) =
      λ s t u v. coef-add L (mul K s t) (mul K u v) ∙ ap₂ (plus K) (coef-mul L s t) (coef-mul L u v) in
      let low_sum : (s t u v : List (Elem q)) → low N (add K (mul K s t) (mul K u v)) ≡ add G (mul G (low N s) (low N t)) (mul G (low N u) (low N v)) =
      λ s t u v. low-add N (mul K s t) (mul K u v) ∙ ap₂ (add G) (low-mul N s t) (low-mul N u v) in
      let low-z : low N z ≡ add G (low N y) (mul G (low N d) (low N x)) = low-add N y (mul K d x) ∙ ap (add G (low N y)) (low-mul N d x) in
      let same : coef K (add K (mul K x a) (mul K y b)) ≡ coef K (add K (mul K z b) (mul K x r)) =
      sum x a y b ∙ exchange L (coef K x) (coef K y) (coef K a) (coef K b) (coef K d) (coef K r) e
      ∙ ap (λ g. plus K (times K g (coef K b)) (times K (coef K x) (coef K r))) (sym (coef-add L y (mul K d x) ∙ ap (plus K (coef K y)) (coef-mul L d x)))
      ∙ sym (sum z b x r) in
      ap (coef G) (sym (low_sum x a y b)) ∙ coef-down N (add K (mul K x a) (mul K y b)) (add K (mul K z b) (mul K x r)) same
      ∙ ap (coef G) (low_sum z b x r ∙ ap (λ u. add G (mul G u (low N b)) (mul G (low N x) (low N r))) low-z)

  -- a polynomial added twice
  added_twice : (y z : List ℕ) → Below q y → Below q z → coef G (add G (add G y z) z) ≡ coef G y
  added_twice = by_two N (λ y z. coef G (add G (add G y z) z) ≡ coef G y) λ y z.
      ap (coef G) (sym (low-add N (add K y z) z ∙ ap (λ u. add G u (low N z)) (low-add N y z)))
      ∙ coef-down N (add K (add K y z) z) y (coef-add L (add K y z) z ∙ ap (λ g. plus K g (coef K z)) (coef-add L y z) ∙ twice L (coef K y) (coef K z))

  -- COMBINE-BACK
  pub combine-back : (x y a b d r : List ℕ) → Below q x → Below q y → Below q a → Below q b → Below q d → Below q r → coef G a ≡ coef G (add G (mul G d b) r)
      → coef G (add G (mul G x a) (mul G (add G y (mul G d x)) b)) ≡ coef G (add G (mul G y b) (mul G x r))
  combine-back x y a b d r hx hy ha hb hd hr h =
      let z : List ℕ = mul G d x in
      let hz : Below q z = mul-below N d x hd hx in
      let hs : Below q (add G y z) = add-below N y z hy hz in
      let ht : Below q (add G (add G y z) z) = add-below N (add G y z) z hs hz in
      combine-on x (add G y z) a b d r hx hs ha hb hd hr h
      ∙ add_same N (mul G (add G (add G y z) z) b) (mul G x r) (mul G y b) (mul G x r) (mul-below N (add G (add G y z) z) b ht hb) (mul-below N x r hx hr)
      (mul-below N y b hy hb) (mul-below N x r hx hr) (mul-same N (add G (add G y z) z) b y b ht hb hy hb (added_twice y z hy hz) refl) refl
