-- Sequences that a short register makes: f of degree at most d, whose product with s has no odd coefficient among the
-- first 2m. Two such f of degrees l and v with l + v at most 2m go on together (Massey): so the register of `Key.antt`
-- is never longer than the locator polynomial that it looks for.
--   ShortFor s m f d     f has degree at most d, and the first m odd coefficients of f s are 0
--   product-none      a coefficient of a product is 0 where one of the two factors is, in each term
--   register-goes-on           where t of degree v makes all of s, an f of degree l that makes l + v of s makes all of
--                              it
--   massey            so an f that fails has l + v above 2m
--   short-wider, short-plus, short-scale   of a larger bound, of a sum, of a multiple
--   short-front, short-next                of z^2 f, and one turn more
--   scale-times, starting_with-next, starting_with-two   the product of a multiple, of z f, of z^2 f
-- Assumes nothing.
use mathlib.Core.Path.{◌≡◌, sym, ap, ap₂, ◌∙◌, fun_ext}
use mathlib.Core.Logic.{◌≢◌, ◌⊎◌, inl, inr, ⊎_elim}
use Prim.Native.Nat.{ℕ, zero, suc, ◌+◌, ◌*◌, ◌≤◌, ◌<◌}
use native.Mathlib.Nat.{eq-or-lt_of_le, not-suc-le-zero}
use native.Mathlib.Decide.{dec_le}
use native.Mathlib.Omega.{arith}
use Rattle.algebra.specs.Field.{Ops, Laws}
use Rattle.algebra.proofs.Series.{Series, after_first, starting_with, plus, scale, times, nought}
use Rattle.algebra.proofs.Series as S
use Rattle.algebra.proofs.Elements as E
use Rattle.corrector_code.proofs.Odd.{odd}
use Rattle.corrector_code.proofs.Odd as H
use Rattle.algebra.proofs.Signs.{signs}

-- f has degree at most d, and the first m odd coefficients of f s are 0
pub record ShortFor {K : Type 0} (F : Ops K) (s : Series K) (m : ℕ) (f : Series K) (d : ℕ) : Type 0 where
  pub ends : (k : ℕ) → d < k → f k ≡ F.zero
  pub gap : (i : ℕ) → i < m → times F f s (suc (2 * i)) ≡ F.zero

module _ {K : Type 0} {F : Ops K} (L : Laws F) where
  open signs F use {0#, 1#, ◌⊕◌, ◌⊗◌, ◌⊞◌, ◌⊠◌}
  open L use {zero-add, one-mul}

  -- a coefficient of a product is 0 where one of the two factors is, in each term
  pub product-none : (k : ℕ) (f g : Series K) → ((i j : ℕ) → i + j ≡ k → (f i ≡ 0#) ⊎ (g j ≡ 0#)) → (f ⊠ g) k ≡ 0#
  unfolding times
  product-none zero f g h = ⊎_elim (λ e. ap (λ x. x ⊗ g 0) e ∙ E.zero-mul L (g 0)) (λ e. ap (λ x. f 0 ⊗ x) e ∙ E.mul-zero L (f 0)) (h 0 0 (omega arith))
  product-none (suc k) f g h =
      ap₂ ◌⊕◌ (⊎_elim (λ e. ap (λ x. x ⊗ g (suc k)) e ∙ E.zero-mul L (g (suc k))) (λ e. ap (λ x. f 0 ⊗ x) e ∙ E.mul-zero L (f 0)) (h 0 (suc k) (omega arith)))
      (product-none k (after_first f) g (λ i j e. h (suc i) j (omega arith))) ∙ zero-add 0#

  -- (f t)' s^2 = (f s)' (t s), where t s has no odd coefficient
  crossed : (f t s : Series K) → odd F (t ⊠ s) ≡ nought F → odd F (f ⊠ t) ⊠ (s ⊠ s) ≡ odd F (f ⊠ s) ⊠ (t ⊠ s)
  crossed f t s e =
      sym (H.leibniz L (f ⊠ t) (s ⊠ s) ∙ ap (λ w. odd F (f ⊠ t) ⊠ (s ⊠ s) ⊞ w) (ap (λ w. f ⊠ t ⊠ w) (H.odd-square L s) ∙ S.times-nought L (f ⊠ t)) ∙ none _)
      ∙ ap (odd F) (S.times-assoc L f t (s ⊠ s) ∙ ap (λ w. f ⊠ w) (S.times-left-comm L t s s) ∙ sym (S.times-assoc L f s (t ⊠ s)))
      ∙ H.leibniz L (f ⊠ s) (t ⊠ s) ∙ ap (λ w. odd F (f ⊠ s) ⊠ (t ⊠ s) ⊞ w) (ap (λ w. f ⊠ s ⊠ w) e ∙ S.times-nought L (f ⊠ s)) ∙ none _
    where
      none : (g : Series K) → g ⊞ nought F ≡ g
      none g = S.plus_comm L g (nought F) ∙ S.nought-plus L g

  -- where t of degree v makes all of s, an f of degree l that makes l + v of s makes all of it
  pub register-goes-on : {s f t : Series K} {m l v : ℕ} → ShortFor F s m f l → s 0 ≡ 1# → t 0 ≡ 1# → ((n : ℕ) → ShortFor F s n t v) → l + v ≤ 2 * m → odd F (f ⊠ s) ≡ nought F
  unfolding times
  register-goes-on {s} {f} {t} {m} {l} {v} a start one makes h =
      fun_ext λ k. H.unit-below L (suc k) (odd F (f ⊠ s)) (t ⊠ s) (ap₂ ◌⊗◌ one start ∙ one-mul 1#)
      (λ j e. ap (λ g. g j) (sym (crossed f t s whole)) ∙ none-at (s ⊠ s) j) k (omega arith)
    where
      whole : odd F (t ⊠ s) ≡ nought F
      whole = fun_ext λ k. H.odd-below L (t ⊠ s) k (makes k).gap k (omega arith)

      -- (f t)' has degree at most 2m, and no coefficient up to there
      low : (k : ℕ) → k < suc (2 * m) → odd F (f ⊠ t) k ≡ 0#
      low = H.unit-below L (suc (2 * m)) (odd F (f ⊠ t)) (s ⊠ s) (ap₂ ◌⊗◌ start start ∙ one-mul 1#)
          (λ k e. ap (λ g. g k) (crossed f t s whole) ∙ product-none k (odd F (f ⊠ s)) (t ⊠ s) (λ i j p. inl (H.odd-below L (f ⊠ s) m a.gap i (omega arith))))

      high : (k : ℕ) → 2 * m < k → odd F (f ⊠ t) k ≡ 0#
      high k e =
          H.odd-none L (f ⊠ t) k (product-none k f t (λ i j p. elim (dec_le (suc l) i) [ yes q ↦ inl (a.ends i q) | no q ↦ inr ((makes 0).ends j (omega arith)) ]))

      none-at : (g : Series K) (k : ℕ) → (odd F (f ⊠ t) ⊠ g) k ≡ 0#
      none-at g k = product-none k (odd F (f ⊠ t)) g (λ i j p. inl (elim (dec_le i (2 * m)) [ yes q ↦ low i (omega arith) | no q ↦ high i (omega arith) ]))

  -- so an f that fails has l + v above 2m
  pub massey : {s f t : Series K} {m l v : ℕ} → ShortFor F s m f l → s 0 ≡ 1# → t 0 ≡ 1# → ((n : ℕ) → ShortFor F s n t v) → (f ⊠ s) (suc (2 * m)) ≢ 0# → suc (2 * m) ≤ l + v
  massey {s} {f} {t} {m} {l} {v} a start one makes fails =
      elim (dec_le (suc (2 * m)) (l + v))
      [ yes h ↦ h | no h ↦ absurd (fails (sym (H.odd-odd L m (f ⊠ s)) ∙ ap (λ g. g (suc (2 * m))) (register-goes-on a start one makes (omega arith)))) ]

  -- ---- what keeps a sequence short

  pub short-wider : {s f : Series K} {m d e : ℕ} → d ≤ e → ShortFor F s m f d → ShortFor F s m f e
  short-wider h a = record { ends = λ k l. a.ends k (omega arith); gap = a.gap }

  pub short-plus : {s f g : Series K} {m d : ℕ} → ShortFor F s m f d → ShortFor F s m g d → ShortFor F s m (f ⊞ g) d
  unfolding plus
  short-plus {s} {f} {g} a b = record {
    ends = λ k l. ap₂ ◌⊕◌ (a.ends k l) (b.ends k l) ∙ zero-add 0#;
    gap = λ i l. ap (λ h. h (suc (2 * i))) (S.plus-times L f g s) ∙ ap₂ ◌⊕◌ (a.gap i l) (b.gap i l) ∙ zero-add 0#;
  }

  pub scale-times : (c : K) (f s : Series K) (k : ℕ) → (scale F c f ⊠ s) k ≡ c ⊗ (f ⊠ s) k
  unfolding scale
  scale-times c f s k = ap (λ h. h k) (S.times-comm L (scale F c f) s ∙ S.times-scale L c s f ∙ ap (scale F c) (S.times-comm L s f))

  pub short-scale : {s f : Series K} {m d : ℕ} (c : K) → ShortFor F s m f d → ShortFor F s m (scale F c f) d
  unfolding scale
  short-scale {s} {f} c a = record {
    ends = λ k l. ap (λ x. c ⊗ x) (a.ends k l) ∙ E.mul-zero L c;
    gap = λ i l. scale-times c f s (suc (2 * i)) ∙ ap (λ x. c ⊗ x) (a.gap i l) ∙ E.mul-zero L c;
  }

  pub starting_with-next : (f s : Series K) (k : ℕ) → (starting_with 0# f ⊠ s) (suc k) ≡ (f ⊠ s) k
  unfolding times starting_with
  starting_with-next f s k = ap (λ x. x ⊕ (f ⊠ s) k) (E.zero-mul L (s (suc k))) ∙ zero-add ((f ⊠ s) k)

  -- z^2 f goes two places on
  pub starting_with-two : (f s : Series K) (k : ℕ) → (starting_with 0# (starting_with 0# f) ⊠ s) (suc (suc k)) ≡ (f ⊠ s) k
  starting_with-two f s k = starting_with-next (starting_with 0# f) s (suc k) ∙ starting_with-next f s k

  pub short-front : {s f : Series K} {m d : ℕ} → ShortFor F s m f d → ShortFor F s (suc m) (starting_with 0# (starting_with 0# f)) (suc (suc d))
  unfolding starting_with times
  short-front {s} {f} {m} {d} a = record {
    ends = elim [ zero ↦ λ l. absurd (not-suc-le-zero l) | suc zero ↦ λ l. absurd (omega arith) | suc (suc k) ↦ λ l. a.ends k (omega arith) ];
    gap = elim [ zero ↦ λ l. starting_with-next (starting_with 0# f) s 0 ∙ E.zero-mul L (s 0) | suc i ↦ λ l. ap (starting_with 0# (starting_with 0# f) ⊠ s) (three i) ∙ starting_with-two f s (suc (2 * i)) ∙ a.gap i (omega arith) ];
  }
    where
      three : (i : ℕ) → suc (2 * suc i) ≡ suc (suc (suc (2 * i)))
      three i = omega arith

  pub short-next : {s f : Series K} {m d : ℕ} → ShortFor F s m f d → (f ⊠ s) (suc (2 * m)) ≡ 0# → ShortFor F s (suc m) f d
  short-next {s} {f} {m} {d} a e = record {
    ends = a.ends;
    gap = λ i l. ⊎_elim (λ h. let same : i ≡ m = omega (arith, h) in ap (λ j. (f ⊠ s) (suc (2 * j))) same ∙ e) (λ h. a.gap i (omega arith)) (eq-or-lt_of_le l);
  }
