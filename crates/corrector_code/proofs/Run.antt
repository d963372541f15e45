-- The register of `Key.antt` turn by turn: it stays as short as any sequence t that makes all of s, and makes what it
-- has seen.
--   RegisterAfter    what holds of the register after n turns
--   conv-is          the coefficient of a product, on lists and on sequences
--   register-runs    it holds after every turn
-- Assumes nothing.
use mathlib.Core.Path.{◌≡◌, refl, sym, ap, ap₂, ◌∙◌, fun_ext}
use mathlib.Core.Logic.{◌≢◌, ◌↔◌}
use mathlib.Core.Bool.{Bool, true, false, cond}
use mathlib.Core.List.{List, [], ◌∷◌, map}
use Prim.Native.Nat.{ℕ, zero, suc, ◌+◌, ◌*◌, ◌≤◌, ◌<◌}
use native.Mathlib.Nat.{not-suc-le-zero}
use native.Mathlib.Omega.{arith}
use lib.Dec.{T, ltb}
use lib.ListN.{length, take, replicate, length-map, length-take, length-replicate}
use borrow.Author.Tests.{ltb-true, ltb-false}
use Rattle.algebra.specs.Field.{Ops, Laws}
use Rattle.algebra.specs.Polynomial.{coef}
use Rattle.algebra.proofs.Series.{Series, starting_with, plus, scale, times, nought}
use Rattle.algebra.proofs.Series as S
use Rattle.algebra.proofs.Elements as E
use Rattle.algebra.proofs.Coefficients as P
use Rattle.algebra.proofs.Lengths.{length-add}
use Rattle.corrector_code.specs.Key.{Register, conv, shift, plus_times, mend, turn, register}
use Rattle.corrector_code.proofs.Massey.{ShortFor}
use Rattle.corrector_code.proofs.Massey as M
use Rattle.algebra.proofs.Signs.{signs}

-- what holds of the register after n turns on s, where some sequence of degree v makes all of s
pub record RegisterAfter {K : Type 0} (F : Ops K) (s : Series K) (v N n : ℕ) (r : Register K) : Type 0 where
  pub balance : r.low + r.high ≡ suc (2 * n)
  pub small : r.low ≤ v
  pub first : coef F r.locator 0 ≡ F.one
  pub good : ShortFor F s n (coef F r.locator) r.low
  pub clear : coef F r.spare 0 ≡ F.zero
  pub other : r.high < N → ShortFor F s n (coef F r.spare) r.high × (times F (coef F r.spare) s (suc (2 * n)) ≡ F.one)
  pub long : length r.locator ≡ N
  pub long-spare : length r.spare ≡ N

module _ {K : Type 0} {F : Ops K} (L : Laws F) where
  open signs F use {0#, 1#, ◌⊕◌, ◌⊗◌, ◌⊞◌, ◌⊠◌}
  open L use {zero-add, add-self, one-mul, mul_comm, mul-inv, zero_test}

  -- ---- the list functions, as operations on sequences

  pub conv-is : (p : List K) (s : Series K) (k : ℕ) → conv F p s k ≡ (coef F p ⊠ s) k
  unfolding conv times
  conv-is [] s k = sym (S.nought-at L s k)
  conv-is (c ∷ p) s zero = refl
  conv-is (c ∷ p) s (suc k) = ap (λ x. c ⊗ s (suc k) ⊕ x) (conv-is p s k)

  plus_times-is : (p : List K) (d : K) (q : List K) → coef F (plus_times F p d q) ≡ coef F p ⊞ scale F d (coef F q)
  unfolding plus_times
  plus_times-is p d q = P.coef-add L p (map (F.mul d) q) ∙ ap (λ w. coef F p ⊞ w) (P.coef-scale L d q)

  cut-zeros : (n : ℕ) (l : List K) → ((k : ℕ) → n ≤ k → coef F l k ≡ 0#) → (k : ℕ) → coef F (take n l) k ≡ coef F l k
  cut-zeros zero l h k = sym (h k (omega arith))
  cut-zeros (suc n) [] h k = refl
  cut-zeros (suc n) (c ∷ l) h zero = refl
  cut-zeros (suc n) (c ∷ l) h (suc k) = cut-zeros n l (λ j e. h (suc j) (omega arith)) k

  shift_is : (p : List K) → ((k : ℕ) → length p ≤ suc (suc k) → coef F p k ≡ 0#) → coef F (shift F p) ≡ starting_with 0# (starting_with 0# (coef F p))
  unfolding shift
  shift_is p h =
      fun_ext (cut-zeros (length p) (0# ∷ 0# ∷ p) (elim [ zero ↦ λ e. refl | suc zero ↦ λ e. refl | suc (suc k) ↦ λ e. h k e ]))
      ∙ P.coef-cons L 0# (0# ∷ p) ∙ ap (starting_with 0#) (P.coef-cons L 0# p)

  length_shift : (p : List K) → length (shift F p) ≡ length p
  unfolding shift
  length_shift p = length-take (length p) (0# ∷ 0# ∷ p) ∙ (omega arith)

  shift-clear : (p : List K) → coef F (shift F p) 0 ≡ 0#
  unfolding shift
  shift-clear [] = refl
  shift-clear (c ∷ p) = refl

  length-plus_times : (p : List K) (d : K) (q : List K) → length p ≡ length q → length (plus_times F p d q) ≡ length q
  unfolding plus_times
  length-plus_times p d q e = length-add F p (map (F.mul d) q) (omega (arith, length-map q (F.mul d))) ∙ length-map q (F.mul d)

  -- two places on
  on-two : (n : ℕ) → suc (2 * suc n) ≡ suc (suc (suc (2 * n)))
  on-two n = omega arith

  -- z^2 p where p is short: the next spare
  next-spare : {s : Series K} {n N d : ℕ} (p : List K) → length p ≡ N → (d < N → ShortFor F s n (coef F p) d × ((coef F p ⊠ s) (suc (2 * n)) ≡ 1#))
      → suc (suc d) < N → ShortFor F s (suc n) (coef F (shift F p)) (suc (suc d)) × ((coef F (shift F p) ⊠ s) (suc (2 * suc n)) ≡ 1#)
  next-spare {s} {n} {N} {d} p e h l =
      let (a, one) = h (omega arith) in
      let z : coef F (shift F p) ≡ starting_with 0# (starting_with 0# (coef F p)) = shift_is p (λ k m. a.ends k (omega arith)) in
      (rw z (M.short-front L a), ap₂ (λ f k. (f ⊠ s) k) z (on-two n) ∙ M.starting_with-two L (coef F p) s (suc (2 * n)) ∙ one)

  module _ (s t : Series K) (v N : ℕ) (fits : v < N) (start : s 0 ≡ 1#) (one : t 0 ≡ 1#) (makes : (n : ℕ) → ShortFor F s n t v) where
    abbrev Runs : ℕ → Register K → Type 0
    Runs n r = RegisterAfter F s v N n r

    -- the locator after a nonzero discrepancy d
    module _ {n : ℕ} {r : Register K} (d : K) (w : Runs n r) (is : (coef F r.locator ⊠ s) (suc (2 * n)) ≡ d) (some : d ≢ 0#) where
      -- Massey: the spare is no longer than t
      enough : r.high ≤ v
      enough = omega (arith, w.balance, M.massey L w.good start one makes (λ e. some (sym is ∙ e)))

      spare-good : ShortFor F s n (coef F r.spare) r.high × ((coef F r.spare ⊠ s) (suc (2 * n)) ≡ 1#)
      spare-good = w.other (omega (arith, enough))

      mended : (m : ℕ) → r.low ≤ m → r.high ≤ m → ShortFor F s (suc n) (coef F (plus_times F r.locator d r.spare)) m
      unfolding plus
      mended m a b =
          rw plus_times-is
          (M.short-next L (M.short-plus L (M.short-wider L a w.good) (M.short-scale L d (M.short-wider L b spare-good.0)))
          (ap (λ f. f (suc (2 * n))) (S.plus-times L (coef F r.locator) (scale F d (coef F r.spare)) s)
          ∙ ap₂ ◌⊕◌ is (M.scale-times L d (coef F r.spare) s (suc (2 * n)) ∙ ap (λ x. d ⊗ x) spare-good.1 ∙ mul_comm d 1# ∙ one-mul d) ∙ add-self d))

      mended-first : coef F (plus_times F r.locator d r.spare) 0 ≡ 1#
      unfolding plus scale
      mended-first = ap (λ f. f 0) (plus_times-is r.locator d r.spare) ∙ ap₂ (λ x y. x ⊕ d ⊗ y) w.first w.clear ∙ ap (λ x. 1# ⊕ x) (E.mul-zero L d) ∙ E.add-zero L 1#

      mended-long : length (plus_times F r.locator d r.spare) ≡ N
      mended-long = length-plus_times r.locator d r.spare (w.long ∙ sym w.long-spare) ∙ w.long-spare

      -- the old locator, divided by d
      old-long : length (map (F.mul (F.inv d)) r.locator) ≡ N
      old-long = length-map r.locator (F.mul (F.inv d)) ∙ w.long

      old-good : ShortFor F s n (coef F (map (F.mul (F.inv d)) r.locator)) r.low × ((coef F (map (F.mul (F.inv d)) r.locator) ⊠ s) (suc (2 * n)) ≡ 1#)
      old-good =
          rw (P.coef-scale L (F.inv d) r.locator)
          (M.short-scale L (F.inv d) w.good, M.scale-times L (F.inv d) (coef F r.locator) s (suc (2 * n)) ∙ ap (λ x. F.inv d ⊗ x) is ∙ mul_comm (F.inv d) d ∙ mul-inv d some)

      mend-runs : Runs (suc n) (mend F d r)
      unfolding mend
      mend-runs = go (ltb r.low r.high) (ltb-true r.low r.high) (ltb-false r.low r.high)
        where
          go : (b : Bool) → (b ≡ true → r.low < r.high) → (b ≡ false → r.high ≤ r.low) → Runs (suc n) (cond b
              (record { locator = plus_times F r.locator d r.spare; spare = shift F (map (F.mul (F.inv d)) r.locator); low = r.high; high = suc (suc r.low) })
              (record { locator = plus_times F r.locator d r.spare; spare = shift F r.spare; low = r.low; high = suc (suc r.high) }))
          go true x y = record {
            balance = omega (arith, w.balance);
            small = enough;
            first = mended-first;
            good = mended r.high (omega (arith, x refl)) (omega arith);
            clear = shift-clear (map (F.mul (F.inv d)) r.locator);
            other = next-spare (map (F.mul (F.inv d)) r.locator) old-long (λ l. old-good);
            long = mended-long;
            long-spare = length_shift (map (F.mul (F.inv d)) r.locator) ∙ old-long;
          }
          go false x y = record {
            balance = omega (arith, w.balance);
            small = w.small;
            first = mended-first;
            good = mended r.low (omega arith) (y refl);
            clear = shift-clear r.spare;
            other = next-spare r.spare w.long-spare w.other;
            long = mended-long;
            long-spare = length_shift r.spare ∙ w.long-spare;
          }

    turn-runs : {n : ℕ} {r : Register K} → Runs n r → Runs (suc n) (turn F s n r)
    unfolding turn
    turn-runs {n} {r} w = go (F.is_zero (conv F r.locator s (suc (2 * n)))) (zero_test (conv F r.locator s (suc (2 * n))))
      where
        go : (b : Bool) → T b ↔ (conv F r.locator s (suc (2 * n)) ≡ 0#) → Runs (suc n) (cond b
            (record { locator = r.locator; spare = shift F r.spare; low = r.low; high = suc (suc r.high) }) (mend F (conv F r.locator s (suc (2 * n))) r))
        go true e = record {
          balance = omega (arith, w.balance);
          small = w.small;
          first = w.first;
          good = M.short-next L w.good (sym (conv-is r.locator s (suc (2 * n))) ∙ e.0 tt);
          clear = shift-clear r.spare;
          other = next-spare r.spare w.long-spare w.other;
          long = w.long;
          long-spare = length_shift r.spare ∙ w.long-spare;
        }
        go false e = mend-runs (conv F r.locator s (suc (2 * n))) w (sym (conv-is r.locator s (suc (2 * n)))) e.1

  -- ---- the first register, and all

  zeros-at : (n k : ℕ) → coef F (replicate n 0#) k ≡ 0#
  zeros-at zero k = refl
  zeros-at (suc n) zero = refl
  zeros-at (suc n) (suc k) = zeros-at n k

  start-runs : (s : Series K) (v m : ℕ) → s 0 ≡ 1# → RegisterAfter F s v (suc m) 0 (register F m s 0)
  unfolding register times
  start-runs s v m start =
      let one : List K = 1# ∷ replicate m 0# in
      let z : List K = 0# ∷ 1# ∷ replicate m 0# in
      record {
        balance = omega arith;
        small = omega arith;
        first = refl;
        good = record { ends = elim [ zero ↦ λ l. absurd (not-suc-le-zero l) | suc k ↦ λ l. zeros-at m k ]; gap = λ i l. absurd (not-suc-le-zero l) };
        clear = refl;
        other = λ l.
            let up : (k : ℕ) → 1 < k → coef F z k ≡ 0# = elim [ zero ↦ λ h. absurd (not-suc-le-zero h) | suc zero ↦ λ h. absurd (omega arith) | suc (suc k) ↦ λ h. zeros-at m k ] in
            let same : coef F (take (suc m) z) ≡ coef F z = fun_ext (cut-zeros (suc m) z (λ k h. up k (omega arith))) in (
              rw same (record { ends = up; gap = λ i h. absurd (not-suc-le-zero h) }),
              ap (λ f. (f ⊠ s) 1) same ∙ ap₂ ◌⊕◌ (E.zero-mul L (s 1)) (one-mul (s 0)) ∙ zero-add (s 0) ∙ start,
            );
        long = ap suc (length-replicate m 0#);
        long-spare = length-take (suc m) z ∙ omega (arith, length-replicate m 0#);
      }

  -- the register stays as short as any f that makes all of s
  pub register-runs : (s f : Series K) (v m : ℕ) → v ≤ m → s 0 ≡ 1# → f 0 ≡ 1# → ((n : ℕ) → ShortFor F s n f v) → (n : ℕ) → RegisterAfter F s v (suc m) n (register F m s n)
  unfolding register
  register-runs s f v m h start one makes zero = start-runs s v m start
  register-runs s f v m h start one makes (suc n) = turn-runs s f v (suc m) (omega arith) start one makes (register-runs s f v m h start one makes n)
