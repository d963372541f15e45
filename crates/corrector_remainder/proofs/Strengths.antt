-- THE REMAINDER OF A WORD AT A STRENGTH: what is left of its remainder by the generator of a higher strength when the
-- digits from 11 t on are cut.
--   rest-own               at strength s: the remainder by the generator of strength s
--   rest-by                at t, at most s: that with the digits from 11 t on cut
--   rest-lessened          the same with each digit cut where the number is then less
--   raised_test, raised_at   the generators, moved up to the highest digit of a register
--   rest-exists            there is one
--   zero-values            where it is 0 the values of the word are 0: it is a codeword of strength t
-- Assumes nothing.
use mathlib.Core.Bool.{Bool}
use mathlib.Core.List.{List}
use mathlib.Core.Path.{◌≡◌, refl, sym, ap, ◌∙◌, subst}
use Prim.Native.Nat.{ℕ, ◌+◌, ◌-◌, ◌*◌, ◌/◌, ◌^◌, ◌≤◌, ◌<◌}
use native.Mathlib.Omega.{arith}
use lib.Dec.{T}
use lib.ListN.{get_or}
use Rattle.field.specs.Field.{field_at, reduce}
use Rattle.field.proofs.Generator.{one_below}
use Rattle.corrector_code.specs.Digits.{value_of_digits}
use Rattle.corrector_code.proofs.Eleven.{gen11}
use Rattle.corrector_code.proofs.Values.{value_of_digits-zero}
use Rattle.corrector_generator.specs.Generators.{generator_of, generator_at, odd_power}
use Rattle.corrector_generator.proofs.Tables.{each, each_at}
use Rattle.corrector_generator.proofs.Zeros.{generator-top, generator-zero, rest_below, rest-values}
use Rattle.corrector_remainder.specs.Remainder.{lessened, RestAt}
use Rattle.corrector_remainder.proofs.Lowering.{lowered, lowered-below, lowered-values, lessened-lowered}

-- the remainder by the generator of that strength
pub rest-own : (s W : ℕ) {n : ℕ} → 1 ≤ s → s ≤ 8 → n ≡ reduce (generator_at s) W → RestAt s W n
rest-own s W least most e = record {
  below = rest_below s least most W e;
  values = λ k h. ap (value_of_digits (field_at 11) (odd_power k)) e ∙ rest-values s least most W k h;
}

-- from the remainder by the generator of a strength s that is at least t
pub rest-by : (s t W : ℕ) {r g c : ℕ} → 1 ≤ t → t ≤ s → s ≤ 8 → r ≡ reduce (generator_at s) W
    → g ≡ generator_of t * 2 ^ (11 * s - 11 * t) / 2
    → c ≡ lowered (11 * s - 11 * t) (11 * t) g r → RestAt t W c
rest-by s t W {r} {g} {c} least most top er eg ec =
    let n : ℕ = 11 * s - 11 * t in
    let e : 11 * s ≡ 11 * t + n = omega arith in
    let own = rest-own s W (omega arith) top er in
    let small : r < 2 ^ (11 * t + n) = subst (λ (m : ℕ). r < 2 ^ m) e own.below in
    let high = generator-top t least (omega arith) in
    record {
      below = subst (λ (x : ℕ). x < 2 ^ (11 * t)) (sym ec) (lowered-below (generator_of t) (11 * t) high n g r eg small);
      values = λ k h. ap (value_of_digits (field_at 11) (odd_power k)) ec
          ∙ lowered-values (generator_of t) (11 * t) high (odd_power k) (generator-zero t least (omega arith) k h) n g r
          eg
          ∙ own.values k (omega arith);
    }

-- and with each digit cut where the number is then less
pub rest-lessened : (s t W : ℕ) {r g c n : ℕ} → 1 ≤ t → t ≤ s → s ≤ 8 → r ≡ reduce (generator_at s) W → n ≡ 11 * (s - t)
    → g ≡ generator_of t * 2 ^ (11 * (s - t)) / 2 → c ≡ lessened n g r → RestAt t W c
rest-lessened s t W {r} {g} {c} {n} least most top er en up ec =
    let eg : g ≡ generator_of t * 2 ^ n / 2 = up ∙ ap (λ m. generator_of t * 2 ^ m / 2) (sym en) in
    let all : 11 * s ≡ 11 * t + n = omega arith in
    let left : n ≡ 11 * s - 11 * t = omega arith in
    let small : r < 2 ^ (11 * t + n) = subst (λ (m : ℕ). r < 2 ^ m) all (rest-own s W (omega arith) top er).below in
    let cut = lessened-lowered (generator_of t) (11 * t) (generator-top t least (omega arith)) n g r eg small in
    rest-by s t W least most top er (eg ∙ ap (λ m. generator_of t * 2 ^ m / 2) left)
    (ec ∙ cut ∙ ap (λ m. lowered m (11 * t) g r) left)

-- the generators, moved up to the highest of 11 s digits: one computed test
unfoldable pub raised_test : ℕ → List ℕ → Bool
raised_test s l = each (λ i. generator_of (i + 1) * 2 ^ (11 * (s - (i + 1))) / 2) 0 s l

pub raised_at : (s t : ℕ) (l : List ℕ) → T (raised_test s l) → 1 ≤ t → t ≤ s
    → get_or l (t - 1) 0 ≡ generator_of t * 2 ^ (11 * (s - t)) / 2
unfolding raised_test
raised_at s t l test least most =
    let e : t - 1 + 0 + 1 ≡ t = omega arith in
    each_at (λ i. generator_of (i + 1) * 2 ^ (11 * (s - (i + 1))) / 2) 0 s l (t - 1) test (omega arith)
    ∙ ap (λ m. generator_of m * 2 ^ (11 * (s - m)) / 2) e

-- THERE IS ONE
pub rest-exists : (t W : ℕ) → 1 ≤ t → t ≤ 8 → (n : ℕ) × RestAt t W n
rest-exists t W least most =
    let g : ℕ = generator_of t * 2 ^ (88 - 11 * t) / 2 in (
      lowered (88 - 11 * t) (11 * t) g (reduce (generator_at 8) W),
      rest-by 8 t W least most (omega arith) refl refl refl,
    )

-- A REMAINDER OF 0 MAKES THE WORD A CODEWORD: its values at a, a^3, .., a^(2t-1) are 0
pub zero-values : {t W : ℕ} → RestAt t W 0 → (k : ℕ) → k < t → value_of_digits (field_at 11) (odd_power k) W ≡ 0
zero-values r k h =
    sym (r.values k h) ∙ value_of_digits-zero (field_at 11) gen11.monic (one_below (field_at 11) gen11) (odd_power k)
