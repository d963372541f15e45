-- Soundness in one pass over the slots of a table (RULES 4.1), as code goes: factor by factor, each test where its
-- slots are.
--   Scanned          what a pass over n factors and the slots behind them has found;  scan-exactly  it is what
--                    `fair_blocks` tests
--   count-follows    "slot 2 is at most the limit" follows from the rules for degrees, so a pass need not test it
--   ScanPassed       the tests of the code
--   SOUND-BY-PASS    they pass exactly where the slots are sound
-- Assumes nothing.
use mathlib.Core.Path.{◌≡◌, refl, ap}
use mathlib.Core.Logic.{◌↔◌}
use mathlib.Core.Bool.{Bool, true, and-eq-true_iff}
use mathlib.Core.List.{List, [], ◌∷◌}
use Prim.Native.Nat.{ℕ, zero, suc, ◌-◌, ◌^◌, ◌≤◌}
use native.Mathlib.Omega.{arith}
use borrow.Author.Tests.{leb-true, le-leb}
use lib.Dec.{leb}
use lib.ListN.{length, get_or, take, drop}
use Rattle.slices.specs.Bounded.{all_below, all_zero}
use Rattle.input.specs.Cutoff.{highest_cutoff}
use Rattle.table_rules.specs.Layout.{StatedFactor, stated_sum, behind_factor, read_blocks, rest_blocks, by_factor, fair_blocks}
use Rattle.table_rules.specs.Table.{step_limit, slots_for, every, sound}
use Rattle.table_rules.proofs.Soundness.{tests, Tests, Rules, sound-rules}

-- of n factors, and of what is behind them
pub record Scanned (m left n : ℕ) (l : List ℕ) : Type 0 where
  pub factors : Tests m (read_blocks n l)
  pub sum : stated_sum (read_blocks n l) ≤ left
  pub rest : all_zero (rest_blocks n l) ≡ true

-- the tests of one factor, and of those behind it
record Front (m left n : ℕ) (l : List ℕ) : Type 0 where
  level : get_or l 0 0 ≤ m
  least : 1 ≤ get_or l 1 0
  most : get_or l 1 0 ≤ left
  coefficients : all_below (2 ^ m) (take (get_or l 1 0) (drop 2 l)) ≡ true
  more : fair_blocks m (left - get_or l 1 0) n (behind_factor l) ≡ true

front-told : (m left n : ℕ) (l : List ℕ) → fair_blocks m left (suc n) l ≡ true → Front m left n l
unfolding fair_blocks
front-told m left n l h = go (simp tests at h)
  where
    go : ((((get_or l 0 0 ≤ m) × (1 ≤ get_or l 1 0)) × (get_or l 1 0 ≤ left)) × (all_below (2 ^ m) (take (get_or l 1 0) (drop 2 l)) ≡ true))
        × (fair_blocks m (left - get_or l 1 0) n (behind_factor l) ≡ true) → Front m left n l
    go v = record { level = v.0.0.0.0; least = v.0.0.0.1; most = v.0.0.1; coefficients = v.0.1; more = v.1 }

front-holds : (m left n : ℕ) (l : List ℕ) → Front m left n l → fair_blocks m left (suc n) l ≡ true
unfolding fair_blocks
front-holds m left n l f = simp tests ((((f.level, f.least), f.most), f.coefficients), f.more)

scan-told : (m left n : ℕ) (l : List ℕ) → fair_blocks m left n l ≡ true → Scanned m left n l
unfolding read_blocks rest_blocks stated_sum every fair_blocks
scan-told m left zero l h = record { factors = record { levels = refl; degrees = refl; coefficients = refl }; sum = omega arith; rest = h }
scan-told m left (suc n) l h =
    let f : Front m left n l = front-told m left n l h in
    let s : Scanned m (left - get_or l 1 0) n (behind_factor l) = scan-told m (left - get_or l 1 0) n (behind_factor l) f.more in
    record {
      factors = record {
        levels = (and-eq-true_iff _ _).1 (le-leb (get_or l 0 0) m f.level, s.factors.levels);
        degrees = (and-eq-true_iff _ _).1 (le-leb 1 (get_or l 1 0) f.least, s.factors.degrees);
        coefficients = (and-eq-true_iff _ _).1 (f.coefficients, s.factors.coefficients);
      };
      sum = omega (arith, f.most, s.sum);
      rest = s.rest;
    }

scan-holds : (m left n : ℕ) (l : List ℕ) → Scanned m left n l → fair_blocks m left n l ≡ true
unfolding read_blocks rest_blocks stated_sum every fair_blocks
scan-holds m left zero l s = s.rest
scan-holds m left (suc n) l s =
    let a = (and-eq-true_iff (leb (get_or l 0 0) m) (every (λ f. leb f.level m) (read_blocks n (behind_factor l)))).0 s.factors.levels in
    let b = (and-eq-true_iff (leb 1 (get_or l 1 0)) (every (λ f. leb 1 f.degree) (read_blocks n (behind_factor l)))).0 s.factors.degrees in
    let c = (and-eq-true_iff (all_below (2 ^ m) (take (get_or l 1 0) (drop 2 l))) (every (λ f. all_below (2 ^ m) f.coefficients) (read_blocks n (behind_factor l)))).0 s.factors.coefficients in
    front-holds m left n l (record {
      level = leb-true (get_or l 0 0) m a.0;
      least = leb-true 1 (get_or l 1 0) b.0;
      most = omega (arith, s.sum);
      coefficients = c.0;
      more = scan-holds m (left - get_or l 1 0) n (behind_factor l) (record { factors = record { levels = a.1; degrees = b.1; coefficients = c.1 }; sum = omega (arith, s.sum); rest = s.rest });
    })

-- the pass tests just that
pub scan-exactly : (m left n : ℕ) (l : List ℕ) → (fair_blocks m left n l ≡ true) ↔ Scanned m left n l
scan-exactly m left n l = (scan-told m left n l, scan-holds m left n l)

-- degrees of at least 1
count-stated : (fs : List StatedFactor) → every (λ f. leb 1 f.degree) fs ≡ true → length fs ≤ stated_sum fs
unfolding every stated_sum
count-stated [] h = omega arith
count-stated (f ∷ fs) h =
    let k = (and-eq-true_iff (leb 1 f.degree) (every (λ g. leb 1 g.degree) fs)).0 h in
    omega (arith, leb-true 1 f.degree k.0, count-stated fs k.1)

length-read : (n : ℕ) (l : List ℕ) → length (read_blocks n l) ≡ n
unfolding read_blocks
length-read zero l = refl
length-read (suc n) l = ap suc (length-read n (behind_factor l))

-- each of the n degrees is at least 1
count-follows : (m left n : ℕ) (l : List ℕ) → fair_blocks m left n l ≡ true → n ≤ left
count-follows m left n l h =
    let s : Scanned m left n l = scan-told m left n l h in
    omega (arith, count-stated (read_blocks n l) s.factors.degrees, length-read n l, s.sum)

-- no test of slot 2
pub record ScanPassed (known : ℕ → Bool) (limit : ℕ) (l : List ℕ) : Type 0 where
  pub size : length l ≡ slots_for limit
  pub field : known (get_or l 0 0) ≡ true
  pub cutoff-least : 1 ≤ get_or l 1 0
  pub cutoff-most : get_or l 1 0 ≤ highest_cutoff
  pub pass : fair_blocks (get_or l 0 0) limit (get_or l 2 0) (drop 4 l) ≡ true
  pub steps : get_or l 3 0 ≤ step_limit (get_or l 0 0) (get_or l 1 0) (stated_sum (read_blocks (get_or l 2 0) (drop 4 l)))

-- THE PASS decides soundness
pub sound-by-pass : (known : ℕ → Bool) (limit : ℕ) (l : List ℕ) → (sound by_factor known limit l ≡ true) ↔ ScanPassed known limit l
sound-by-pass known limit l = (
  λ h.
      let r : Rules by_factor known limit l = (sound-rules by_factor known limit l).0 h in
      record {
        size = r.size;
        field = r.field;
        cutoff-least = r.cutoff-least;
        cutoff-most = r.cutoff-most;
        pass = scan-holds (get_or l 0 0) limit (get_or l 2 0) (drop 4 l) (record { factors = r.factors; sum = r.sum; rest = r.rest });
        steps = r.steps;
      },
  λ p.
      let s : Scanned (get_or l 0 0) limit (get_or l 2 0) (drop 4 l) = scan-told (get_or l 0 0) limit (get_or l 2 0) (drop 4 l) p.pass in
      (sound-rules by_factor known limit l).1 (record {
        size = p.size;
        field = p.field;
        cutoff-least = p.cutoff-least;
        cutoff-most = p.cutoff-most;
        count = count-follows (get_or l 0 0) limit (get_or l 2 0) (drop 4 l) p.pass;
        factors = s.factors;
        sum = s.sum;
        steps = p.steps;
        rest = s.rest;
      }),
)
