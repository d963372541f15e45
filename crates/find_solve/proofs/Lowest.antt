-- Polynomials of degree at most 1.
--   low-some            a polynomial that was let in has a leading coefficient
--   low-inverts, low-multiplies   what the quotient of its coefficients asks
--   low-none, low-one   of degree 0 it has no root, and of degree 1 the quotient
--   low-over            so over a degree that is the same
--   few-steps           no more roots than the cutoff take no step
--   low-empty, low-single   what the whole call answers then
-- Assumes nothing.
use mathlib.Core.Path.{◌≡◌, refl, sym, ap, ◌∙◌, subst}
use mathlib.Core.Bool.{Bool, true, false}
use mathlib.Core.Logic.{◌≢◌}
use mathlib.Core.Option.{some}
use mathlib.Core.List.{List, [], ◌∷◌, map}
use Prim.Native.Nat.{ℕ, suc, ◌-◌, ◌^◌, ◌≤◌, ◌<◌}
use native.Mathlib.Nat.{not-suc-le-zero}
use native.Mathlib.Decide.{dec_lt}
use native.Mathlib.Omega.{arith}
use lib.ListN.{length, get_or, set, take}
use Rattle.algebra.specs.Field.{OnNumbers}
use Rattle.algebra.specs.Routines.{norm}
use Rattle.algebra.proofs.StaysBelow.{below-from, below_at}
use Rattle.algebra.proofs.RootList.{roots_of-norm, roots_of-none, roots_of-one}
use Rattle.slices.specs.Bounded.{all_zero}
use Rattle.slices.specs.Lists.{copied}
use Rattle.slices.proofs.Bounded.{all_below-exactly}
use Rattle.field.specs.Field.{field_at, mul, inverse, G, roots_at}
use Rattle.poly.specs.Lent.{Lent}
use Rattle.poly.proofs.Monics.{norm-skip, norm-lead, made_asks}
use Rattle.input.proofs.Fields.{known-field}
use Rattle.table_rules.specs.Demand.{step_count}
use Rattle.table_rules.specs.Splitting.{trace_bit_at}
use Rattle.table_rules.proofs.Counting.{count_left, left-none}
use Rattle.find_solve.specs.Solving.{AtMostLinear, SolvedOut}
use Rattle.find_solve.specs.declared.Solved.{Solved}

-- ---- lists

take-one : (f : List ℕ) → 0 < length f → take 1 f ≡ get_or f 0 0 ∷ []
take-one [] h = absurd (not-suc-le-zero h)
take-one (x ∷ f) h = refl

set_first : (s : List ℕ) (x : ℕ) → 1 ≤ length s → set s 0 x ≡ copied (x ∷ []) s
unfolding copied
set_first [] x h = absurd (not-suc-le-zero h)
set_first (y ∷ s) x h = refl

-- ---- roots and steps

-- no part of them has more
few-steps : (m c : ℕ) (roots : List ℕ) → length roots ≤ c → step_count m c roots ≡ 0
few-steps m c roots h = count_left (trace_bit_at m) c m roots ∙ left-none (trace_bit_at m) c m 0 roots h

module _ {m n : ℕ} {f : List ℕ} (g : AtMostLinear m f n) where
  N : OnNumbers (G m) (2 ^ m)
  N = (known-field m g.polynomial.field).numbers

  -- else all were 0
  pub low-some : 0 < n
  low-some = go (dec_lt 0 n)
    where
      go : Dec (0 < n) → 0 < n
      go (yes p) = p
      go (no z) =
          let zeros : all_zero f ≡ true =
          (all_below-exactly 1 f).1 (below-from 1 f (λ i l. let e : get_or f i 0 ≡ 0 = g.top.above i (omega arith) in omega arith)) in
          absurd (let b : ◌≡◌ {A = Bool} true false = sym zeros ∙ g.polynomial.nonzero in let o : ◌≡◌ {A = ℕ} 0 1 = cc in let x : ⊥ = omega arith in x)

  -- the coefficients below the leading one, divided by it
  led : (k : ℕ) → n ≡ suc k → norm (G m) (length f) f ≡ some (map ((G m).mul ((G m).inv (get_or f k 0))) (take k f))
  led k e =
      let nonzero = g.top.nonzero (omega arith) in
      norm-skip m f n (length f) g.top.within g.top.above ∙ ap (λ (i : ℕ). norm (G m) i f) e
      ∙ norm-lead m k f (λ z. nonzero (ap (λ (i : ℕ). get_or f i 0) (let h : n - 1 ≡ k = omega arith in h) ∙ z))

  pub low-none : n ≡ 1 → roots_at m f ≡ []
  low-none e = sym (roots_of-norm N f g.polynomial.small (led 0 e)) ∙ roots_of-none N

  -- what the quotient asks
  pub low-inverts : n ≡ 2 → (0 < get_or f 1 0) × (get_or f 1 0 < 2 ^ m)
  low-inverts e =
      let lead : get_or f 1 0 ≢ 0 = λ z. g.top.nonzero (omega arith) (ap (λ (i : ℕ). get_or f i 0) (let h : n - 1 ≡ 1 = omega arith in h) ∙ z) in
      (omega arith, below_at (2 ^ m) f g.polynomial.small 1 (omega (arith, g.top.within)))

  pub low-multiplies : n ≡ 2 → {ls ts : List ℕ} → Lent m ls ts → {v : ℕ} → v ≡ inverse (field_at m) (get_or f 1 0)
      → (0 < v) × (v < 2 ^ m) × (get_or f 0 0 < 2 ^ m)
  low-multiplies e l {v} i =
      let some : n ≢ 0 = omega arith in
      let one : 1 ≡ n - 1 = omega arith in
      let s = made_asks l g.polynomial.small g.top some (i ∙ ap (λ (k : ℕ). inverse (field_at m) (get_or f k 0)) one) in
      (s.nonzero, s.element, below_at (2 ^ m) f g.polynomial.small 0 (omega (arith, g.top.within)))

  pub low-one : n ≡ 2 → {v x : ℕ} → v ≡ inverse (field_at m) (get_or f 1 0) → x ≡ mul (field_at m) v (get_or f 0 0) → roots_at m f ≡ x ∷ []
  low-one e {v} {x} a b =
      let w : ℕ = mul (field_at m) (inverse (field_at m) (get_or f 1 0)) (get_or f 0 0) in
      let two : 2 ≤ length f = omega (arith, g.top.within) in
      let made : norm (G m) (length f) f ≡ some (w ∷ []) = led 1 e ∙ ap (λ (l : List ℕ). some (map ((G m).mul ((G m).inv (get_or f 1 0))) l)) (take-one f (omega arith)) in
      let small = g.polynomial.small in
      let below : w < 2 ^ m = N.mul-below (inverse (field_at m) (get_or f 1 0)) (get_or f 0 0)
      (N.inv-below (get_or f 1 0) (below_at (2 ^ m) f small 1 (omega arith))) (below_at (2 ^ m) f small 0 (omega arith)) in
      sym (roots_of-norm N f small made) ∙ roots_of-one N w below
      ∙ ap (λ (y : ℕ). y ∷ []) (sym (b ∙ ap (λ (y : ℕ). mul (field_at m) y (get_or f 0 0)) a))

-- over a degree that is the same
pub low-over : {d m n : ℕ} {f : List ℕ} → d ≡ m → AtMostLinear m f n → AtMostLinear d f n
low-over {n = n} {f} e g = subst (λ w. AtMostLinear w f n) (sym e) g

-- ---- what the whole call answers

module _ {m : ℕ} {f : List ℕ} (roots : List ℕ) {r : Solved} (zero-steps : r.steps ≡ 0) (c : ℕ) (least : 1 ≤ c) where
  -- no root: the list is as it was
  pub low-empty : roots_at m f ≡ [] → r.s ≡ 0 → SolvedOut m c f roots r roots
  unfolding copied
  low-empty e z = record {
    count = z ∙ sym (ap length e);
    steps = zero-steps ∙ sym (ap (step_count m c) e ∙ few-steps m c [] (omega arith));
    slots-are = sym (ap (λ (l : List ℕ). copied l roots) e);
  }

  -- one root: it is written
  pub low-single : {x : ℕ} → roots_at m f ≡ x ∷ [] → r.s ≡ 1 → 1 ≤ length roots → SolvedOut m c f roots r (set roots 0 x)
  low-single {x} e o l = record {
    count = o ∙ sym (ap length e);
    steps = zero-steps ∙ sym (ap (step_count m c) e ∙ few-steps m c (x ∷ []) least);
    slots-are = set_first roots x l ∙ sym (ap (λ (l : List ℕ). copied l roots) e);
  }
