-- The degree, scaling, and making monic: what holds at each turn.
--   Scaling, scale-from, scale-on, scale-fits, scale-end         the first i coefficients are multiplied
--   norm-zero, norm-lead, norm-skip                              what `norm` does with the highest coefficient
--   made_none, made_some                                         what `make_monic` has done
-- Assumes nothing.
use mathlib.Core.Path.{◌≡◌, refl, sym, ap, ◌∙◌}
use mathlib.Core.Logic.{◌≢◌}
use mathlib.Core.Option.{some}
use mathlib.Core.List.{List, ◌++◌, map}
use Prim.Native.Nat.{ℕ, suc, ◌+◌, ◌-◌, ◌^◌, ◌≤◌, ◌<◌}
use native.Mathlib.Decide.{le_ind, dec_lt}
use native.Mathlib.Omega.{arith}
use borrow.Author.Tests.{eq-eqb, ne_eqb}
use lib.ListN.{length, get_or, take, drop, set, length-map}
use lib.Seq.{length-take-le, length_front, take_at}
use Rattle.algebra.specs.Polynomial.{Below}
use Rattle.algebra.specs.Routines.{norm}
use Rattle.algebra.proofs.StaysBelow.{below_at, take_below}
use Rattle.field.specs.Field.{mul, inverse, field_at, G}
use Rattle.field.proofs.Ring.{ring}
use Rattle.field.proofs.Generator.{inverse-lt, mul-inverse}
use Rattle.poly.specs.Lent.{Lent}
use Rattle.poly.specs.Monic.{TopIs, monic_low, MadeMonic}
use Rattle.poly.specs.Asking.{Scalable}
use Rattle.slices.proofs.Filling.{Filling, map-from, map_on, fill-next, fill_end}
use Rattle.field.proofs.ByLogs.{product-fits, product-stands}
use Rattle.poly.proofs.Logs.{field_of, logs-fit}

-- ---- `scale`

-- the first i coefficients are multiplied
pub record Scaling (m : ℕ) (ls ts : List ℕ) (v : ℕ) (r₀ r : List ℕ) (i : ℕ) : Type 0 where
  pub tables : Lent m ls ts
  pub given : Scalable m v r₀
  pub filling : Filling (map ((G m).mul v) r₀) r₀ r i

pub scale-from : {m : ℕ} {ls ts : List ℕ} {v : ℕ} {r : List ℕ} → Lent m ls ts → Scalable m v r → Scaling m ls ts v r r 0
scale-from {m} {ls} {ts} {v} {r} l g = record { tables = l; given = g; filling = map-from ((G m).mul v) r }

module _ {m : ℕ} {ls ts : List ℕ} {v : ℕ} {r₀ r : List ℕ} {i : ℕ} (s : Scaling m ls ts v r₀ r i) where
  -- what stands at i is an element
  scale_small : i < length r₀ → get_or r i 0 < 2 ^ m
  scale_small h = let b = below_at (2 ^ m) r₀ s.given.small i h in omega (arith, fill-next s.filling h)

  pub scale-logs : i < length r₀ → get_or r i 0 < length ls
  scale-logs h = logs-fit s.tables (scale_small h)

  pub scale-fits : i < length r₀ → get_or ls v 0 + get_or ls (get_or r i 0) 0 < length ts
  scale-fits h = product-fits s.tables s.given.element (scale_small h)

  pub scale-on : i < length r₀ → Scaling m ls ts v r₀ (set r i (get_or ts (get_or ls v 0 + get_or ls (get_or r i 0) 0) 0)) (i + 1)
  scale-on h = record {
    tables = s.tables;
    given = s.given;
    filling = map_on ((G m).mul v) s.filling h (product-stands s.tables s.given.nonzero s.given.element (scale_small h));
  }

  pub scale-end : length r₀ ≤ i → r ≡ map ((G m).mul v) r₀
  scale-end h = fill_end s.filling h

-- ---- `make_monic`

module _ (m : ℕ) where
  -- a highest coefficient that is 0 is left out
  norm-zero : (k : ℕ) (r : List ℕ) → get_or r k 0 ≡ 0 → norm (G m) (suc k) r ≡ norm (G m) k r
  unfolding norm
  norm-zero k r e = rw (eq-eqb (get_or r k 0) 0 e)

  -- by one that is not, all are divided
  pub norm-lead : (k : ℕ) (r : List ℕ) → get_or r k 0 ≢ 0 → norm (G m) (suc k) r ≡ some (map ((G m).mul ((G m).inv (get_or r k 0))) (take k r))
  unfolding norm
  norm-lead k r e = rw (ne_eqb (get_or r k 0) 0 e)

  pub norm-skip : (r : List ℕ) (j k : ℕ) → j ≤ k → ((i : ℕ) → j ≤ i → get_or r i 0 ≡ 0) → norm (G m) k r ≡ norm (G m) j r
  norm-skip r j k l h = le_ind (λ (n : ℕ). norm (G m) n r ≡ norm (G m) j r) refl (λ n g e. norm-zero n r (h n g) ∙ e) k l

-- all coefficients are 0
pub made_none : {m : ℕ} {r : List ℕ} {j : ℕ} → TopIs r j → j ≡ 0 → MadeMonic m r 0 r
unfolding norm monic_low
made_none {m} {r} {j} t z = record { within = omega arith; long = refl; made = norm-skip m r 0 (length r) (omega arith) (λ i h. t.above i (omega arith)) }

module _ {m : ℕ} {ls ts r : List ℕ} {j : ℕ} (l : Lent m ls ts) (b : Below (2 ^ m) r) (t : TopIs r j) (h : j ≢ 0) where
  -- the leading coefficient is an element, and not 0
  pub lead-pos : 0 < get_or r (j - 1) 0
  lead-pos = let n = t.nonzero (omega arith) in omega arith

  pub lead-small : get_or r (j - 1) 0 < 2 ^ m
  lead-small = below_at (2 ^ m) r b (j - 1) (omega (arith, t.within))

  -- its inverse is none either
  pub made_asks : {v : ℕ} → v ≡ inverse (field_at m) (get_or r (j - 1) 0) → Scalable m v (take (j - 1) r)
  made_asks {v} e = record {
    nonzero = go (dec_lt 0 v);
    element = omega (arith, inverse-lt (field_at m) (field_of l) (get_or r (j - 1) 0));
    small = take_below (2 ^ m) (j - 1) r b;
  }
    where
      go : Dec (0 < v) → 0 < v
      go (yes p) = p
      go (no n) =
          let z : v ≡ 0 = omega arith in
          let one : ◌≡◌ {A = ℕ} 0 1 =
          sym ((ring (field_at m) (field_of l).monic).mul-zero-r (get_or r (j - 1) 0)) ∙ ap (mul (field_at m) (get_or r (j - 1) 0)) (sym z ∙ e)
          ∙ mul-inverse (field_at m) (field_of l) (get_or r (j - 1) 0) lead-pos lead-small in
          absurd (let w : ⊥ = omega arith in w)

-- divided by it
pub made_some : {m : ℕ} {r : List ℕ} {j v : ℕ} {y : List ℕ} → TopIs r j → j ≢ 0 → v ≡ inverse (field_at m) (get_or r (j - 1) 0)
    → y ≡ map ((G m).mul v) (take (j - 1) r) → MadeMonic m r j (y ++ drop (j - 1) r)
unfolding monic_low
made_some {m} {r} {j} {v} {y} t h e s =
    let k : ℕ = j - 1 in
    let w = t.within in
    let back : suc k ≡ j = omega arith in
    let long : length (take k r) ≡ k = length-take-le k r (omega arith) in
    let same : length y ≡ k = ap length s ∙ length-map (take k r) ((G m).mul v) ∙ long in
    record {
      within = w;
      long = length_front r y k (same ∙ sym long);
      made = norm-skip m r j (length r) w t.above ∙ ap (λ i. norm (G m) i r) (sym back) ∙ norm-lead m k r (t.nonzero (omega arith))
          ∙ ap some (ap (λ u. map ((G m).mul u) (take k r)) (sym e) ∙ sym s ∙ sym (take_at y (drop k r) k same)) ∙ ap (λ i. monic_low i (y ++ drop k r)) back;
    }
