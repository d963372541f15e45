-- The parts of a factor, packed one behind the other.
--   rest-fits, rest-front, rest-long   what is left stands at the front of a longer list
--   rest-asks, first-room, parted      what `parts_of` takes and leaves
-- Assumes nothing.
use mathlib.Core.Path.{◌≡◌, sym, ap, ap₂, subst, ◌∙◌}
use mathlib.Core.Bool.{true}
use mathlib.Core.List.{List, ◌++◌}
use Prim.Native.Nat.{ℕ, ◌+◌, ◌-◌, ◌^◌, ◌≤◌}
use native.Mathlib.Numerals.{add-one}
use native.Mathlib.Omega.{arith}
use lib.ListN.{length, take, length-append}
use lib.Seq.{take_at, length-take-le}
use Rattle.algebra.specs.Polynomial.{Below}
use Rattle.algebra.specs.Routines.{cofactor}
use Rattle.algebra.proofs.Lengths.{length-cofactor}
use Rattle.field.specs.Rows.{known}
use Rattle.field.specs.Field.{G}
use Rattle.slices.proofs.Lists.{pasted-front}
use Rattle.input.proofs.Fields.{known-field}
use Rattle.table_rules.specs.Entries.{unless_empty, parts}
use Rattle.table_rules.specs.Layout.{blocks}
use Rattle.table_rules.specs.Splitting.{halving_at}
use Rattle.table_rules.proofs.Layouts.{blocks-append}
use Rattle.table_rules.proofs.Keeping.{LosslessHalving, trace-halves}
use Rattle.table_slots.specs.Slots.{Appended}
use Rattle.table_slots.proofs.Appending.{some-slots}
use Rattle.poly_gcd.specs.Asking.{Cofactorable}
use Rattle.table_step.specs.Parting.{Splittable, Parted}
use Rattle.table_step.proofs.Commons.{IsCommon}

module _ {m : ℕ} {p : List ℕ} {i : ℕ} (field : known m ≡ true) (s : Splittable m p i) {k : ℕ} {g : List ℕ} (c : IsCommon m i p k g) where
  -- the two parts have, together, the factor's degree
  halves : LosslessHalving (halving_at m) m i p
  halves = trace-halves (known-field m field) i p s.small

  -- the first has at most that
  pub degree-within : k ≤ length p
  degree-within = omega (arith, c.degree, halves.sum)

  -- what the division may take for granted
  pub rest-asks : {h : List ℕ} → length h ≡ length p - k → Cofactorable m p (take k g) h
  rest-asks e = record {
    small-p = s.small;
    small-g = subst (Below (2 ^ m)) (sym c.low) halves.low;
    few = s.few;
    shorter = omega (arith, ap length c.low, c.degree, halves.sum);
    room = omega (arith, ap length c.low, c.degree);
  }

  -- the first part has as many coefficients as its degree
  pub first-long : length (take k g) ≡ k
  first-long = ap length c.low ∙ sym c.degree

  -- and takes at most two slots more
  pub first-room : {at level : ℕ} {w w₁ : List ℕ} → Appended 0 level (take k g) w at w₁ → at ≤ k + 2
  first-room {level = level} r = omega (arith, r.place, some-slots level (take k g), first-long)

  module _ {h : List ℕ} (z : List ℕ) (e : h ≡ cofactor (G m) p (take k g)) where
    -- as many coefficients are left
    left-long : length h ≡ length p - k
    left-long = ap length e ∙ length-cofactor (G m) p (take k g) ∙ ap (λ n. length p - n) first-long

    -- they are within the list
    pub rest-fits : length p - k ≤ length (h ++ z)
    rest-fits = omega (arith, left-long, length-append h z)

    -- they are its front
    pub rest-front : take (length p - k) (h ++ z) ≡ cofactor (G m) p (take k g)
    rest-front = take_at h z (length p - k) left-long ∙ e

    -- the front has as many
    pub rest-long : length (take (length p - k) (h ++ z)) ≡ length p - k
    rest-long = length-take-le (length p - k) (h ++ z) rest-fits

  -- what is left is the second part
  second_is : {h : List ℕ} → h ≡ cofactor (G m) p (take k g) → h ≡ (halving_at m).high i p
  second_is e = e ∙ ap (cofactor (G m) p) c.low

  -- both stand one behind the other
  pub parted : {at r : ℕ} {h w w₁ w₂ : List ℕ} → h ≡ cofactor (G m) p (take k g) → at ≤ length w₁ → Appended 0 (i + 1) (take k g) w at w₁ → Appended at (i + 1) h w₁ r w₂ → Parted m i p r w₂
  unfolding parts
  parted {at} {r} {h} {w} {w₁} {w₂} e n x y =
      let a : List ℕ = blocks (unless_empty (i + 1) (take k g)) in
      let b : List ℕ = blocks (unless_empty (i + 1) h) in
      let u : a ++ b ≡ blocks (parts (halving_at m) (i, p)) =
      ap₂ (λ v z. blocks (unless_empty (i + 1) v) ++ blocks (unless_empty (i + 1) z)) c.low (second_is e)
      ∙ sym (blocks-append (unless_empty (i + 1) ((halving_at m).low i p)) (unless_empty (i + 1) ((halving_at m).high i p)))
      ∙ ap (λ j. blocks (unless_empty j ((halving_at m).low i p) ++ unless_empty j ((halving_at m).high i p))) (add-one i) in
      let front : take at w₁ ≡ a = ap₂ take x.place x.slots ∙ pasted-front 0 a w (omega arith) in
      record {
        slots = ap₂ take y.place y.slots ∙ pasted-front at b w₁ n ∙ ap (λ v. v ++ b) front ∙ u;
        count = omega (arith, x.place, y.place, ap length u, length-append a b);
      }
