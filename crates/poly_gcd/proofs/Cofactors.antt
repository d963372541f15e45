-- The cofactor, as the code comes to it: monic p is written out and divided by g, and the quotient, without its
-- leading 1, copied.
--   cofactor-row                       the row of g has its room
--   row_fits, row-long                 where it stands
--   whole-fits, whole_long             where p and its leading 1 stand
--   cofactor-asks                      what the division asks
--   quotient_fits                      the quotient stands in what it leaves
--   cofactor-is                        what is copied
-- Assumes nothing.
use mathlib.Core.Path.{◌≡◌, refl, sym, ap, ap₂, ◌∙◌, subst}
use mathlib.Core.List.{List, [], ◌∷◌, ◌++◌}
use Prim.Native.Nat.{ℕ, suc, ◌+◌, ◌-◌, ◌^◌, ◌≤◌}
use native.Mathlib.Numerals.{add-one}
use native.Mathlib.Omega.{arith}
use lib.ListN.{length, take, drop, set, replicate, length-map, length-set, length-append, length-drop}
use lib.Seq.{length-take-le, take_at, take-suc-set, take-append-le, drop-append-le, take-take}
use Rattle.algebra.specs.Polynomial.{Below}
use Rattle.algebra.specs.Routines.{monic, quo, cofactor}
use Rattle.algebra.proofs.Lengths.{length-monic}
use Rattle.algebra.proofs.StaysBelow.{monic-below}
use Rattle.field.specs.Tables.{log_of}
use Rattle.field.specs.Field.{field_at, G}
use Rattle.slices.specs.Lists.{copied}
use Rattle.slices.proofs.Lists.{copied-front, length-copied}
use Rattle.poly.specs.Lent.{Lent, LogRow, log_row, held}
use Rattle.poly.specs.Asking.{Loggable, Divisible}
use Rattle.poly.specs.Division.{divided}
use Rattle.input.specs.Limit.{limit}
use Rattle.poly_gcd.specs.Asking.{Cofactorable}
use Rattle.poly.proofs.Logs.{numbers_of, held-row, row-is-row}
use Rattle.poly.proofs.Divisions.{divided-behind, length-divided}

module _ {m : ℕ} {ls ts p g h : List ℕ} (l : Lent m ls ts) (c : Cofactorable m p g h) where
  -- the row of g has its room
  pub cofactor-row : Loggable m g (take (length g) (replicate limit 0))
  cofactor-row =
      record { small = c.small-g; room = sym (length-take-le (length g) (replicate limit 0) (omega (arith, c.few, c.shorter))) }

  module _ {y f : List ℕ} (r : y ≡ log_row m g) (e : f ≡ copied p (replicate (suc limit) 0)) where
    -- the row, where it stands
    abbrev row : List ℕ
    row = take (length g) (y ++ drop (length g) (replicate limit 0))

    y-long : length y ≡ length g
    y-long = ap length r ∙ length-map g (log_of (field_at m))

    pub row_fits : length g ≤ length (y ++ drop (length g) (replicate limit 0))
    row_fits = omega (arith, y-long, length-append y (drop (length g) (replicate limit 0)))

    row_is : row ≡ log_row m g
    row_is = take_at y (drop (length g) (replicate limit 0)) (length g) y-long ∙ r

    pub row-long : length row ≡ length g
    row-long = ap length row_is ∙ length-map g (log_of (field_at m))

    -- the room is as long as it was
    f-long : length f ≡ suc limit
    f-long = ap length e ∙ length-copied p (replicate (suc limit) 0) (omega (arith, c.few))

    -- p and its leading 1, where they stand
    abbrev whole : List ℕ
    whole = take (length p + 1) (set f (length p) 1)

    whole_is : whole ≡ monic (G m) p
    whole_is =
        ap (λ i. take i (set f (length p) 1)) (add-one (length p))
        ∙ take-suc-set f (length p) 1 (omega (arith, f-long, c.few)) ∙ ap (λ u. u ++ 1 ∷ []) (ap (take (length p)) e ∙ copied-front p (replicate (suc limit) 0) refl)

    pub whole-fits : length p + 1 ≤ length (set f (length p) 1)
    whole-fits = omega (arith, length-set f (length p) 1, f-long, c.few)

    pub whole_long : length whole ≡ length p + 1
    whole_long = ap length whole_is ∙ length-monic (G m) p ∙ sym (add-one (length p))

    pub cofactor-asks : Divisible m row whole
    cofactor-asks = record {
      logs = subst (LogRow m) (sym row_is) (row-is-row l g c.small-g);
      small = subst (Below (2 ^ m)) (sym whole_is) (monic-below (numbers_of l) p c.small-p);
      room = omega (arith, row-long, whole_long, c.shorter);
    }

    module _ {f₁ : List ℕ} (d : f₁ ≡ divided m (held m row) whole) where
      -- what is divided
      done : f₁ ≡ divided m g (monic (G m) p)
      done = d ∙ ap₂ (λ u v. divided m u v) (ap (held m) row_is ∙ held-row l g c.small-g) whole_is

      cofactor-long : length f₁ ≡ length p + 1
      cofactor-long =
          let s = c.shorter in
          ap length done ∙ length-divided l g (monic (G m) p) (omega (arith, length-monic (G m) p)) ∙ length-monic (G m) p ∙ sym (add-one (length p))

      pub quotient_fits : (z : List ℕ) → length p ≤ length (f₁ ++ z)
      quotient_fits z = omega (arith, cofactor-long, length-append f₁ z)

      -- the quotient, where it stands
      pub cofactor-is : {h₁ : List ℕ} (z : List ℕ) → h₁ ≡ take (length p - length g) (drop (length g) (f₁ ++ z)) → h₁ ≡ cofactor (G m) p g
      unfolding cofactor
      cofactor-is {h₁} z k =
          let q : List ℕ = quo (G m) g (monic (G m) p) in
          let n : ℕ = length p - length g in
          let s = c.shorter in
          let l = cofactor-long in
          let part : take n (drop (length g) (f₁ ++ z)) ≡ take n q =
          ap (take n) (drop-append-le (length g) f₁ z (omega arith)) ∙ take-append-le n (drop (length g) f₁) z (omega (arith, length-drop (length g) f₁))
          ∙ ap (λ u. take n (drop (length g) u)) done ∙ ap (take n) (divided-behind m g (monic (G m) p) refl)
          ∙ take-take n (length (monic (G m) p) - length g) q (omega (arith, length-monic (G m) p)) in
          k ∙ part
