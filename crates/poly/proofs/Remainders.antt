-- The remainder, as the code comes to it.
--   remainder-short  f is shorter than p: it is copied, and zeros behind it
--   remainder-long   else it is the front of the division
-- Assumes nothing.
use mathlib.Core.Path.{◌≡◌, refl, sym, ap, ap₂, ◌∙◌}
use mathlib.Core.List.{List, ◌++◌}
use Prim.Native.Nat.{ℕ, ◌-◌, ◌≤◌, ◌<◌}
use native.Mathlib.Omega.{arith}
use lib.ListN.{length, take, drop, replicate, length-append, length-drop}
use lib.Seq.{take_at}
use Rattle.algebra.specs.Routines.{rem}
use Rattle.field.specs.Field.{G}
use Rattle.poly.specs.Lent.{Lent, held}
use Rattle.poly.specs.Asking.{Divisible, Reducible}
use Rattle.poly.specs.Division.{divided}
use Rattle.poly.proofs.Logs.{held-long}
use Rattle.poly.proofs.Parts.{part-rest, part_none}
use Rattle.poly.proofs.Divisions.{rem-short, divided-front}

module _ {m : ℕ} {row f r : List ℕ} (g : Reducible m row f r) where
  -- f, and zeros
  pub remainder-short : {ls ts x r₁ y : List ℕ} → Lent m ls ts → length f < length row → x ≡ f → r₁ ≡ x ++ drop (length f) r
      → y ≡ replicate (length (take (length r₁ - length f) (drop (length f) r₁))) 0
      → take (length f) r₁ ++ (y ++ drop (length r₁ - length f) (drop (length f) r₁)) ≡ rem (G m) (held m row) f
  remainder-short {x = x} {r₁} {y} l h w e z =
      let n : ℕ = length f in
      let room = g.room in
      let front : r₁ ≡ f ++ drop n r = e ∙ ap (λ u. u ++ drop n r) w in
      let long : length r₁ ≡ length r = ap length front ∙ omega (arith, length-append f (drop n r), length-drop n r) in
      let rest : length (take (length r₁ - n) (drop n r₁)) ≡ length (held m row) - n =
      ap length (part-rest n r₁) ∙ length-drop n r₁ ∙ omega (arith, held-long m row) in
      ap₂ (λ u v. u ++ v) (ap (take n) front ∙ take_at f (drop n r) n refl)
      (part_none n r₁ y ∙ z ∙ ap (λ k. replicate k 0) rest)
      ∙ sym (rem-short l (held m row) f (omega (arith, held-long m row)))

  -- what `divide` asks
  pub remainder-asks : length row ≤ length f → Divisible m row f
  remainder-asks h = record { logs = g.logs; small = g.small; room = h }

-- the front
pub remainder-long : (m : ℕ) (row f : List ℕ) {f₁ r₁ : List ℕ} → f₁ ≡ divided m (held m row) f → r₁ ≡ take (length row) f₁ → r₁ ≡ rem (G m) (held m row) f
remainder-long m row f d e = e ∙ ap (take (length row)) d ∙ divided-front m (held m row) f (held-long m row)
