-- What trace bits do in a known field: they tell elements apart, and a step parts a group by them.
--   bits-apart       no two elements have the same trace bits
--   group-commutes   the halving of the product over a group, by gcd and cofactor, is the product over each half of
--                    the group
-- Assumes nothing.
use mathlib.Core.Path.{◌≡◌, refl, sym, ap, ◌∙◌, fun_ext}
use mathlib.Core.Bool.{Bool, true, false, not}
use mathlib.Core.List.{List}
use Prim.Native.Nat.{ℕ, ◌^◌, ◌<◌}
use Rattle.algebra.specs.Field.{Ops, power, trace}
use Rattle.algebra.specs.Trial.{Distinct, keep}
use Rattle.algebra.specs.Polynomial.{Below}
use Rattle.algebra.specs.Routines.{monic_roots}
use Rattle.algebra.proofs.NumberSteps.{step-gcd, step-cofactor}
use Rattle.algebra.proofs.NumberTrace.{tests-apart}
use Rattle.input.proofs.Fields.{BinaryField, level-below}
use Rattle.table_rules.specs.Groups.{by_bit}
use Rattle.table_rules.specs.Splitting.{trace_bit, trace_halving}
use Rattle.table_rules.proofs.Carry.{Commutes}

not-not : (b : Bool) → not (not b) ≡ b
not-not true = refl
not-not false = refl

module _ {G : Ops ℕ} {m a : ℕ} (B : BinaryField G m a) where
  -- trace bits tell elements apart
  pub bits-apart : (x y : ℕ) → x < 2 ^ m → y < 2 ^ m → ((i : ℕ) → i < m → trace_bit G m a i x ≡ trace_bit G m a i y) → x ≡ y
  bits-apart x y hx hy h =
      tests-apart B.numbers m refl B.zero_is B.add_is B.positive B.fermat x y hx hy λ i l.
      ap (λ b. G.is_zero (trace G m (G.mul b x))) (sym (B.power-is i l))
      ∙ sym (not-not _) ∙ ap not (h i l) ∙ not-not _
      ∙ ap (λ b. G.is_zero (trace G m (G.mul b y))) (B.power-is i l)

  -- gcd keeps the members with trace bit 0, and the cofactor the others
  pub group-commutes : (i : ℕ) (s : List ℕ) → Below (2 ^ m) s → Distinct s → Commutes (by_bit (trace_bit G m a)) (trace_halving G m a) (monic_roots G) (i, s)
  group-commutes i s b d = record {
    low = step-gcd B.numbers m (power G a i) (level-below B i) s b d ∙ ap (λ t. monic_roots G (keep t s)) (fun_ext λ r. sym (not-not _));
    high = step-cofactor B.numbers m (power G a i) (level-below B i) s b d;
  }
