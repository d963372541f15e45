-- The polynomial of roots.
--   expanded-none, expanded-one   of no root it is 1, of one root z + r; where they are stored
-- Assumes nothing.
use mathlib.Core.Path.{◌≡◌, refl, sym, ap, ap₂, ◌∙◌}
use mathlib.Core.List.{List, [], ◌∷◌, ◌++◌}
use Prim.Native.Nat.{ℕ}
use native.Mathlib.Omega.{arith}
use lib.Bits.{xor_zero_r}
use lib.ListN.{length, get_or, set, drop}
use Rattle.algebra.specs.Polynomial.{add, mul, from_roots}
use Rattle.field.specs.Field.{field_at}
use Rattle.field.proofs.Known.{listed}
use Rattle.field.proofs.Generator.{generated, one_below}
use Rattle.field.proofs.Ring.{ring}
use Rattle.slices.specs.Lists.{copied}
use Rattle.job_writer.specs.Records.{root_polynomial}
use Rattle.job_writer.specs.Writing.{Expandable}

-- no root
of_none : (m : ℕ) → root_polynomial m [] ≡ 1 ∷ []
unfolding from_roots
of_none m = refl

-- one root
of_one : {m r : ℕ} {f : List ℕ} → Expandable m (r ∷ []) f → root_polynomial m (r ∷ []) ≡ r ∷ 1 ∷ []
unfolding from_roots mul add
of_one {m} {r} x =
    let g = generated (listed m x.field) in
    let laws = ring (field_at m) g.monic in
    ap₂ (λ a b. a ∷ b ∷ []) (xor_zero_r _ ∙ laws.mul-one-r r x.small.0)
    (xor_zero_r _ ∙ laws.mul-one-r 1 (one_below (field_at m) g))

-- of no root it is stored at once
pub expanded-none : {m : ℕ} (roots f : List ℕ) → Expandable m roots f → length roots ≡ 0
    → set f 0 1 ≡ copied (root_polynomial m roots) f
unfolding copied
expanded-none {m} [] [] x e = absurd (let h = x.room in omega arith)
expanded-none {m} [] (y ∷ f) x e = sym (ap (λ p. copied p (y ∷ f)) (of_none m))
expanded-none (r ∷ roots) f x e = absurd (omega arith)

-- of one root too
pub expanded-one : {m : ℕ} (roots f : List ℕ) {t : List ℕ} → Expandable m roots f → length roots ≡ 1 → t ≡ get_or roots 0 0 ∷ 1 ∷ []
    → t ++ drop 2 f ≡ copied (root_polynomial m roots) f
unfolding copied
expanded-one [] f x e s = absurd (omega arith)
expanded-one {m} (r ∷ []) f x e s = ap (λ t. t ++ drop 2 f) s ∙ sym (ap (λ p. copied p f) (of_one x))
expanded-one (r ∷ q ∷ roots) f x e s = absurd (omega arith)
