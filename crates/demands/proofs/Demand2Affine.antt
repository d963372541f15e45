-- DEMAND 2 holds of every affine polynomial that the call accepts: `Demand2Affine` of specs/Demand2Affine.antt is the one
-- record to read.
--   demand-2-affine   it holds
-- Assumes nothing.
use mathlib.Core.Path.{◌≡◌, refl, sym, ap, ap₂, ◌∙◌}
use mathlib.Core.Bool.{Bool, cond}
use mathlib.Core.Logic.{◌⊎◌, inl, inr}
use mathlib.Core.List.{List, [], ◌∷◌}
use Prim.Native.Nat.{ℕ, ◌^◌, ◌≤◌}
use native.Mathlib.Omega.{arith}
use borrow.Author.Tests.{ne_eqb}
use lib.ListN.{length}
use lib.Pow.{pow_pos}
use Rattle.std.specs.Prelude.{Option, Some, None, Result, Ok}
use Rattle.refusals.specs.declared.Refusal.{Refusal}
use Rattle.find_affine.specs.declared.Space.{Space}
use Rattle.refusals.specs.Order.{Passed}
use Rattle.refusals.proofs.Order.{accepted, written}
use Rattle.slices.specs.Lists.{copied}
use Rattle.find_affine.specs.Affine.{affine_roots, space_values, dimension_of}
use Rattle.find_affine.specs.Calls.{affine_tests, Spans, Spannable}
use Rattle.find_affine.proofs.Answering.{spannable, dimension-is}
use Rattle.find_affine.proofs.Coincide.{spanned-told}
use Rattle.find_affine.proofs.RootLaws.{affine-ascending, affine-once, affine-exactly, affine-none, affine-only, affine-size}
use Rattle.find_affine.proofs.DensePolynomial.{affine-within}
use Rattle.demands.specs.Demand2Affine.{ToldNone, ToldSpace, Demand2Affine}
use Rattle.demands.proofs.Demand2.{holds}

-- what is told of a list of 2^k roots
space-values : (m d : ℕ) (roots : List ℕ) → length roots ≡ 2 ^ d → d ≤ m → space_values m roots ≡ 2 ^ d ∷ d ∷ []
unfolding space_values
space-values m d roots e h =
    let some : length roots ≡ 0 → ⊥ = λ z. let p = pow_pos d in omega arith in
    ap (λ (b : Bool). cond b (0 ∷ []) (length roots ∷ dimension_of m (length roots) ∷ [])) (ne_eqb (length roots) 0 some)
    ∙ ap₂ (λ (a b : ℕ). a ∷ b ∷ []) e (dimension-is m (length roots) d e h)

-- what is told where there is none, and what is left
none-values : (m : ℕ) → ◌≡◌ {A = ℕ × List ℕ} (0, space_values m []) (0, 0 ∷ [])
unfolding space_values
none-values m = refl

none-copied : (list : List ℕ) → copied [] list ≡ list
unfolding copied
none-copied list = refl

pub demand-2-affine : (m : ℕ) (cs : List ℕ) (constant : ℕ) (list : List ℕ) → Passed (affine_tests m cs constant (length list)) → Demand2Affine m cs constant list
demand-2-affine m cs constant list p = record {
  roots = record {
    ascending = affine-ascending m cs constant;
    once = affine-once m cs constant;
    exactly = affine-exactly m cs constant;
    empty = affine-none m cs constant;
    only = affine-only m cs constant;
  };
  gives = λ r after s. told r after s (affine-size m known_as.field cs constant known_as.element);
  within = λ low n e. affine-within m known_as.field low n constant ∙ ap (λ (u : List ℕ). affine_roots m u constant) (sym e);
}
  where
    known_as : Spannable m cs constant list
    known_as = spannable p

    told : (r : Result (Option Space) Refusal) (after : List ℕ) → Spans m cs constant list r after
        → (affine_roots m cs constant ≡ []) ⊎ ((d : ℕ) × (d ≤ m) × (length (affine_roots m cs constant) ≡ 2 ^ d))
        → ToldNone m (affine_roots m cs constant) list r after ⊎ ToldSpace m (affine_roots m cs constant) list r after
    told r after s (inl e) = inl (record {
      answer = spanned-told r (Ok None) (s.0 ∙ accepted _ p ∙ ap (λ (u : List ℕ). (0, space_values m u)) e ∙ none-values m);
      empty = e;
      memory = s.1 ∙ written _ list p ∙ ap (λ (u : List ℕ). copied u list) e ∙ none-copied list;
    })
    told r after s (inr d) = inr (record {
      dimension = d.0;
      most = d.1;
      count = d.2;
      answer = spanned-told r (Ok (Some (record { dimension = d.0; count = 2 ^ d.0 }))) (s.0 ∙ accepted _ p ∙ ap (λ (u : List ℕ). (0, u)) (space-values m d.0 (affine_roots m cs constant) d.2 d.1));
      memory = holds (affine_roots m cs constant) list after (s.1 ∙ written _ list p);
    })
