-- A step on one kind of entries is a step on another: where f keeps lengths and carries each part to the part, it
-- carries steps to steps.
--   Commutes       f carries the parts of an entry to the parts
--   carry-entry, carry-first, carry-done, carry-split, carry-step   it carries each piece of a step
--   CARRY-STEPS    and n steps, along all cuts
--   steps-more     n steps, and one more
-- Assumes nothing.
use mathlib.Core.Path.{◌≡◌, refl, sym, ap, ap₂, ◌∙◌}
use mathlib.Core.Bool.{Bool, not, cond, ◌&&◌}
use mathlib.Core.List.{List, [], ◌∷◌, ◌++◌, map, map-append}
use Prim.Native.Nat.{ℕ, zero, suc, ◌<◌}
use native.Mathlib.Omega.{arith}
use lib.Dec.{ltb}
use lib.ListN.{length}
use Rattle.algebra.specs.Trial.{All}
use Rattle.table_rules.specs.Entries.{Entry, Halving, unless_empty, parts, split_entries, first_above, done, step, steps, carry}
use Rattle.table_rules.proofs.Cut.{Cut}
use Rattle.table_rules.proofs.Steps.{step_cut}

unless-some : {A : Type 0} (i : ℕ) (s : List A) → 0 < length s → unless_empty i s ≡ (i, s) ∷ []
unfolding unless_empty
unless-some i [] h = absurd (omega arith)
unless-some i (x ∷ s) h = refl

unless-none : {A : Type 0} (i : ℕ) (s : List A) → length s ≡ 0 → unless_empty i s ≡ []
unfolding unless_empty
unless-none i [] h = refl
unless-none i (x ∷ s) h = absurd (omega arith)

-- n steps, and one more
pub steps-more : {A : Type 0} (H : Halving A) (c n : ℕ) (l : List (Entry A)) → steps H c (suc n) l ≡ step H c (steps H c n l)
unfolding steps
steps-more H c zero l = refl
steps-more H c (suc n) l = steps-more H c n (step H c l)

-- f carries the parts of an entry to the parts
pub record Commutes {A B : Type 0} (H : Halving A) (J : Halving B) (f : List A → List B) (e : Entry A) : Type 0 where
  pub low : J.low e.0 (f e.1) ≡ f (H.low e.0 e.1)
  pub high : J.high e.0 (f e.1) ≡ f (H.high e.0 e.1)

module _ {A B : Type 0} (f : List A → List B) (keeps : (s : List A) → length (f s) ≡ length s) where
  pub carry-entry : (i : ℕ) (s : List A) → unless_empty i (f s) ≡ map (carry f) (unless_empty i s)
  unfolding unless_empty
  carry-entry i [] = unless-none i (f []) (keeps [])
  carry-entry i (x ∷ s) = unless-some i (f (x ∷ s)) (omega (arith, keeps (x ∷ s)))

  pub carry-first : (c : ℕ) (l : List (Entry A)) → first_above c (map (carry f) l) ≡ first_above c l
  unfolding first_above
  carry-first c [] = refl
  carry-first c (e ∷ l) = ap₂ (λ (n k : ℕ). cond (ltb c n) 0 (suc k)) (keeps e.1) (carry-first c l)

  pub carry-done : (c : ℕ) (l : List (Entry A)) → done c (map (carry f) l) ≡ done c l
  unfolding done
  carry-done c [] = refl
  carry-done c (e ∷ l) = ap₂ (λ (n : ℕ) (b : Bool). not (ltb c n) && b) (keeps e.1) (carry-done c l)

  module _ (H : Halving A) (J : Halving B) where
    carry-parts : (e : Entry A) → Commutes H J f e → parts J (carry f e) ≡ map (carry f) (parts H e)
    unfolding parts
    carry-parts e h =
        ap₂ ◌++◌ (ap (unless_empty (suc e.0)) h.low ∙ carry-entry (suc e.0) (H.low e.0 e.1))
        (ap (unless_empty (suc e.0)) h.high ∙ carry-entry (suc e.0) (H.high e.0 e.1))
        ∙ sym (map-append (carry f) (unless_empty (suc e.0) (H.low e.0 e.1)) (unless_empty (suc e.0) (H.high e.0 e.1)))

    pub carry-split : (k : ℕ) (l : List (Entry A)) → All (Commutes H J f) l → split_entries J k (map (carry f) l) ≡ map (carry f) (split_entries H k l)
    unfolding split_entries
    carry-split k [] h = refl
    carry-split zero (e ∷ l) h = ap (λ u. u ++ map (carry f) l) (carry-parts e h.0) ∙ sym (map-append (carry f) (parts H e) l)
    carry-split (suc k) (e ∷ l) h = ap (λ u. carry f e ∷ u) (carry-split k l h.1)

    carry-step : (c : ℕ) (l : List (Entry A)) → All (Commutes H J f) l → step J c (map (carry f) l) ≡ map (carry f) (step H c l)
    unfolding step
    carry-step c l h = ap (λ k. split_entries J k (map (carry f) l)) (carry-first c l) ∙ carry-split (first_above c l) l h

    -- along all cuts
    pub carry-steps : (c n : ℕ) {i : ℕ} {s : List A} (l : List (Entry A)) → ((k : List (Entry A)) → Cut H c i s k → All (Commutes H J f) k) → Cut H c i s l
        → steps J c n (map (carry f) l) ≡ map (carry f) (steps H c n l)
    unfolding steps
    carry-steps c zero l h p = refl
    carry-steps c (suc n) l h p = ap (steps J c n) (carry-step c l (h l p)) ∙ carry-steps c n (step H c l) h (step_cut H c p)
