-- What the call tells of the roots.
--   dimension-is    the dimension of 2^k numbers is k
--   told_none, told-space   the answers "none" and "a space"
--   spannable       what is known of what was let in
-- Assumes nothing.
use mathlib.Core.Path.{◌≡◌, refl, sym, ap, ap₂, ◌∙◌, subst}
use mathlib.Core.Bool.{Bool, true, false, not, cond, true≢false, ◌||◌}
use mathlib.Core.List.{List, [], ◌∷◌}
use Prim.Native.Nat.{ℕ, suc, ◌^◌, ◌≤◌, ◌<◌}
use native.Mathlib.Decide.{dec_lt}
use native.Mathlib.Omega.{arith}
use borrow.Author.Tests.{ne_eqb, eqb-true, ltb-true, ltb-false, not-false}
use lib.Dec.{T, eqb, ltb, eqb→eq, eqb_refl}
use lib.ListN.{length}
use lib.Pow.{pow_pos, pow-lt}
use Rattle.algebra.proofs.Trial.{first-only}
use Rattle.std.specs.Prelude.{Some, None}
use Rattle.refusals.specs.Order.{Passed}
use Rattle.refusals.proofs.Order.{failed, others}
use Rattle.slices.specs.Lists.{copied}
use Rattle.slices.specs.Bounded.{all_below}
use Rattle.slices.proofs.Bounded.{all_below-exactly}
use Rattle.find_affine.specs.Affine.{affine_roots, dimension_of, space_values}
use Rattle.find_affine.specs.Spaces.{spanned, dimension_below, Listed}
use Rattle.find_affine.specs.Calls.{affine_tests, Spannable, SpannedOut}
use Rattle.find_affine.proofs.ListLoops.{length-spanned, dimension-le}

-- two powers of two that are one have one exponent
same_power : (i j : ℕ) → 2 ^ i ≡ 2 ^ j → i ≡ j
same_power i j e = go (dec_lt i j) (dec_lt j i)
  where
    go : Dec (i < j) → Dec (j < i) → i ≡ j
    go (yes h) d = absurd (let a : 2 ^ i < 2 ^ j = pow-lt h in let z : ⊥ = omega arith in z)
    go (no h) (yes d) = absurd (let a : 2 ^ j < 2 ^ i = pow-lt d in let z : ⊥ = omega arith in z)
    go (no h) (no d) = omega arith

pub dimension-is : (m n k : ℕ) → n ≡ 2 ^ k → k ≤ m → dimension_of m n ≡ k
unfolding dimension_of
dimension-is m n k e h =
    first-only (λ i. eqb (2 ^ i) n) (suc m) k (let l : k < suc m = omega arith in l) (subst (λ a. T (eqb (2 ^ k) a)) (sym e) (eqb_refl (2 ^ k)))
    (λ i l t. same_power i k (eqb→eq (2 ^ i) n t ∙ e))

module _ {m : ℕ} {cs : List ℕ} {constant : ℕ} {list : List ℕ} where
  pub told_none : affine_roots m cs constant ≡ [] → SpannedOut m cs constant list None list
  unfolding space_values copied
  told_none e = record { values = sym (ap (space_values m) e); slots = sym (ap (λ l. copied l list) e) }

  pub told-space : {vectors : List ℕ} {first d n : ℕ} {after : List ℕ} → affine_roots m cs constant ≡ spanned m vectors first
      → Listed m vectors first list n after → d ≡ dimension_below m vectors → SpannedOut m cs constant list (Some (record { dimension = d; count = n })) after
  unfolding space_values
  told-space {vectors} {first} {d} {n} {after} e l f =
      let c : length (spanned m vectors first) ≡ 2 ^ dimension_below m vectors = length-spanned m vectors first in
      let some : length (spanned m vectors first) ≡ 0 → ⊥ = λ z. let p = pow_pos (dimension_below m vectors) in omega arith in
      record {
        values = sym (
            ap (space_values m) e
            ∙ ap (λ (b : Bool). cond b (0 ∷ []) (length (spanned m vectors first) ∷ dimension_of m (length (spanned m vectors first)) ∷ [])) (ne_eqb _ _ some)
            ∙ ap₂ (λ (a b : ℕ). a ∷ b ∷ []) (sym l.count) (dimension-is m (length (spanned m vectors first)) (dimension_below m vectors) c (dimension-le m vectors) ∙ sym f)
            );
        slots = l.slots ∙ sym (ap (λ (s : List ℕ). copied s list) e);
      }

-- what was let in passed every test
pub spannable : {m constant : ℕ} {cs list : List ℕ} → Passed (affine_tests m cs constant (length list)) → Spannable m cs constant list
spannable {m} {constant} {cs} {list} p =
    let q = others p in
    let r = others q in
    record {
      field = not-false _ (failed p);
      count = eqb-true (length cs) m (not-false _ (failed q));
      small = (all_below-exactly (2 ^ m) cs).0 (all-inside (all_below (2 ^ m) cs) (ltb constant (2 ^ m)) (failed r));
      element = ltb-true constant (2 ^ m) (inside (all_below (2 ^ m) cs) (ltb constant (2 ^ m)) (failed r));
      room = ltb-false (length list) (2 ^ m) (failed (others r));
    }
  where
    all-inside : (a b : Bool) → (not a || not b) ≡ false → a ≡ true
    all-inside true b e = refl
    all-inside false b e = absurd (true≢false e)

    inside : (a b : Bool) → (not a || not b) ≡ false → b ≡ true
    inside true b e = not-false b e
    inside false b e = absurd (true≢false e)
