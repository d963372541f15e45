-- The slots of a factor, written behind others.
--   solid-slots                the slots of a factor that is not constant;  some-slots  at most two more than its
--                              degree, whatever it is
--   append-none, append-some   what `append` leaves
-- Assumes nothing.
use mathlib.Core.Path.{◌≡◌, refl, sym, ap, ◌∙◌}
use mathlib.Core.Logic.{◌≢◌}
use mathlib.Core.List.{List, [], ◌∷◌, ◌++◌, append-nil}
use Prim.Native.Nat.{ℕ, zero, suc, ◌+◌, ◌≤◌}
use native.Mathlib.Nat.{not-suc-le-zero, le_of_suc-le-suc, add-zero}
use native.Mathlib.Numerals.{add-one, add-two}
use native.Mathlib.Omega.{arith}
use lib.ListN.{length, take, drop, set, length-append, take-append-drop}
use Rattle.slices.specs.Lists.{pasted}
use Rattle.table_rules.specs.Entries.{unless_empty}
use Rattle.table_rules.specs.Layout.{blocks}
use Rattle.table_slots.specs.Slots.{Appended}

-- a constant part leaves everything as it was
pub append-none : (at level : ℕ) (low w : List ℕ) → length low ≡ 0 → Appended at level low w at w
unfolding unless_empty blocks pasted
append-none at level [] w h = record { slots = sym (ap (λ n. take at w ++ drop n w) (add-zero at) ∙ take-append-drop at w); place = omega arith }
append-none at level (x ∷ low) w h = absurd (omega arith)

-- two stores in front of what was pasted
stamp : (at : ℕ) (w r : List ℕ) (a b : ℕ) → suc (suc at) ≤ length w → set (set (take (suc (suc at)) w ++ r) at a) (suc at) b ≡ take at w ++ (a ∷ b ∷ r)
stamp at [] r a b h = absurd (not-suc-le-zero h)
stamp zero (x ∷ []) r a b h = absurd (omega arith)
stamp zero (x ∷ y ∷ w) r a b h = refl
stamp (suc at) (x ∷ w) r a b h = ap (λ l. x ∷ l) (stamp at w r a b (le_of_suc-le-suc h))

-- the slots of a factor that is not constant
solid-slots : (level : ℕ) (low : List ℕ) → length low ≢ 0 → blocks (unless_empty level low) ≡ level ∷ length low ∷ low
unfolding unless_empty blocks
solid-slots level [] n = absurd (n refl)
solid-slots level (x ∷ low) n = ap (λ l. level ∷ suc (length low) ∷ x ∷ l) (append-nil low)

-- any other is written with its level and degree
pub append-some : (at level : ℕ) (low w : List ℕ) {w₁ : List ℕ} → length low ≢ 0 → at + (length low + 2) ≤ length w → w₁ ≡ pasted (at + 2) low w
    → Appended at level low w (at + 2 + length low) (set (set w₁ at level) (at + 1) (length low))
unfolding pasted
append-some at level low w {w₁} n h e =
    let f = solid-slots level low n in
    let k : suc (suc at) + length low ≡ at + length (level ∷ length low ∷ low) = omega arith in
    record {
      slots = ap (λ u. set (set u at level) (at + 1) (length low)) e
          ∙ rw (add-one at, add-two at) (stamp at w (low ++ drop (suc (suc at) + length low) w) level (length low) (omega arith))
          ∙ ap (λ j. take at w ++ ((level ∷ length low ∷ low) ++ drop j w)) k
          ∙ ap (λ u. pasted at u w) (sym f);
      place = omega (arith, ap length f);
    }

-- two slots more than coefficients, or none
pub some-slots : (i : ℕ) (low : List ℕ) → length (blocks (unless_empty i low)) ≤ length low + 2
unfolding unless_empty blocks
some-slots i [] = omega arith
some-slots i (x ∷ low) = omega (arith, length-append low [])
