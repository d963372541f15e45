-- The table that begin writes: one factor on cleared slots.
--   laid_none, laid-some    what is left where there is no factor, and where there is one
-- Assumes nothing.
use mathlib.Core.Path.{◌≡◌, refl, sym, ap, ◌∙◌}
use mathlib.Core.Logic.{◌≢◌}
use mathlib.Core.List.{List, [], ◌∷◌, ◌++◌}
use Prim.Native.Nat.{ℕ, suc, ◌+◌, ◌-◌, ◌*◌}
use native.Mathlib.Omega.{arith}
use lib.ListN.{length, drop, set, replicate}
use lib.Seq.{drop-append-add}
use Rattle.slices.specs.Lists.{pasted}
use Rattle.slices.proofs.Lists.{drop-zeros}
use Rattle.input.specs.Limit.{limit}
use Rattle.table_rules.specs.Entries.{unless_empty}
use Rattle.table_rules.specs.Layout.{factor_slots, by_factor, blocks}
use Rattle.table_rules.specs.Table.{head_slots, encode, padded}
use Rattle.table_rules.specs.Splitting.{begun_table}
use Rattle.table_rules.specs.Sizes.{slots}
use Rattle.table_slots.specs.Slots.{Appended}

-- it is one
one-factor : (low : List ℕ) → length low ≢ 0 → length (unless_empty 0 low) ≡ 1
unfolding unless_empty
one-factor [] n = absurd (n refl)
one-factor (x ∷ low) n = refl

-- the slots behind the head
abbrev tail : ℕ
tail = suc factor_slots * limit

module _ (m c : ℕ) (low : List ℕ) {t : List ℕ} (clear : t ≡ replicate slots 0) where
  -- no factor
  pub laid_none : length low ≡ 0 → set (set t 0 m) 1 c ≡ encode by_factor slots (begun_table m c low)
  unfolding encode unless_empty blocks
  laid_none e = ap (λ u. set (set u 0 m) 1 c) clear ∙ go low e
    where
      go : (l : List ℕ) → length l ≡ 0 → set (set (replicate slots 0) 0 m) 1 c ≡ encode by_factor slots (begun_table m c l)
      go [] e = refl
      go (x ∷ l) e = absurd (omega arith)

  -- the head
  top : List ℕ
  top = m ∷ c ∷ 1 ∷ 0 ∷ []

  -- one factor
  pub laid-some : {t' : List ℕ} {r : ℕ} → length low ≢ 0 → Appended head_slots 0 low (set (set (set t 0 m) 1 c) 2 1) r t'
      → t' ≡ encode by_factor slots (begun_table m c low)
  unfolding encode pasted top
  laid-some n a =
      let new : List ℕ = blocks (unless_empty 0 low) in
      let left : tail - length new ≡ slots - length (m ∷ c ∷ 1 ∷ 0 ∷ new) = omega arith in
      let after : drop (head_slots + length new) (top ++ replicate tail 0) ≡ replicate (slots - length (m ∷ c ∷ 1 ∷ 0 ∷ new)) 0 =
      drop-append-add top (replicate tail 0) (length new) ∙ drop-zeros (length new) tail ∙ ap (λ k. replicate k 0) left in
      a.slots ∙ ap (λ u. pasted head_slots new (set (set (set u 0 m) 1 c) 2 1)) clear
      ∙ ap (λ u. top ++ (new ++ u)) after
      ∙ sym (ap (λ k. padded slots (m ∷ c ∷ k ∷ 0 ∷ new)) (one-factor low n))
