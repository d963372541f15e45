-- Groups (docs/RULES.md section 4.6): a group at level i is a nonempty set of all roots that share their first i trace
-- bits. `bit i r` is the trace bit of r at level i.
--   bit_words n    the words of n bits, ascending
--   precedes      v comes before w: at the first place where they differ v has 0 and w has 1
--   InOrder       each word of a list comes before all behind it
--   sum_below n f  f 0 + .. + f (n - 1)
--   larger_than c  those with more than c members
--   agrees i w r  are the bits of r, from level i on, those of the word?
--   group w s     the members of s whose first bits are w
--   groups_at i s  the groups at level i, in ascending order of trace bits
--   group_count    the groups of levels 0 to m-1 with more than c members, the same roots at two levels counted twice
--   by_bit         the halving that a step makes of a group: trace bit 0 first
--   begun         the list that begin makes: one group of all roots at level 0, or none;  reached  the list after n
--                 steps
-- Assumes nothing.
use Rattle.std.specs.Prelude.{◌≡◌, Bool, true, false, not, cond, ◌&&◌, List, [], ◌∷◌, ◌++◌, map, ℕ, zero, suc, ◌+◌, ltb, length}
use Rattle.algebra.specs.Trial.{keep, All}
use Rattle.table_rules.specs.Entries.{Entry, Halving, unless_empty, steps}

unfoldable pub bit_words : ℕ → List (List Bool)
bit_words zero = [] ∷ []
bit_words (suc n) = map (λ w. false ∷ w) (bit_words n) ++ map (λ w. true ∷ w) (bit_words n)

unfoldable pub precedes : List Bool → List Bool → Bool
precedes [] w = false
precedes (b ∷ v) [] = false
precedes (false ∷ v) (false ∷ w) = precedes v w
precedes (false ∷ v) (true ∷ w) = true
precedes (true ∷ v) (false ∷ w) = false
precedes (true ∷ v) (true ∷ w) = precedes v w

abbrev pub InOrder : List (List Bool) → Type 0
InOrder [] = Unit {0}
InOrder (w ∷ ws) = All (λ v. precedes w v ≡ true) ws × InOrder ws

unfoldable pub sum_below : ℕ → (ℕ → ℕ) → ℕ
sum_below zero f = 0
sum_below (suc n) f = f 0 + sum_below n (λ i. f (suc i))

abbrev pub larger_than : {A : Type 0} → ℕ → List (List A) → List (List A)
larger_than c = keep (λ s. ltb c (length s))

module _ {A : Type 0} (bit : ℕ → A → Bool) where
  unfoldable pub agrees : ℕ → List Bool → A → Bool
  agrees i [] r = true
  agrees i (b ∷ w) r = cond b (bit i r) (not (bit i r)) && agrees (suc i) w r

  abbrev pub group : List Bool → List A → List A
  group w = keep (agrees 0 w)

  unfoldable pub groups_at : ℕ → List A → List (List A)
  groups_at i roots = larger_than 0 (map (λ w. group w roots) (bit_words i))

  unfoldable pub group_count : ℕ → ℕ → List A → ℕ
  group_count c m roots = sum_below m (λ i. length (larger_than c (groups_at i roots)))

  abbrev pub by_bit : Halving A
  by_bit = record { low = λ i. keep (λ r. not (bit i r)); high = λ i. keep (bit i) }

  abbrev pub begun : List A → List (Entry A)
  begun roots = unless_empty 0 roots

  abbrev pub reached : ℕ → List A → ℕ → List (Entry A)
  reached c roots n = steps by_bit c n (begun roots)
