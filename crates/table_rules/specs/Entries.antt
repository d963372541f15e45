-- The entries of a work table, and steps on a list of them. One definition serves twice: for the factors of a table,
-- whose lists are coefficients, and for the groups of roots that they stand for, whose lists are roots. A factor's
-- degree is the length of its list, and so is the number of a group's members.
--   Entry A       a level, and a list: a factor's coefficients below the leading 1, or a group's members
--   Halving A     how a list at a level is parted in two
--   unless_empty   an entry, or none where its list is empty
--   parts         an entry's two parts, one level further; an empty one is omitted
--   split_entries k     the entry at place k is replaced by its parts
--   above c       has the entry more than c in its list?
--   entry_at       the entry at a place
--   first_above c  the place of the first entry above c
--   done c        is no entry above c?
--   step c        the first entry above c is replaced by its parts;  steps c n  n times
--   carry f       an entry whose list is another by f
-- Assumes nothing.
use Rattle.std.specs.Prelude.{Bool, true, not, cond, ◌&&◌, List, [], ◌∷◌, ◌++◌, ℕ, zero, suc, ltb, length, get_or}

abbrev pub Entry : Type 0 → Type 0
Entry A = ℕ × List A

-- the part that goes first, and the part that goes second
pub record Halving (A : Type 0) : Type 0 where
  pub low : ℕ → List A → List A
  pub high : ℕ → List A → List A

module _ {A : Type 0} where
  unfoldable pub unless_empty : ℕ → List A → List (Entry A)
  unless_empty i [] = []
  unless_empty i (x ∷ s) = (i, x ∷ s) ∷ []

  unfoldable pub parts : Halving A → Entry A → List (Entry A)
  parts H e = unless_empty (suc e.0) (H.low e.0 e.1) ++ unless_empty (suc e.0) (H.high e.0 e.1)

  unfoldable pub split_entries : Halving A → ℕ → List (Entry A) → List (Entry A)
  split_entries H k [] = []
  split_entries H zero (e ∷ l) = parts H e ++ l
  split_entries H (suc k) (e ∷ l) = e ∷ split_entries H k l

  abbrev pub above : ℕ → Entry A → Bool
  above c e = ltb c (length e.1)

  -- past the end, one that is above nothing
  abbrev pub entry_at : List (Entry A) → ℕ → Entry A
  entry_at l k = get_or l k (0, [])

  -- where there is none above c, the place behind the last
  unfoldable pub first_above : ℕ → List (Entry A) → ℕ
  first_above c [] = 0
  first_above c (e ∷ l) = cond (above c e) 0 (suc (first_above c l))

  unfoldable pub done : ℕ → List (Entry A) → Bool
  done c [] = true
  done c (e ∷ l) = not (above c e) && done c l

  -- a list that is done stays as it is
  unfoldable pub step : Halving A → ℕ → List (Entry A) → List (Entry A)
  step H c l = split_entries H (first_above c l) l

  unfoldable pub steps : Halving A → ℕ → ℕ → List (Entry A) → List (Entry A)
  steps H c zero l = l
  steps H c (suc n) l = steps H c n (step H c l)

abbrev pub carry : {A B : Type 0} → (List A → List B) → Entry A → Entry B
carry f e = (e.0, f e.1)
