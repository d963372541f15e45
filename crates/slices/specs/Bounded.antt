-- Tests of a list against a bound. There is one notion, `all_below`; the others are names for uses of it.
--   all_below  is every element below q?
--   any_from   is some element at least q?
--   all_zero   is every element 0?
-- Assumes nothing.
use Rattle.std.specs.Prelude.{Bool, true, not, ◌&&◌, List, [], ◌∷◌, ℕ, ltb}

-- one after the other
unfoldable pub all_below : ℕ → List ℕ → Bool
all_below q [] = true
all_below q (x ∷ l) = ltb x q && all_below q l

-- not all of them are below
abbrev pub any_from : ℕ → List ℕ → Bool
any_from q l = not (all_below q l)

-- all of them are below 1
abbrev pub all_zero : List ℕ → Bool
all_zero l = all_below 1 l
