-- Elements copied, moved, and put in the place of others, in a list that stays as long as it is.
--   copied   d with s over its front
--   pasted   s with w over the elements at `at`
--   raised   s with what stands from `from` on moved up by `by` places; what no longer fits falls off at the end
--   spliced  s with w in the place of the `old` elements at o; what is behind them moves up, and what no longer fits
--            falls off at the end
-- Assumes nothing.
use Rattle.std.specs.Prelude.{List, ◌++◌, ℕ, ◌+◌, ◌-◌, length, take, drop}

-- all of s, then the rest of d
unfoldable pub copied : List ℕ → List ℕ → List ℕ
copied s d = s ++ drop (length s) d

-- what is before, w, and what is behind
unfoldable pub pasted : ℕ → List ℕ → List ℕ → List ℕ
pasted at w s = take at s ++ (w ++ drop (at + length w) s)

-- the places that are left keep what they had
unfoldable pub raised : ℕ → ℕ → List ℕ → List ℕ
raised from by s = take (from + by) s ++ take (length s - (from + by)) (drop from s)

-- what is before, w, and as much of what is behind the old ones as fits
unfoldable pub spliced : ℕ → ℕ → List ℕ → List ℕ → List ℕ
spliced o old w s = take o s ++ (w ++ take (length s - (o + length w)) (drop (o + old) s))
