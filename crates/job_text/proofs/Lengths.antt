-- How long a line is.
--   line-short     a line has at most the bytes that `line_room` says
-- Assumes nothing.
use mathlib.Core.Bool.{Bool, true, false, cond}
use mathlib.Core.List.{List, [], ◌∷◌, ◌++◌}
use Prim.Native.Nat.{ℕ, zero, suc, ◌+◌, ◌*◌, ◌≤◌, ◌<◌}
use native.Mathlib.Omega.{arith}
use lib.Dec.{eqb}
use lib.ListN.{length, get_or, length-append}
use Rattle.job_text.specs.Lines.{decimal, spaced, line_feed, line_of, line_room}
use Rattle.job_text.proofs.Writing.{ten-digits, spaced-short}

-- a line of a number, an outcome and what stands behind it
parts-short : (k : ℕ) (xs : List ℕ) → k < 4294967296 → ((i : ℕ) → i < length xs → get_or xs i 0 < 65536)
    → length (decimal k ++ (spaced xs ++ (line_feed ∷ []))) ≤ 11 + 6 * length xs
parts-short k xs hk h =
    let e = length-append (decimal k) (spaced xs ++ (line_feed ∷ [])) in
    let f = length-append (spaced xs) (line_feed ∷ []) in
    let a = ten-digits k hk in
    let b = spaced-short xs h in
    omega arith

pub line-short : (k outcome steps : ℕ) (roots : List ℕ) → k < 4294967296 → outcome < 65536 → length roots < 65536 → steps < 65536
    → ((i : ℕ) → i < length roots → get_or roots i 0 < 65536) → length (line_of k outcome steps roots) ≤ line_room (length roots)
line-short k outcome steps roots hk ho hn hs h = go (eqb outcome 0)
  where
    all : (i : ℕ) → i < length (outcome ∷ length roots ∷ steps ∷ roots) → get_or (outcome ∷ length roots ∷ steps ∷ roots) i 0 < 65536
    all zero l = ho
    all (suc zero) l = hn
    all (suc (suc zero)) l = hs
    all (suc (suc (suc i))) l = h i (omega arith)

    one : (i : ℕ) → i < 1 → get_or (outcome ∷ []) i 0 < 65536
    one zero l = ho
    one (suc i) l = absurd (let b : ⊥ = omega arith in b)

    go : (b : Bool) → length (decimal k ++ (spaced (outcome ∷ cond b (length roots ∷ steps ∷ roots) []) ++ (line_feed ∷ []))) ≤ line_room (length roots)
    go true = omega (arith, parts-short k (outcome ∷ length roots ∷ steps ∷ roots) hk all)
    go false = omega (arith, parts-short k (outcome ∷ []) hk one)
