-- Where a line ends, and whether its bytes are legible.
--   line-prefix    it ends before the first line feed
--   end-within     a line that begins within the text ends there
--   line-is        its bytes are those from its place to its end
--   legible-all    each byte is asked
-- Assumes nothing.
use mathlib.Core.Path.{◌≡◌, refl, ap}
use mathlib.Core.Bool.{Bool, true, false, cond, not, ◌&&◌}
use mathlib.Core.List.{List, [], ◌∷◌}
use Prim.Native.Nat.{ℕ, suc, ◌+◌, ◌-◌, ◌≤◌}
use native.Mathlib.Omega.{arith}
use lib.Dec.{eqb}
use Rattle.std.specs.List.{prefix_len, list_all}
use lib.ListN.{length, take, drop, length-drop}
use Rattle.job_text.specs.Lines.{line_feed}
use Rattle.job_lists.specs.Lines.{is_legible, line_length, line_end, line_at, legible}

-- the bytes before the first line feed
pub line-prefix : (l : List ℕ) → prefix_len (λ b. not (eqb b line_feed)) l ≡ line_length l
unfolding line_length
line-prefix [] = refl
line-prefix (b ∷ l) = go (eqb b line_feed) (line-prefix l)
  where
    go : (t : Bool) → prefix_len (λ b. not (eqb b line_feed)) l ≡ line_length l
        → cond (not t) (1 + prefix_len (λ b. not (eqb b line_feed)) l) 0 ≡ cond t 0 (suc (line_length l))
    go true e = refl
    go false e = omega arith

-- no more bytes than there are
line-short : (l : List ℕ) → line_length l ≤ length l
unfolding line_length
line-short [] = omega arith
line-short (b ∷ l) = go (eqb b line_feed) (line-short l)
  where
    go : (t : Bool) → line_length l ≤ length l → cond t 0 (suc (line_length l)) ≤ length (b ∷ l)
    go true h = omega arith
    go false h = omega arith

pub end-within : (text : List ℕ) (at : ℕ) → at ≤ length text → line_end text at ≤ length text
end-within text at h = omega (arith, line-short (drop at text), length-drop at text)

pub line-is : (text : List ℕ) (at end : ℕ) → end ≡ line_end text at → take (end - at) (drop at text) ≡ line_at text at
line-is text at end e =
    let n : end - at ≡ line_length (drop at text) = omega arith in
    ap (λ (k : ℕ). take k (drop at text)) n

-- each byte
pub legible-all : (l : List ℕ) → list_all is_legible l ≡ legible l
unfolding legible
legible-all [] = refl
legible-all (b ∷ l) = ap (λ t. is_legible b && t) (legible-all l)
