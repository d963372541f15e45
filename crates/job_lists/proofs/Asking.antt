-- What a line asks for, by how many numbers it has.
--   list-none, list-one, list-more   the answer to a line with no number, with one, and with more
-- Assumes nothing.
use mathlib.Core.Path.{◌≡◌, sym, subst}
use lib.Seq.{take_all}
use mathlib.Core.Bool.{true}
use mathlib.Core.List.{List, [], ◌∷◌}
use Prim.Native.Nat.{ℕ, ◌-◌, ◌≤◌}
use native.Mathlib.Omega.{arith}
use lib.ListN.{length, get_or, take, drop}
use Rattle.job_writer.specs.Calls.{Writes}
use Rattle.std.specs.Prelude.{Result}
use Rattle.refusals.specs.declared.Refusal.{Refusal}
use Rattle.job_lists.specs.Lines.{legible, numbers_of}
use Rattle.job_lists.specs.Calls.{Lists}
use Rattle.job_lists.specs.Calls.Lists.{blank, alone, asks}
use Rattle.job_lists.specs.declared.Listed.TheVariants.{Blank, Illegible, Answer}

module _ {line room list : List ℕ} (ok : legible line ≡ true) (is : list ≡ numbers_of line) where
  pub list-none : length list ≡ 0 → Lists line room Blank room
  list-none z = go list (sym is) z
    where
      go : (l : List ℕ) → numbers_of line ≡ l → length l ≡ 0 → Lists line room Blank room
      go [] e z = blank ok e
      go (x ∷ l) e z = absurd (let b : ⊥ = omega arith in b)

  pub list-one : length list ≡ 1 → Lists line room Illegible room
  list-one z = go list (sym is) z
    where
      go : (l : List ℕ) → numbers_of line ≡ l → length l ≡ 1 → Lists line room Illegible room
      go [] e z = absurd (let b : ⊥ = omega arith in b)
      go (x ∷ []) e z = alone ok e
      go (x ∷ y ∷ l) e z = absurd (let b : ⊥ = omega arith in b)

  pub list-more : {r : Result ℕ Refusal} {after : List ℕ} → 2 ≤ length list
      → Writes (get_or list 0 0) (get_or list 1 0) (take (length list - 2) (drop 2 list)) room r after → Lists line room (Answer r) after
  list-more {r} {after} h w = go list (sym is) h w
    where
      go : (l : List ℕ) → numbers_of line ≡ l → 2 ≤ length l → Writes (get_or l 0 0) (get_or l 1 0) (take (length l - 2) (drop 2 l)) room r after
          → Lists line room (Answer r) after
      go [] e h w = absurd (let b : ⊥ = omega arith in b)
      go (x ∷ []) e h w = absurd (let b : ⊥ = omega arith in b)
      go (x ∷ y ∷ l) e h w = asks ok e (subst (λ u. Writes x y u room r after) (take_all (length (x ∷ y ∷ l) - 2) l (omega arith)) w)
