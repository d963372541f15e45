-- `job_lists::record_at` meets its contract, by whether the line is whole.
-- Assumes nothing.
use mathlib.Core.Path.{◌≡◌, sym, ap, subst, ◌∙◌}
use mathlib.Core.Bool.{Bool}
use mathlib.Core.List.{List}
use Prim.Native.Nat.{ℕ}
use native.Mathlib.Omega.{arith}
use Rattle.job_lists.specs.Lines.{line_end, ends_whole}
use Rattle.job_lists.specs.Calls.{Lists}
use Rattle.job_lists.specs.Calls.ListsAt.{cut, whole}
use Rattle.job_lists.specs.declared.Listed.{Listed}
use Rattle.job_lists.proofs.Ends.{end-within, line-is}
use Rattle.job_lists.proofs.record_at.Goals as goal

-- whether the line is whole is asked where it ends
place : (text : List ℕ) (at : ℕ) {end : ℕ} (ended : Bool) {r : Bool} → end ≡ line_end text at → r ≡ ends_whole text end ended
    → ends_whole text (line_end text at) ended ≡ r
place text at ended e f = ap (λ (i : ℕ). ends_whole text i ended) (sym e) ∙ sym f

of-line : {l line room : List ℕ} {r : Listed} {after : List ℕ} → l ≡ line → Lists l room r after → Lists line room r after
of-line {room = room} {r} {after} e p = subst (λ x. Lists x room r after) e p

pub returns-then-not-is_whole : goal.returns-then-not-is_whole
returns-then-not-is_whole c =
    let e = c.line_end-end.ensures in
    record { lists_at = cut (place _ _ _ e c.is_whole.ensures ∙ c.if-not-is_whole.true); end_value = e }

pub slice_bounds-line_record-end : goal.slice_bounds-line_record-end
slice_bounds-line_record-end c =
    let a = c in
    omega (arith, c.line_end-end.ensures, end-within a.args.text.now a.args.at a.requires)

pub returns : goal.returns
returns c =
    let b = c in
    let e = b.line_end-end.ensures in
    record {
      lists_at = whole (place _ _ _ e b.is_whole.ensures ∙ c.if-not-is_whole.false) (of-line (line-is _ _ _ e) c.line_record-listed.ensures);
      end_value = e;
    }
