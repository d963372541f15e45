-- `job_lists::line_end` meets its contract.
-- Assumes nothing.
use mathlib.Core.Path.{◌≡◌, sym, ap, ◌∙◌}
use mathlib.Core.Bool.{not}
use mathlib.Core.List.{List}
use Prim.Native.Nat.{ℕ, ◌+◌, ◌-◌}
use borrow.Author.Tests.{tests}
use lib.Dec.{eqb}
use lib.ListN.{length, take, drop, length-drop}
use lib.Seq.{take-length}
use Rattle.std.proofs.Common.{rules}
use Rattle.std.proofs.lemmas.Iterator.{YieldsList-from_slice}
use Rattle.std.proofs.lemmas.Iterator.Consumers.{count_from_yields_List}
use Rattle.std.proofs.lemmas.Iterator.Search.{YieldsList-from_take_while}
use Rattle.std.proofs.lemmas.List.Folds.{length-prefix_len}
use Rattle.job_text.specs.Lines.{line_feed}
use Rattle.job_lists.proofs.Ends.{line-prefix}
use Rattle.job_lists.proofs.line_end.Goals as goal

-- the part from a place on, to its end
rest-whole : (at : ℕ) (text : List ℕ) → take (length text - at) (drop at text) ≡ drop at text
rest-whole at text = ap (λ (n : ℕ). take n (drop at text)) (sym (length-drop at text)) ∙ take-length (drop at text)

pub returns : goal.returns
returns c =
    let line = drop c.args.at c.args.text.now in
    ap (λ (n : ℕ). c.args.at + n)
    (count_from_yields_List c.take_while.result _ c.count.ensures.ran
    (YieldsList-from_take_while _ (λ b. not (eqb b line_feed)) (YieldsList-from_slice line (ap (λ i. i.rest.now) c.take_while.ensures.source ∙ c.iter.ensures.rest ∙ rest-whole c.args.at c.args.text.now)) c.take_while.ensures.closure c.take_while.ensures.done (λ x b q k. search (rules, tests)))
    ∙ length-prefix_len (λ b. not (eqb b line_feed)) line ∙ line-prefix line)
