-- `job_writer::ascending` meets its contract: each is asked with the next.
-- Assumes nothing.
use lib.Dec.{ltb}
use borrow.Author.Rules.{rules}
use borrow.Author.Tests.{tests}
use Rattle.std.proofs.lemmas.List.Sorted.{answers_always}
use Rattle.job_writer.proofs.Turns.{sorted-ascends}
use Rattle.job_writer.proofs.ascending.Goals as goal

pub returns : goal.returns
returns c =
    sorted-ascends c.args.roots.now c.is_sorted_by.result
    (c.is_sorted_by.ensures.cases ltb (answers_always _ _ _ (λ f a r f' q. search (rules, tests))))
