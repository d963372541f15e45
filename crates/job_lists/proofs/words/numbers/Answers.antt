-- `job_lists::words::numbers` meets its contract: at each turn the numbers of the words before the place are in the
-- list.
-- Assumes nothing.
use mathlib.Core.Path.{refl, sym, ap, ◌∙◌}
use Rattle.job_lists.proofs.Taking.{take-from, take_same, take-digit, take-blank, take-end}
use borrow.Author.Rules.{rules}
use Rattle.job_lists.specs.Lines.{is_digit}
use Rattle.job_lists.proofs.words.numbers.Goals as goal
use Rattle.job_lists.proofs.words.numbers.Goals.{then-is_ascii_digit, else-is_ascii_digit}

pub loop-b-init : goal.loop-b-init
loop-b-init c = take_same (take-from _) c.new-list.ensures refl

pub grow-word-requires : goal.grow-word-requires
unfolding is_digit
grow-word-requires c = sym c.is_ascii_digit.ensures.value ∙ c.if-is_ascii_digit.true

pub loop-b-preserved : goal.loop-b-preserved
unfolding is_digit
loop-b-preserved c =
    let t = c.loop-b.invariant in
    let d = sym c.is_ascii_digit.ensures.value in
    elim c.if-is_ascii_digit.branch [
      | then-is_ascii_digit w ↦ take_same (take-digit t (search rules) (d ∙ w.if-is_ascii_digit.true)) (ap (λ l. l.items) w.list-is) (w.word-is ∙ w.grow-word.ensures)
      | else-is_ascii_digit w ↦ take_same (take-blank t (search rules) (d ∙ w.if-is_ascii_digit.false) w.close.ensures) (ap (λ l. l.items) w.list-is) w.word-is
    ]

pub returns : goal.returns
returns c = take-end c.loop-b.invariant (search rules) c.close-2.ensures
