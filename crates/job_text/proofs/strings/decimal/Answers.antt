-- `job_text::strings::decimal` meets its contract: the digits that std's numbers have are those of `decimal`.
-- Assumes nothing.
use mathlib.Core.Path.{ap, ◌∙◌}
use mathlib.Core.List.{◌++◌}
use native.Mathlib.Omega.{arith}
use lib.ListN.{length}
use borrow.Author.Rules.{rules}
use Rattle.job_text.proofs.Writing.{decimal-same}
use Rattle.job_text.proofs.strings.decimal.Goals as goal

pub push_str-requires : goal.push_str-requires
push_str-requires g c = omega (arith, c.requires, ap length (c.format.ensures.text ∙ decimal-same c.args.x (search rules)))

pub returns : goal.returns
returns g c = c.push_str.ensures.bytes ∙ ap (λ l. c.args.text.now.bytes ++ l) (c.format.ensures.text ∙ decimal-same c.args.x (search rules))
