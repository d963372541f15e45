-- `job_text::strings::put_spaced` meets its contract: a space, and the digits behind it.
-- Assumes nothing.
use mathlib.Core.Path.{sym, ap, ◌∙◌}
use mathlib.Core.List.{[], ◌∷◌, ◌++◌, append_assoc}
use native.Mathlib.Omega.{arith}
use lib.ListN.{length}
use Rattle.job_text.specs.Lines.{decimal}
use Rattle.job_text.proofs.Writing.{spaced-one}
use Rattle.job_text.proofs.strings.put_spaced.Goals as goal

pub push_str-requires : goal.push_str-requires
push_str-requires g c = omega (arith, c.requires, ap length c.spaced_digit.ensures)

pub returns-then-x-lt10 : goal.returns-then-x-lt10
returns-then-x-lt10 g c = c.push_str.ensures.bytes ∙ ap (λ l. c.args.text.now.bytes ++ l) c.spaced_digit.ensures

pub push_str-requires-2 : goal.push_str-requires-2
push_str-requires-2 g c = omega (arith, c.requires, ap length (spaced-one c.args.x))

pub decimal-requires : goal.decimal-requires
decimal-requires g c = omega (arith, c.requires, c.push_str-2.ensures.len, ap length (spaced-one c.args.x))

pub returns : goal.returns
returns g c =
    let old = c.args.text.now.bytes in
    c.decimal.ensures ∙ ap (λ l. l ++ decimal c.args.x) c.push_str-2.ensures.bytes ∙ append_assoc old (32 ∷ []) (decimal c.args.x)
    ∙ ap (λ l. old ++ l) (sym (spaced-one c.args.x))
