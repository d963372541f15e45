-- `job_sheet::text::put_labelled` meets its contract: the word, and the number behind it.
-- Assumes nothing.
use Rattle.std.proofs.Common.{[], ◌∷◌, ◌++◌, ap, ◌∙◌, append_assoc, arith, rules}
use Rattle.job_text.specs.Lines.{spaced}
use Rattle.job_text.proofs.Writing.{spaced-long}
use Rattle.job_sheet.proofs.text.put_labelled.Goals as goal

pub put_spaced-requires : goal.put_spaced-requires
put_spaced-requires c = omega (arith, c.requires, c.push_str.ensures.len, spaced-long c.args.x (search rules))

pub returns : goal.returns
returns c =
    c.put_spaced.ensures ∙ ap (λ t. t ++ spaced (c.args.x ∷ [])) c.push_str.ensures.bytes
    ∙ append_assoc c.args.text.now.bytes c.args.word.now (spaced (c.args.x ∷ []))
