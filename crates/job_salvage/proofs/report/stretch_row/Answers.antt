-- `job_salvage::report::stretch_row` meets its contract: the start, then the length behind a space, and a line feed.
-- Assumes nothing.
use mathlib.Core.Path.{ap}
use mathlib.Core.List.{[], ◌∷◌}
use native.Mathlib.Omega.{arith}
use lib.ListN.{length}
use borrow.Author.Rules.{rules}
use Rattle.job_text.specs.Lines.{spaced}
use Rattle.job_text.proofs.Writing.{ten-digits, spaced-one, begun, longer}
use Rattle.job_salvage.proofs.Rows.{stretch-made}
use Rattle.job_salvage.proofs.report.stretch_row.Goals as goal

pub decimal-requires : goal.decimal-requires
decimal-requires c = omega (arith, ap length c.new-text.ensures, ten-digits c.args.start (search rules))

pub put_spaced-requires : goal.put_spaced-requires
put_spaced-requires c =
    let a = ap length (begun c.new-text.ensures c.decimal.ensures) in
    omega (arith, ten-digits c.args.start (search rules), ten-digits c.args.len (search rules), ap length (spaced-one c.args.len))

pub push_str-requires : goal.push_str-requires
push_str-requires c =
    let a = ap length (begun c.new-text.ensures c.decimal.ensures) in
    let b = longer c.decimal.new.text.bytes _ (spaced (c.args.len ∷ [])) c.put_spaced.ensures in
    omega (arith, ten-digits c.args.start (search rules), ten-digits c.args.len (search rules), ap length (spaced-one c.args.len))

pub returns : goal.returns
returns c = stretch-made c.args.start c.args.len c.new-text.ensures c.decimal.ensures c.put_spaced.ensures c.push_str.ensures.bytes
