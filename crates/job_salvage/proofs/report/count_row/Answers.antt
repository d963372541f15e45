-- `job_salvage::report::count_row` meets its contract: the number, and a line feed.
-- Assumes nothing.
use mathlib.Core.Path.{ap}
use native.Mathlib.Omega.{arith}
use lib.ListN.{length}
use borrow.Author.Rules.{rules}
use Rattle.job_text.proofs.Writing.{ten-digits, begun}
use Rattle.job_salvage.proofs.Rows.{count-made}
use Rattle.job_salvage.proofs.report.count_row.Goals as goal

pub decimal-requires : goal.decimal-requires
decimal-requires c = omega (arith, ap length c.new-text.ensures, ten-digits c.args.n (search rules))

pub push_str-requires : goal.push_str-requires
push_str-requires c = omega (arith, ap length (begun c.new-text.ensures c.decimal.ensures), ten-digits c.args.n (search rules))

pub returns : goal.returns
returns c = count-made c.args.n c.new-text.ensures c.decimal.ensures c.push_str.ensures.bytes
