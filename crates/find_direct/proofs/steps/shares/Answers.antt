-- `find_direct::steps::shares` meets its contract: the digits of the trace word are compared.
-- Assumes nothing.
use Rattle.find_direct.proofs.Groups.{shares-so, shares-not}
use Rattle.find_direct.proofs.steps.shares.Goals as goal

pub returns-then-trace_word-k : goal.returns-then-trace_word-k
returns-then-trace_word-k c = shares-so _ _ _ c.trace_word.ensures c.if-trace_word-k.true

pub returns : goal.returns
returns c = shares-not _ _ _ c.trace_word.ensures c.if-trace_word-k.false
