-- `corrector_syndromes::odd_values` meets its contract: the rows of both parts are added.
-- Assumes nothing.
use Rattle.corrector_syndromes.proofs.Adding.{both-parts, zeros-at}
use Rattle.corrector_syndromes.proofs.odd_values.Goals as goal

pub returns : goal.returns
returns c = both-parts c.args.r zeros-at c.add_values.ensures c.add_values-2.ensures
