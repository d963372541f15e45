-- `table_finish::merge_roots` meets its contract: what was found is merged.
-- Assumes nothing.
use Rattle.table_finish.proofs.Merging.{merge-asks, merge-is}
use borrow.Author.Rules.{rules}
use Rattle.table_finish.proofs.merge_roots.Goals as goal

pub merge-requires : goal.merge-requires
merge-requires c = merge-asks c.requires (search rules) c.small_roots-k.ensures

pub returns : goal.returns
returns c = merge-is c.requires (search rules) c.small_roots-k.ensures c.merge.ensures
