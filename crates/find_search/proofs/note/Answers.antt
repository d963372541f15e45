-- `find_search::note` meets its contract.
-- Assumes nothing.
use mathlib.Core.Path.{refl}
use Rattle.find_search.proofs.note.Goals as goal

pub bounds-roots-k : goal.bounds-roots-k
bounds-roots-k c = c.requires.0 c.if-v-eq0.true

pub returns-then-v-eq0 : goal.returns-then-v-eq0
returns-then-v-eq0 c = record { hit = λ z. (refl, refl); miss = λ n. absurd (n c.if-v-eq0.true) }

pub returns : goal.returns
returns c = record { hit = λ z. absurd (c.if-v-eq0.false z); miss = λ n. (refl, refl) }
