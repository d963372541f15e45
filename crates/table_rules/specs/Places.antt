-- Where the first factor above the cutoff stands in the slots of a table (docs/RULES.md section 4.1).
--   ahead, beyond   the factors before it, and those behind it
--   leading         the slots in front of it;  place  the slot where it stands
--   slots_of         a factor's own slots;  spare  the zeros behind the last factor
-- Assumes nothing.
use Rattle.std.specs.Prelude.{List, ◌∷◌, ℕ, suc, ◌-◌, length, take, drop}
use Rattle.table_rules.specs.Entries.{first_above}
use Rattle.table_rules.specs.Layout.{Factor, blocks}
use Rattle.table_rules.specs.Table.{Table}

-- those before it
abbrev pub ahead : Table → List Factor
ahead t = take (first_above t.cutoff t.factors) t.factors

-- those behind it
abbrev pub beyond : Table → List Factor
beyond t = drop (suc (first_above t.cutoff t.factors)) t.factors

-- the slots in front of it
abbrev pub leading : Table → List ℕ
leading t = t.width ∷ t.cutoff ∷ length t.factors ∷ t.taken ∷ blocks (ahead t)

-- the slot where it stands
abbrev pub place : Table → ℕ
place t = length (leading t)

-- its own slots
abbrev pub slots_of : Factor → List ℕ
slots_of e = e.0 ∷ length e.1 ∷ e.1

-- the zeros behind the last factor
abbrev pub spare : ℕ → Table → ℕ
spare slots t = slots - length (t.width ∷ t.cutoff ∷ length t.factors ∷ t.taken ∷ blocks t.factors)
