-- `job_writer::put_words` meets its contract: at each turn the bytes of the first words stand in the room.
-- Assumes nothing.
use mathlib.Core.Path.{◌∙◌}
use mathlib.Core.List.{[], ◌∷◌}
use Prim.Native.Nat.{◌/◌, ◌%◌}
use native.Mathlib.Omega.{arith}
use lib.ListN.{get_or}
use Rattle.job_text.proofs.Writing.{wrote-part}
use Rattle.job_writer.proofs.Bytes.{two-bytes}
use Rattle.job_writer.proofs.Turns.{spell-from, spell-on, spell-end}
use borrow.Author.Rules.{rules}
use Rattle.job_writer.proofs.put_words.Goals as goal

pub loop-w-init : goal.loop-w-init
loop-w-init c = spell-from _ _ _ (search rules)

pub loop-w-preserved : goal.loop-w-preserved
loop-w-preserved c =
    let w = get_or c.args.words.now c.loop-w.w-index 0 in
    spell-on c.loop-w.invariant (omega arith)
    (wrote-part c.loop-w.end (w % 256 ∷ w / 256 ∷ []) _ _ (c.copy_from_slice.ensures.after ∙ c.to_le_bytes.ensures ∙ two-bytes w (omega (arith, c.type_inv.words c.loop-w.w-index))))

pub returns : goal.returns
returns c = spell-end c.loop-w.invariant (omega arith)
