-- Two outcomes that one contract admits coincide.
--   wrote-once   of what writes to lent memory: the place behind the text, and the bytes
--   line-once    of `line`: the text
-- Assumes nothing.
use mathlib.Core.Path.{◌≡◌}
use mathlib.Core.List.{List}
use Prim.Native.Nat.{ℕ}
use Rattle.arrayvec.specs.ArrayString.{ArrayString}
use Rattle.refusals.proofs.Told.{one_answer}
use Rattle.job_text.specs.Lines.{line_of, Wrote}

pub wrote-once : {text old : List ℕ} {at n m : ℕ} {s t : List ℕ} → Wrote text at old n s → Wrote text at old m t → (n ≡ m) × (s ≡ t)
wrote-once p q = (one_answer p.ended q.ended, one_answer p.bytes q.bytes)

pub line-once : (k outcome steps : ℕ) (roots : List ℕ) (r s : ArrayString) → r.bytes ≡ line_of k outcome steps roots
    → s.bytes ≡ line_of k outcome steps roots → r.bytes ≡ s.bytes
line-once k outcome steps roots r s = one_answer
