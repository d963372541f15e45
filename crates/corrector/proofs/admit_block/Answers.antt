-- `corrector::admit_block` meets its contract: each return shows which test was the first to hold.
-- Assumes nothing.
use native.Mathlib.Omega.{arith}
use Rattle.corrector.specs.Correcting.Admitted.{no_block, no-strength, block_at}
use Rattle.corrector.proofs.Blocks.{make-block, last-small}
use Rattle.corrector.proofs.admit_block.Goals as goal
use Rattle.corrector.proofs.admit_block.Goals.{then-word-ne-WORD-via-then-word-ne-WORD, then-word-ne-WORD-via-else-word-ne-WORD+then-word-ge-LAST_BIT}

pub returns-then-word-ne-WORD : goal.returns-then-word-ne-WORD
returns-then-word-ne-WORD c = elim c.then-word-ne-WORD.branch [
  | then-word-ne-WORD-via-then-word-ne-WORD w ↦ no_block (λ b. w.if-word-ne-WORD.true b.long)
  | then-word-ne-WORD-via-else-word-ne-WORD+then-word-ge-LAST_BIT w ↦
      no_block (λ b. let l = last-small b in let h = w.if-word-ge-LAST_BIT.true in let z : ⊥ = omega arith in z)
]

pub returns-then-strength-eq0 : goal.returns-then-strength-eq0
returns-then-strength-eq0 c =
    no-strength (make-block c.if-word-ne-WORD.false (λ k. omega (arith, c.type_inv.word k)) (let h = c.if-word-ge-LAST_BIT.false in omega arith))
    (λ s. let l = s.least in let m = s.most in let z : ⊥ = omega arith in z)

pub returns : goal.returns
returns c =
    block_at (make-block c.if-word-ne-WORD.false (λ k. omega (arith, c.type_inv.word k)) (let h = c.if-word-ge-LAST_BIT.false in omega arith))
    (record { least = (let h = c.if-strength-eq0.false in omega arith); most = (let h = c.if-strength-gt-STRONGEST.false in omega arith) })
