-- `job_text::strings::put_line` meets its contract: its parts come one behind the other, and each is short enough for the room.
-- Assumes nothing.
use mathlib.Core.Path.{◌≡◌, refl, ap, ◌∙◌}
use mathlib.Core.List.{List, [], ◌∷◌, ◌++◌}
use Prim.Native.Nat.{ℕ, ◌+◌, ◌≤◌, ◌<◌}
use Rattle.job_text.specs.Lines.{spaced}
use native.Mathlib.Omega.{arith}
use lib.ListN.{length}
use borrow.Author.Rules.{rules}
use Rattle.job_text.proofs.Writing.{ten-digits, spaced-six, spaced-short, begun, longer, row_from, row_room, row_on, row-all, line_refused, line-accepted}
use Rattle.job_text.proofs.strings.put_line.Goals as goal
use Rattle.job_text.proofs.strings.put_line.Goals.{then-outcome-eq0+else-loop-root-test, else-outcome-eq0}

-- a number more takes at most six bytes
more : (x n : ℕ) (s : List ℕ) {t : List ℕ} → x < 65536 → length s ≤ n → t ≡ s ++ spaced (x ∷ []) → length t ≤ n + 6
more x n s h l e = let a = longer s _ _ e in let b = spaced-six x h in omega arith

pub decimal-requires : goal.decimal-requires
decimal-requires g c = omega (arith, c.requires.2, ap length c.requires.0, ten-digits c.args.k (search rules))

pub put_spaced-requires : goal.put_spaced-requires
put_spaced-requires g c =
    let a = ap length (begun c.requires.0 c.decimal.ensures) in
    omega (arith, c.requires.2, ten-digits c.args.k (search rules), spaced-six c.args.outcome (search rules))

pub put_spaced-requires-then-outcome-eq0 : goal.put_spaced-requires-then-outcome-eq0
put_spaced-requires-then-outcome-eq0 g c =
    let k = ten-digits c.args.k (search rules) in
    let a = ap length (begun c.requires.0 c.decimal.ensures) in
    let b = more c.args.outcome 10 _ (search rules) (omega arith) c.put_spaced.ensures in
    omega (arith, c.requires.2, spaced-six (length c.args.roots.now) c.requires.1)

pub put_spaced-requires-then-outcome-eq0-2 : goal.put_spaced-requires-then-outcome-eq0-2
put_spaced-requires-then-outcome-eq0-2 g c =
    let k = ten-digits c.args.k (search rules) in
    let a = ap length (begun c.requires.0 c.decimal.ensures) in
    let b = more c.args.outcome 10 _ (search rules) (omega arith) c.put_spaced.ensures in
    let d = more (length c.args.roots.now) 16 _ c.requires.1 b c.put_spaced-then-outcome-eq0.ensures in
    omega (arith, c.requires.2, spaced-six c.args.steps (search rules))

pub loop-root-init : goal.loop-root-init
loop-root-init g c = row_from _

pub put_spaced-requires-in-loop-root : goal.put_spaced-requires-in-loop-root
put_spaced-requires-in-loop-root g c =
    let roots = c.args.roots.now in
    let k = ten-digits c.args.k (search rules) in
    let a = ap length (begun c.requires.0 c.decimal.ensures) in
    let b = more c.args.outcome 10 _ (search rules) (omega arith) c.put_spaced.ensures in
    let d = more (length roots) 16 _ c.requires.1 b c.put_spaced-then-outcome-eq0.ensures in
    let e = more c.args.steps 22 _ (search rules) d c.put_spaced-then-outcome-eq0-2.ensures in
    let f = row_room _ c.loop-root.text.bytes roots c.loop-root.root-index c.loop-root.invariant (omega arith) refl in
    let h = spaced-short roots (λ i l. omega (arith, c.type_inv.roots i)) in
    omega (arith, c.requires.2)

pub loop-root-preserved : goal.loop-root-preserved
loop-root-preserved g c =
    row_on _ c.args.roots.now c.loop-root.root-index c.loop-root.invariant (omega arith) refl c.put_spaced-in-loop-root.ensures

pub push_str-requires : goal.push_str-requires
push_str-requires g c =
    let roots = c.args.roots.now in
    let k = ten-digits c.args.k (search rules) in
    let a = ap length (begun c.requires.0 c.decimal.ensures) in
    let b = more c.args.outcome 10 _ (search rules) (omega arith) c.put_spaced.ensures in
    elim c.if-outcome-eq0.branch [
      | then-outcome-eq0+else-loop-root-test w ↦
          let d = more (length roots) 16 _ c.requires.1 b w.put_spaced-then-outcome-eq0.ensures in
          let e = more c.args.steps 22 _ (search rules) d w.put_spaced-then-outcome-eq0-2.ensures in
          let f = longer w.put_spaced-then-outcome-eq0-2.new.text.bytes w.loop-root.text.bytes (spaced roots) (row-all _ roots w.loop-root.root-index w.loop-root.invariant (omega arith) (omega arith)) in
          let h = spaced-short roots (λ i l. omega (arith, c.type_inv.roots i)) in
          omega (arith, c.requires.2, ap length (ap (λ t. t.bytes) w.text-is))
      | else-outcome-eq0 w ↦ omega (arith, c.requires.2, ap length (ap (λ t. t.bytes) w.text-is))
    ]

pub returns : goal.returns
returns g c =
    let a = c.args in
    let roots = a.roots.now in
    let p = begun c.requires.0 c.decimal.ensures in
    let q = c.put_spaced.ensures in
    elim c.if-outcome-eq0.branch [
      | then-outcome-eq0+else-loop-root-test w ↦
          line-accepted a.k a.outcome a.steps roots p q w.if-outcome-eq0.true w.put_spaced-then-outcome-eq0.ensures w.put_spaced-then-outcome-eq0-2.ensures
          (ap (λ t. t.bytes) w.text-is ∙ row-all _ roots w.loop-root.root-index w.loop-root.invariant (omega arith) (omega arith)) c.push_str.ensures.bytes
      | else-outcome-eq0 w ↦
          line_refused a.k a.outcome a.steps roots p (ap (λ t. t.bytes) w.text-is ∙ q) w.if-outcome-eq0.false c.push_str.ensures.bytes
    ]
