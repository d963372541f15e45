-- `job_text::line` meets its contract: its parts are written one behind the other, and each place is bounded by what
-- was written.
-- Assumes nothing.
use mathlib.Core.Path.{◌≡◌, sym, subst}
use mathlib.Core.List.{[], ◌∷◌}
use native.Mathlib.Omega.{arith}
use lib.ListN.{length, take}
use lib.Seq.{length-take-le}
use borrow.Author.Rules.{rules}
use Rattle.job_text.specs.Lines.{spaced, Wrote}
use Rattle.job_text.proofs.Lending.{five-digits, ten-digits, spaced-six, line_refused, line-accepted}
use Rattle.job_text.proofs.line.Goals as goal

pub decimal-first-requires : goal.decimal-first-requires
decimal-first-requires c = omega (arith, ten-digits c.args.k (search rules))

-- the number takes at most 10 bytes, and each other number 6
pub put_spaced-second-requires : goal.put_spaced-second-requires
put_spaced-second-requires c =
    omega (arith, c.decimal-first.ensures.ended, ten-digits c.args.k (search rules), c.decimal-first.auto.out, five-digits c.args.outcome (search rules))

pub put_byte-requires : goal.put_byte-requires
put_byte-requires c =
    let a = ten-digits c.args.k (search rules) in
    let b = spaced-six (search rules) c.put_spaced-second.ensures in
    omega (arith, c.decimal-first.ensures.ended)

pub returns-then-outcome-ne0 : goal.returns-then-outcome-ne0
returns-then-outcome-ne0 c =
    line_refused c.args.k c.args.outcome c.args.steps (take c.args.s c.args.roots.now) c.decimal-first.ensures c.put_spaced-second.ensures c.if-outcome-ne0.true c.put_byte.ensures

pub put_spaced-third-requires : goal.put_spaced-third-requires
put_spaced-third-requires c =
    let a = ten-digits c.args.k (search rules) in
    let b = spaced-six (search rules) c.put_spaced-second.ensures in
    let d = five-digits c.args.s (search rules) in
    omega (arith, c.decimal-first.ensures.ended)

pub put_spaced-fourth-requires : goal.put_spaced-fourth-requires
put_spaced-fourth-requires c =
    let a = ten-digits c.args.k (search rules) in
    let b = spaced-six (search rules) c.put_spaced-second.ensures in
    let e = spaced-six (search rules) c.put_spaced-third.ensures in
    let d = five-digits c.args.steps (search rules) in
    omega (arith, c.decimal-first.ensures.ended)

pub put_roots-end-requires : goal.put_roots-end-requires
put_roots-end-requires c =
    let a = ten-digits c.args.k (search rules) in
    let b = spaced-six (search rules) c.put_spaced-second.ensures in
    let e = spaced-six (search rules) c.put_spaced-third.ensures in
    let f = spaced-six (search rules) c.put_spaced-fourth.ensures in
    (c.requires.0, omega (arith, c.decimal-first.ensures.ended))

pub put_byte-requires-2 : goal.put_byte-requires-2
put_byte-requires-2 c =
    let a = ten-digits c.args.k (search rules) in
    let b = spaced-six (search rules) c.put_spaced-second.ensures in
    let e = spaced-six (search rules) c.put_spaced-third.ensures in
    let f = spaced-six (search rules) c.put_spaced-fourth.ensures in
    omega (arith, c.decimal-first.ensures.ended)

pub returns : goal.returns
returns c =
    let r = c in
    let f = r in
    let t = f in
    let p = t in
    let d = p in
    let a = d.args in
    let roots = take a.s a.roots.now in
    let n : a.s ≡ length roots = sym (length-take-le a.s a.roots.now (search rules)) in
    line-accepted a.k a.outcome a.steps roots d.decimal-first.ensures p.put_spaced-second.ensures t.if-outcome-ne0.false
    (subst (λ s. Wrote (spaced (s ∷ [])) p.put_spaced-second.result p.put_spaced-second.new.out t.put_spaced-third.result t.put_spaced-third.new.out) n t.put_spaced-third.ensures)
    f.put_spaced-fourth.ensures
    r.put_roots-end.ensures.0
    c.put_byte-2.ensures
