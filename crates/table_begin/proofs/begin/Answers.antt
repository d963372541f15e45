-- `table_begin::begin` meets its contract: the tests decide, and the table is that of the polynomial.
-- Assumes nothing.
use mathlib.Core.Path.{sym, ap₂, ◌∙◌}
use mathlib.Core.List.{[]}
use Prim.Native.Nat.{ℕ}
use native.Mathlib.Omega.{arith}
use Rattle.refusals.proofs.Admitting.{let-in, turned-away, passed-on}
use Rattle.refusals.proofs.Order.{refused, accepted, unwritten, written}
use Rattle.input.proofs.Polynomials.{polynomial-told}
use Rattle.table_rules.specs.Layout.{by_factor}
use Rattle.table_rules.specs.Splitting.{slots_begun}
use Rattle.table_rules.specs.Sizes.{slots}
use Rattle.table_begin.proofs.Writing.{rows-room, begin-room}
use Rattle.table_begin.proofs.begin.Goals as goal

pub returns-in_err-admit : goal.returns-in_err-admit
returns-in_err-admit c =
    let g = turned-away c.admit.ensures c.in_err-admit.was in
    rw (passed-on _ c.from_residual.ensures.1) (sym (refused [] g), sym (unwritten _ _ g))

pub tables_of-requires : goal.tables_of-requires
tables_of-requires c = (polynomial-told _ _ (let-in c.admit.ensures c.in_ok-admit.was)).field

pub begin_lent-requires : goal.begin_lent-requires
begin_lent-requires c =
    let p = let-in c.admit.ensures c.in_ok-admit.was in
    let f = polynomial-told c.args.m c.args.coeffs.now p in
    rw c.tables_of.ensures (record {
      polynomial = f;
      room = begin-room c.args.m c.args.cutoff c.args.coeffs.now c.args.table.now p;
      room-rows = rows-room _ f.field (omega arith);
    })

pub returns : goal.returns
returns c =
    let p = let-in c.admit.ensures c.in_ok-admit.was in (
      sym (accepted [] p),
      c.begin_lent.ensures.0 ∙ ap₂ (λ (m k : ℕ). slots_begun by_factor slots m k c.args.coeffs.now) c.tables_of.ensures c.in_force.ensures ∙ sym (written _ _ p),
    )
