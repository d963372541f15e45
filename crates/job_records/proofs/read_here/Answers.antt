-- `job_records::read_here` meets its contract: each return shows which test was the first to hold, and behind them the
-- record is judged.
-- Assumes nothing.
use native.Mathlib.Omega.{arith}
use native.Mathlib.Nat.{add-sub_cancel_left}
use mathlib.Core.Path.{sym, ◌∙◌}
use Rattle.job_records.proofs.Starting.{start-one, start-mark, start-short, start-whole, stops, goes_on}
use Rattle.job_records.proofs.Judging.{judged-is}
use Rattle.job_records.proofs.read_here.Goals as goal

pub returns-then-rest-lt2 : goal.returns-then-rest-lt2
returns-then-rest-lt2 c =
    let a = c.args in
    sym (stops a.at a.rest.now (omega arith) (start-one a.rest.now c.if-rest-lt2.true))

pub returns-then-not-starts_with : goal.returns-then-not-starts_with
returns-then-not-starts_with c =
    let a = c.args in
    sym (stops a.at a.rest.now (omega arith) (start-mark a.rest.now (omega arith) (sym c.starts_with.ensures.value ∙ c.if-not-starts_with.true)))

pub returns-then-rest-lt-HEAD : goal.returns-then-rest-lt-HEAD
returns-then-rest-lt-HEAD c =
    let a = c.args in
    sym (stops a.at a.rest.now (omega arith) (start-short a.rest.now (omega arith) (sym c.starts_with.ensures.value ∙ c.if-not-starts_with.false) (omega arith)))

pub overflow_cast-len : goal.overflow_cast-len
overflow_cast-len c = omega (arith, c.type_inv.rest 4)

pub overflow_mul-len : goal.overflow_mul-len
overflow_mul-len c = omega (arith, c.type_inv.rest 4)

pub overflow_add-all : goal.overflow_add-all
overflow_add-all c = omega (arith, c.type_inv.rest 4)

pub returns-then-rest-all : goal.returns-then-rest-all
returns-then-rest-all c =
    let e = c in
    let a = e.args in
    sym (stops a.at a.rest.now (omega arith) (start-short a.rest.now (omega arith) (sym e.starts_with.ensures.value ∙ e.if-not-starts_with.false) c.if-rest-all.true))

pub returns : goal.returns
returns c =
    let s = c in
    let e = s in
    let a = e.args in
    let r = a.rest.now in
    judged-is a.at r c.cutoff_of.result c.admit_record.result c.answer.ensures
    c.cutoff_of.ensures (add-sub_cancel_left _ _) c.admit_record.ensures
    ∙ sym (goes_on a.at r (omega arith) (start-whole r (omega arith) (sym e.starts_with.ensures.value ∙ e.if-not-starts_with.false) s.if-rest-all.false))
