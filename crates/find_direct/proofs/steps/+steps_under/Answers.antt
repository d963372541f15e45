-- The proof of the cycle of calls {steps_under}: a group counts for itself, and its two parts for themselves. The
-- measure is the place.
-- Assumes nothing.
use native.Mathlib.Omega.{arith}
use Rattle.find_direct.proofs.Groups.{one_less, counted-least, counted_none, counted-low, counted-high, counted-few, counted-within, counted-some, counted-sum}
use Rattle.find_direct.proofs.steps.+steps_under.Goals as goal

pub returns-then-k-eq0 : goal.returns-then-k-eq0
returns-then-k-eq0 t c = counted-least _ _ _ c.if-k-eq0.true

pub returns-then-n-c : goal.returns-then-n-c
returns-then-n-c t c = counted_none c.requires c.if-n-c.true

pub overflow_mul-q : goal.overflow_mul-q
overflow_mul-q t c = omega (arith, counted-few c.requires (one_less c.if-k-eq0.false))

pub steps_under-a-requires : goal.steps_under-a-requires
steps_under-a-requires t c = (
  omega (arith, c.decreases, one_less c.if-k-eq0.false),
  counted-low c.requires (one_less c.if-k-eq0.false) c.sharing-low.ensures,
)

pub overflow_sub-n : goal.overflow_sub-n
overflow_sub-n t c = counted-within c.requires (one_less c.if-k-eq0.false) c.sharing-low.ensures

pub steps_under-b-requires : goal.steps_under-b-requires
steps_under-b-requires t c = (
  omega (arith, c.decreases, one_less c.if-k-eq0.false),
  counted-high c.requires (one_less c.if-k-eq0.false) c.sharing-low.ensures,
)

pub overflow_add-result : goal.overflow_add-result
overflow_add-result t c =
    omega (arith, counted-sum c.requires (one_less c.if-k-eq0.false) c.if-n-c.false c.steps_under-a.ensures c.steps_under-b.ensures)

pub overflow_add-result-2 : goal.overflow_add-result-2
overflow_add-result-2 t c =
    omega (arith, counted-sum c.requires (one_less c.if-k-eq0.false) c.if-n-c.false c.steps_under-a.ensures c.steps_under-b.ensures)

pub returns : goal.returns
returns t c = counted-some c.requires (one_less c.if-k-eq0.false) c.if-n-c.false c.steps_under-a.ensures c.steps_under-b.ensures
