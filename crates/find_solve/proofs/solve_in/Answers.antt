-- `find_solve::solve_in` meets its contract: the field and the degree say which way is gone.
-- Assumes nothing.
use Rattle.find_solve.proofs.Direct.{leading_at, direct-at}
use borrow.Author.Rules.{rules}
use Rattle.find_solve.proofs.solve_in.Goals as goal

pub solve_direct-requires : goal.solve_direct-requires
solve_direct-requires c =
    let start = c in
    (leading_at c.if-m-eq11.true start.requires.0 c.top-n.ensures, search rules, search rules, start.requires.1, start.requires.2, search rules)

pub returns-then-n-le5 : goal.returns-then-n-le5
returns-then-n-le5 c = direct-at c.if-m-eq11.true c.solve_direct.ensures

pub returns-then-n-le2 : goal.returns-then-n-le2
returns-then-n-le2 c = c.solve_low.ensures _ c.requires.1
