-- The three ways to the roots agree on every polynomial that the whole call accepts: `Engines` of specs/Engines.antt.
--   engines   they do
-- Assumes nothing.
use mathlib.Core.Path.{sym, ap, ◌∙◌}
use mathlib.Core.List.{List}
use Prim.Native.Nat.{ℕ}
use borrow.Author.Tests.{ltb-false}
use lib.ListN.{length}
use Rattle.std.specs.Prelude.{Ok}
use Rattle.refusals.specs.Order.{Passed}
use Rattle.refusals.proofs.Order.{written, failed}
use Rattle.field.specs.Field.{roots_at}
use Rattle.input.specs.Limit.{limit}
use Rattle.input.proofs.Polynomials.{polynomial-told, passed-rest}
use Rattle.table_rules.specs.Demand.{steps_at}
use Rattle.find_solve.specs.Calls.{solve_tests}
use Rattle.find_search.specs.Calls.{search_tests}
use Rattle.demands.specs.Demand2.{Demand2}
use Rattle.demands.specs.Engines.{Engines}
use Rattle.demands.proofs.Demand2.{search-passes, holds, demand-2}

pub engines : (m c : ℕ) (f list mults : List ℕ) → Passed (solve_tests m c f list mults) → Engines m c f list mults
engines m c f list mults p =
    let d : Demand2 m c f list mults = demand-2 m c f list mults p in
    let q : Passed (search_tests m f list mults) = search-passes m c f list mults p in
    record {
      asked = (polynomial-told m f p, ltb-false (length list) limit (failed (passed-rest m f q)));
      resultants-give = λ k after o. (o.count, holds (roots_at m f) list after o.slots);
      agree = λ r s k x y z u v a b o. (
        (d.solve-gives r x u a).0 ∙ ap (λ n. Ok (record { s = n; steps = steps_at m c f })) (sym o.count),
        (d.search-gives s y v b).0 ∙ ap Ok (sym o.count),
        (d.agree r s x y u v a b).0,
        b.list ∙ written _ list q ∙ sym o.slots,
      );
    }
