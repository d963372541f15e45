-- `job_sheet::ended` meets its contract: a refusal is the one whose number it has.
-- Assumes nothing.
use Rattle.std.proofs.Common.{◌≡◌, cond, eqb, refl, ap, ap₂, ◌∙◌}
use mir.Val.{bool_byte}
use Rattle.std.specs.Prelude.{Option, Some, None}
use Rattle.std.specs.Option.{option_eq}
use Rattle.refusals.specs.declared.Refusal.{Refusal}
use Rattle.refusals.specs.declared.Refusal.TheVariants.{Field, Empty, Long, Element, AllZero, Cutoff, Room}
use Rattle.refusals.specs.declared.Refusal.TheVariants.{Unsound, Stuck, NotDone, Mark, Short, OfZero}
use Rattle.refusals.specs.declared.Refusal.TheVariants.{Count, Convention, Block, Strength, Far, Order}
use Rattle.refusals.specs.contracts.RefusalPartialEq.TheImpl.{eq-value}
use Rattle.job_sheet.specs.Adding.{stop_number}
use Rattle.job_sheet.proofs.ended.Goals as goal

-- what is counted of each
counts : (stop : Option Refusal)
    → (bool_byte (option_eq eq-value.it stop (Some Mark)) ≡ cond (eqb (stop_number stop) 11) 1 0)
    × (bool_byte (option_eq eq-value.it stop (Some Short)) ≡ cond (eqb (stop_number stop) 12) 1 0)
counts None = (refl, refl)
counts (Some Field) = (refl, refl)
counts (Some Empty) = (refl, refl)
counts (Some Long) = (refl, refl)
counts (Some Element) = (refl, refl)
counts (Some AllZero) = (refl, refl)
counts (Some Cutoff) = (refl, refl)
counts (Some Room) = (refl, refl)
counts (Some Unsound) = (refl, refl)
counts (Some Stuck) = (refl, refl)
counts (Some NotDone) = (refl, refl)
counts (Some Mark) = (refl, refl)
counts (Some Short) = (refl, refl)
counts (Some OfZero) = (refl, refl)
counts (Some Count) = (refl, refl)
counts (Some Convention) = (refl, refl)
counts (Some Block) = (refl, refl)
counts (Some Strength) = (refl, refl)
counts (Some Far) = (refl, refl)
counts (Some Order) = (refl, refl)

pub returns : goal.returns
returns c =
    let n = counts c.args.stop in
    ap₂ (λ a b. record { lines = c.args.lines; unknown = c.args.unknown; mark = a; short = b })
    (c.from.ensures ∙ ap bool_byte c.eq.ensures ∙ n.0) (c.from-2.ensures ∙ ap bool_byte c.eq-2.ensures ∙ n.1)
