-- An export tells what its call answered.
--   told-as   the call answered b, and the struct is that of b
-- Assumes nothing.
use mathlib.Core.Path.{◌≡◌, sym, ap, ◌∙◌}
use Rattle.locator.specs.Calls.{As}

pub told-as : {A R : Type 0} {tell : A → R} {admits : A → Type 0} {a b : A} {r : R} → admits a → a ≡ b → r ≡ tell b → As tell admits r
told-as {tell = tell} {a = a} h e f = record { answer = a; admitted = h; told = f ∙ sym (ap tell e) }
