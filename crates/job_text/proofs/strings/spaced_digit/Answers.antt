-- `job_text::strings::spaced_digit` meets its contract, digit by digit.
-- Assumes nothing.
use mathlib.Core.Path.{◌≡◌, refl, sym, ap}
use mathlib.Core.List.{List, [], ◌∷◌}
use Prim.Native.Nat.{ℕ, ◌+◌, ◌<◌}
use native.Mathlib.Omega.{arith}
use Rattle.job_text.specs.Lines.{decimal, decimal_in, spaced}
use Rattle.job_text.proofs.Digits.{decimal-small}
use Rattle.job_text.proofs.Writing.{spaced-one}
use Rattle.job_text.proofs.strings.spaced_digit.Goals as goal

digit : {x : ℕ} (d : ℕ) → d < 10 → x ≡ d → (32 ∷ (48 + d) ∷ []) ≡ spaced (x ∷ [])
digit {x} d h e = rw (e, spaced-one d, decimal-small d h) refl

pub returns-in-0 : goal.returns-in-0
returns-in-0 c = digit 0 (omega arith) c.in-0.is

pub returns-in-1 : goal.returns-in-1
returns-in-1 c = digit 1 (omega arith) c.in-1.is

pub returns-in-2 : goal.returns-in-2
returns-in-2 c = digit 2 (omega arith) c.in-2.is

pub returns-in-3 : goal.returns-in-3
returns-in-3 c = digit 3 (omega arith) c.in-3.is

pub returns-in-4 : goal.returns-in-4
returns-in-4 c = digit 4 (omega arith) c.in-4.is

pub returns-in-5 : goal.returns-in-5
returns-in-5 c = digit 5 (omega arith) c.in-5.is

pub returns-in-6 : goal.returns-in-6
returns-in-6 c = digit 6 (omega arith) c.in-6.is

pub returns-in-7 : goal.returns-in-7
returns-in-7 c = digit 7 (omega arith) c.in-7.is

pub returns-in-8 : goal.returns-in-8
returns-in-8 c = digit 8 (omega arith) c.in-8.is

pub returns-in_default : goal.returns-in_default
returns-in_default c = digit 9 (omega arith) (omega (arith, c.in_default))
