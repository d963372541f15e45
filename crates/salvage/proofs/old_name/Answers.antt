-- `old_name` has room for the name and a number, which are 14 bytes at most, all of them ASCII.
use native.Mathlib.Omega.{arith}
use mathlib.Core.Path.{sym, ap, subst, ◌∙◌}
use mathlib.Core.List.{List, [], ◌∷◌, ◌++◌}
use Prim.Native.Nat.{ℕ, zero, suc, ◌<◌}
use lib.ListN.{length, length-append}
use Rattle.std.specs.Prelude.{IsAscii}
use Rattle.std.proofs.lemmas.Str.{IsAscii-append}
use Rattle.job_text.specs.Lines.{decimal}
use Rattle.job_text.proofs.Digits.{DigitBytes, decimal-digits, decimal-short}
use Rattle.job_text.proofs.Digits.DigitBytes.{none, one}
use Rattle.job_text.proofs.Writing.{ten-digits}
use Rattle.salvage.proofs.old_name.Goals as goal

-- bytes below 128
data Low : List ℕ → Type 0 where
  end : Low []
  byte : {x : ℕ} {l : List ℕ} → x < 128 → Low l → Low (x ∷ l)

ascii : {l : List ℕ} → Low l → IsAscii l
ascii end i = omega arith
ascii (byte h p) zero = h
ascii (byte h p) (suc i) = ascii p i

low-digits : {l : List ℕ} → DigitBytes l → Low l
low-digits none = end
low-digits (one h p) = byte (omega arith) (low-digits p)

-- kept.lr.old
abbrev front : List ℕ
front = 107 ∷ 101 ∷ 112 ∷ 116 ∷ 46 ∷ 108 ∷ 114 ∷ 46 ∷ 111 ∷ 108 ∷ 100 ∷ []

abbrev dot : List ℕ
dot = 46 ∷ []

low_front : Low (front ++ dot)
low_front =
    byte (omega arith) (byte (omega arith) (byte (omega arith) (byte (omega arith) (byte (omega arith) (byte (omega arith) (byte (omega arith) (byte (omega arith) (byte (omega arith) (byte (omega arith) (byte (omega arith) (byte (omega arith) (end))))))))))))

pub decimal-requires : goal.decimal-requires
decimal-requires c =
    omega (arith, ap length c.new-name.ensures, c.push_str.ensures.len, c.push_str-then-k-gt1.ensures.len, ten-digits c.args.k (omega (arith, c.ranges.k)))

pub returns-then-k-gt1-clause-len : goal.returns-then-k-gt1-clause-len
returns-then-k-gt1-clause-len c =
    omega (
      arith,
      ap length c.new-name.ensures,
      c.push_str.ensures.len,
      c.push_str-then-k-gt1.ensures.len,
      ap length c.decimal.ensures,
      length-append c.push_str-then-k-gt1.new.self.bytes (decimal c.args.k),
      decimal-short 1 c.args.k (omega (arith, c.requires)),
    )

pub returns-then-k-gt1-clause-ascii : goal.returns-then-k-gt1-clause-ascii
returns-then-k-gt1-clause-ascii c =
    subst IsAscii
    (sym (c.decimal.ensures
    ∙ ap (λ l. l ++ decimal c.args.k) (c.push_str-then-k-gt1.ensures.bytes ∙ ap (λ l. l ++ dot) (c.push_str.ensures.bytes ∙ ap (λ l. l ++ front) c.new-name.ensures))))
    (IsAscii-append (front ++ dot) (decimal c.args.k) (ascii low_front) (ascii (low-digits (decimal-digits c.args.k))))
