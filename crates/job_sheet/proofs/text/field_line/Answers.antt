-- `job_sheet::text::field_line` meets its contract: its parts come one behind the other, and each is short enough for
-- the room.
-- Assumes nothing.
use Rattle.std.proofs.Common.{ℕ, ◌+◌, ◌≤◌, ◌<◌, ◌≡◌, ◌^◌, List, [], ◌∷◌, ◌++◌, length, ap, arith, rules}
use Rattle.job_text.specs.Lines.{spaced}
use Rattle.job_text.proofs.Writing.{five-digits, spaced-long, longer, begun}
use Rattle.job_sheet.specs.Calls.{told_field}
use Rattle.job_sheet.proofs.Texts.{field-made}
use Rattle.job_sheet.proofs.text.field_line.Goals as goal

-- a number more
more : (x : ℕ) (s : List ℕ) {t : List ℕ} → x < 2 ^ 64 → t ≡ s ++ spaced (x ∷ []) → length t ≤ length s + 21
more x s h e = omega (arith, longer s _ _ e, spaced-long x h)

pub decimal-requires : goal.decimal-requires
decimal-requires c = omega (arith, ap length c.new-text.ensures, five-digits c.args.m (search rules))

pub put_spaced-requires : goal.put_spaced-requires
put_spaced-requires c =
    let a = ap length (begun c.new-text.ensures c.decimal.ensures) in
    omega (arith, five-digits c.args.m (search rules), spaced-long c.args.line.accepted (search rules))

pub put_numbers-requires : goal.put_numbers-requires
put_numbers-requires c =
    let a = ap length (begun c.new-text.ensures c.decimal.ensures) in
    let b = more c.args.line.accepted c.decimal.new.text.bytes (search rules) c.put_spaced.ensures in
    omega (arith, five-digits c.args.m (search rules), c.requires.five)

pub put_spaced-requires-2 : goal.put_spaced-requires-2
put_spaced-requires-2 c =
    let a = ap length (begun c.new-text.ensures c.decimal.ensures) in
    let b = more c.args.line.accepted c.decimal.new.text.bytes (search rules) c.put_spaced.ensures in
    omega (arith, five-digits c.args.m (search rules), c.requires.five, c.put_numbers.ensures.1, spaced-long c.args.line.roots (search rules))

pub put_spaced-requires-3 : goal.put_spaced-requires-3
put_spaced-requires-3 c =
    let a = ap length (begun c.new-text.ensures c.decimal.ensures) in
    let b = more c.args.line.accepted c.decimal.new.text.bytes (search rules) c.put_spaced.ensures in
    let d = more c.args.line.roots c.put_numbers.new.text.bytes (search rules) c.put_spaced-2.ensures in
    omega (arith, five-digits c.args.m (search rules), c.requires.five, c.put_numbers.ensures.1, spaced-long c.args.line.steps (search rules))

pub put_highest-requires : goal.put_highest-requires
put_highest-requires c =
    let a = ap length (begun c.new-text.ensures c.decimal.ensures) in
    let b = more c.args.line.accepted c.decimal.new.text.bytes (search rules) c.put_spaced.ensures in
    let d = more c.args.line.roots c.put_numbers.new.text.bytes (search rules) c.put_spaced-2.ensures in
    let e = more c.args.line.steps c.put_spaced-2.new.text.bytes (search rules) c.put_spaced-3.ensures in
    omega (arith, five-digits c.args.m (search rules), c.requires.five, c.put_numbers.ensures.1)

pub push_str-requires : goal.push_str-requires
push_str-requires c =
    let a = ap length (begun c.new-text.ensures c.decimal.ensures) in
    let b = more c.args.line.accepted c.decimal.new.text.bytes (search rules) c.put_spaced.ensures in
    let d = more c.args.line.roots c.put_numbers.new.text.bytes (search rules) c.put_spaced-2.ensures in
    let e = more c.args.line.steps c.put_spaced-2.new.text.bytes (search rules) c.put_spaced-3.ensures in
    omega (arith, five-digits c.args.m (search rules), c.requires.five, c.put_numbers.ensures.1, c.put_highest.ensures.1)

pub returns : goal.returns
returns c =
    field-made c.args.m (told_field c.args.line) c.new-text.ensures c.decimal.ensures c.put_spaced.ensures c.put_numbers.ensures.0
    c.put_spaced-2.ensures c.put_spaced-3.ensures c.put_highest.ensures.0 c.push_str.ensures.bytes
