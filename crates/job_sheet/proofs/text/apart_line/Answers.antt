-- `job_sheet::text::apart_line` meets its contract: three words with their numbers, and a line feed; the text is bounded
-- by what was put.
-- Assumes nothing.
use Rattle.std.proofs.Common.{ℕ, ◌+◌, ◌≤◌, ◌<◌, ◌≡◌, ◌^◌, List, [], ◌∷◌, ◌++◌, length, ap, arith, rules, length-append}
use Rattle.job_text.specs.Lines.{spaced}
use Rattle.job_text.proofs.Writing.{spaced-long, longer}
use Rattle.job_sheet.specs.Text.{unknown_word, mark_word, short_word}
use Rattle.job_sheet.proofs.Texts.{apart-made}
use Rattle.job_sheet.proofs.text.apart_line.Goals as goal

-- a word and a number more
more : (word : List ℕ) (x : ℕ) (s : List ℕ) {t : List ℕ} → x < 2 ^ 64 → t ≡ s ++ (word ++ spaced (x ∷ [])) → length t ≤ length s + length word + 21
more word x s h e = omega (arith, longer s _ _ e, length-append word (spaced (x ∷ [])), spaced-long x h)

pub put_labelled-requires-2 : goal.put_labelled-requires-2
put_labelled-requires-2 c =
    let a = more unknown_word c.args.unknown _ (search rules) c.put_labelled.ensures in omega (arith, ap length c.new-text.ensures)

pub put_labelled-requires-3 : goal.put_labelled-requires-3
put_labelled-requires-3 c =
    let a = more unknown_word c.args.unknown _ (search rules) c.put_labelled.ensures in
    let b = more mark_word c.args.mark _ (search rules) c.put_labelled-2.ensures in
    omega (arith, ap length c.new-text.ensures)

pub push_str-requires : goal.push_str-requires
push_str-requires c =
    let a = more unknown_word c.args.unknown _ (search rules) c.put_labelled.ensures in
    let b = more mark_word c.args.mark _ (search rules) c.put_labelled-2.ensures in
    let d = more short_word c.args.short _ (search rules) c.put_labelled-3.ensures in
    omega (arith, ap length c.new-text.ensures)

pub returns : goal.returns
returns c =
    apart-made c.args.unknown c.args.mark c.args.short c.new-text.ensures c.put_labelled.ensures c.put_labelled-2.ensures c.put_labelled-3.ensures c.push_str.ensures.bytes
