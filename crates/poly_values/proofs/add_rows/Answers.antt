-- `poly_values::add_rows` meets its contract: the rows of the digits from 2 pair up are added.
-- Assumes nothing.
use mathlib.Core.Path.{◌≡◌, refl, sym, ap, ap₂, ◌∙◌}
use mathlib.Core.List.{List, ◌++◌, map}
use native.Mathlib.Omega.{arith}
use native.Mathlib.Numerals.{add-one}
use Prim.Native.Nat.{ℕ, suc, ◌+◌, ◌*◌, ◌-◌, ◌<◌}
use lib.Bits.{bit_and}
use lib.ListN.{get_or, length, take, drop, replicate, length-drop}
use Rattle.poly_values.specs.Planes.{sum, pair_words, carry_free_words, words_at}
use Rattle.poly_values.proofs.Tail.{lent-tail, back}
use Rattle.poly_values.proofs.Products.{rows-from, rows-turn, rows-pair, vector-word-at, padded-middle}
use borrow.Author.Rules.{rules}
use Rattle.poly_values.proofs.add_rows.Goals as goal

pub slice_bounds-add_masked-count : goal.slice_bounds-add_masked-count
slice_bounds-add_masked-count c = omega (arith, ap length c.requires.0)

pub slice_bounds-add_masked-start : goal.slice_bounds-add_masked-start
slice_bounds-add_masked-start c = omega (arith, ap length c.requires.0)

pub slice_bounds-add_masked-end : goal.slice_bounds-add_masked-end
slice_bounds-add_masked-end c = let h = ap length c.requires.0 in search rules

pub add_masked-requires : goal.add_masked-requires
add_masked-requires c = let t = c.args.t.now in rw (lent-tail t 10, length-drop 10 t) (omega (arith, ap length c.requires.0))

pub loop-pair-init : goal.loop-pair-init
loop-pair-init c = let s = c in
    let b = s.args.b in
    let t = s.args.t.now in
    let W = words_at 11 s.args.e.now 0 in
    let last : 10 < 11 = omega arith in
    let m = padded-middle b c.between_zeros-c.result (omega arith) c.between_zeros-c.ensures in (
      let long : length t ≡ 22 = ap length s.requires.0 in search rules,
      back t c.add_masked.new.t 10
          ∙ rows-turn W b {j = 10} refl last (s.requires.0 ∙ rows-from W b refl (omega arith))
          (c.add_masked.ensures ∙ ap (λ (y : List ℕ). sum (map (bit_and (get_or s.args.e.now 10 0)) b) y) (lent-tail t 10))
          ∙ ap (λ (x : List ℕ). replicate 10 0 ++ carry_free_words (drop 10 W) x) (sym m.1),
    )

pub add_pair-requires : goal.add_pair-requires
add_pair-requires c = let l = c.loop-pair in rw (lent-tail l.t (2 * (l.pair - 1)), length-drop (2 * (l.pair - 1)) l.t) (omega (arith, l.invariant.0))

pub loop-pair-preserved : goal.loop-pair-preserved
loop-pair-preserved c = let s = c in
    let l = c.loop-pair in
    let j = 2 * (l.pair - 1) in
    let e = s.args.e.now in
    let W = words_at 11 e 0 in
    let p = c.between_zeros-c.result in
    let m = padded-middle s.args.b p (omega arith) c.between_zeros-c.ensures in
    let two : 2 * l.pair ≡ suc (suc j) = omega arith in
    let long : length s.args.b ≡ 11 = omega arith in
    let small : suc j < 11 = omega arith in (
      let kept = l.invariant.0 in search rules,
      back l.t c.add_pair.new.t j
          ∙ rows-pair W (take 11 (drop 1 p)) two small (ap length m.1 ∙ long) m.0 l.invariant.1
          (c.add_pair.ensures ∙ ap (λ (y : List ℕ). sum (pair_words 12 (get_or e j 0) (get_or e (j + 1) 0) p) y) (lent-tail l.t j)
          ∙ ap₂ (λ (u v : ℕ). sum (pair_words 12 u v p) (drop j l.t)) (sym (vector-word-at 11 e j (omega arith))) (ap (λ (k : ℕ). get_or e k 0) (add-one j) ∙ sym (vector-word-at 11 e (suc j) small))),
    )

pub returns : goal.returns
returns c = let s = c in
    let l = c.loop-pair in
    let W = words_at 11 s.args.e.now 0 in
    let m = padded-middle s.args.b c.between_zeros-c.result (omega arith) c.between_zeros-c.ensures in
    let done : 2 * l.pair ≡ 0 = omega arith in
    l.invariant.1 ∙ ap (λ (n : ℕ). replicate n 0 ++ carry_free_words (drop n W) (take 11 (drop 1 c.between_zeros-c.result))) done ∙ ap (carry_free_words W) m.1
