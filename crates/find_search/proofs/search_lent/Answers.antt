-- `find_search::search_lent` meets its contract: the elements of the blocks so far were tried.
-- Assumes nothing.
use mathlib.Core.Path.{◌≡◌, refl}
use mathlib.Core.List.{List}
use Prim.Native.Nat.{ℕ, ◌+◌, ◌*◌, ◌≤◌, ◌<◌, ◌^◌}
use native.Mathlib.Omega.{arith}
use lib.ListN.{length}
use Rattle.field.specs.Field.{roots_at}
use Rattle.find_search.specs.Searching.{Tried}
use Rattle.find_search.proofs.Trying.{tried-note, note-room, tried-next, tried-again, tried-end, searched-over, sizes}
use Rattle.find_search.proofs.Admitting.{roots-room}
use Rattle.find_search.proofs.search_lent.Goals as goal

-- the list is as long as it was
roomy : {m : ℕ} {f roots r : List ℕ} {x k : ℕ} → Tried m f roots x k r → length (roots_at m f) ≤ length roots → length (roots_at m f) ≤ length r
roomy h l = let e = h.long in omega arith

pub overflow_cast-size : goal.overflow_cast-size
overflow_cast-size c = let z = sizes c.args.tables.now.lent in let e = c.args.tables.now.lent.logs.entries in omega arith

pub try_first-k-requires : goal.try_first-k-requires
try_first-k-requires c = c.requires

pub loop-block-init : goal.loop-block-init
loop-block-init c = tried-again c.try_first-k.ensures

pub overflow_mul-x : goal.overflow_mul-x
overflow_mul-x c = let z = sizes c.args.tables.now.lent in let w = c.loop-block.invariant.within in omega arith

pub overflow_add-x : goal.overflow_add-x
overflow_add-x c = let z = sizes c.args.tables.now.lent in let w = c.loop-block.invariant.within in omega arith

pub overflow_add-x-in-loop-block : goal.overflow_add-x-in-loop-block
overflow_add-x-in-loop-block c = let z = sizes c.args.tables.now.lent in let w = c.loop-block.invariant.within in omega arith

pub overflow_add-x-in-loop-block-2 : goal.overflow_add-x-in-loop-block-2
overflow_add-x-in-loop-block-2 c = let z = sizes c.args.tables.now.lent in let w = c.loop-block.invariant.within in omega arith

pub evaluate_four-v-requires : goal.evaluate_four-v-requires
evaluate_four-v-requires c =
    let z = sizes c.args.tables.now.lent in
    let e = c.args.tables.now.lent.logs.entries in
    (c.requires.0.small, omega arith, omega arith)

pub note-k-requires : goal.note-k-requires
note-k-requires c =
    let z = sizes c.args.tables.now.lent in
    let e = c.args.tables.now.lent.logs.entries in
    let x = c.loop-block.block * 4 in
    let l : x + 3 < 2 ^ c.args.tables.now.degree = omega arith in
    let v = c.evaluate_four-v.ensures in
    let t0 = c.loop-block.invariant in
    let h = t0.fewer in let w = t0.within in
    (note-room t0 (omega arith) v.first (roomy c.try_first-k.ensures (roots-room c.requires.0 c.requires.1)), omega arith)

pub note-k-requires-in-loop-block : goal.note-k-requires-in-loop-block
note-k-requires-in-loop-block c =
    let z = sizes c.args.tables.now.lent in
    let e = c.args.tables.now.lent.logs.entries in
    let x = c.loop-block.block * 4 in
    let l : x + 3 < 2 ^ c.args.tables.now.degree = omega arith in
    let v = c.evaluate_four-v.ensures in
    let t0 = c.loop-block.invariant in
    let t1 = tried-next (tried-note t0 (omega arith) v.first (roomy c.try_first-k.ensures (roots-room c.requires.0 c.requires.1)) c.note-k.ensures) (let y : x + 1 ≡ x + 1 = refl in y) in
    let h = t1.fewer in let w = t1.within in
    (note-room t1 (omega arith) v.second (roomy c.try_first-k.ensures (roots-room c.requires.0 c.requires.1)), omega arith)

pub note-k-requires-in-loop-block-2 : goal.note-k-requires-in-loop-block-2
note-k-requires-in-loop-block-2 c =
    let z = sizes c.args.tables.now.lent in
    let e = c.args.tables.now.lent.logs.entries in
    let x = c.loop-block.block * 4 in
    let l : x + 3 < 2 ^ c.args.tables.now.degree = omega arith in
    let v = c.evaluate_four-v.ensures in
    let t0 = c.loop-block.invariant in
    let t1 = tried-next (tried-note t0 (omega arith) v.first (roomy c.try_first-k.ensures (roots-room c.requires.0 c.requires.1)) c.note-k.ensures) (let y : x + 1 ≡ x + 1 = refl in y) in
    let t2 = tried-next (tried-note t1 (omega arith) v.second (roomy c.try_first-k.ensures (roots-room c.requires.0 c.requires.1)) c.note-k-in-loop-block.ensures) (let y : x + 2 ≡ x + 1 + 1 = omega arith in y) in
    let h = t2.fewer in let w = t2.within in
    (note-room t2 (omega arith) v.third (roomy c.try_first-k.ensures (roots-room c.requires.0 c.requires.1)), omega arith)

pub note-k-requires-in-loop-block-3 : goal.note-k-requires-in-loop-block-3
note-k-requires-in-loop-block-3 c =
    let z = sizes c.args.tables.now.lent in
    let e = c.args.tables.now.lent.logs.entries in
    let x = c.loop-block.block * 4 in
    let l : x + 3 < 2 ^ c.args.tables.now.degree = omega arith in
    let v = c.evaluate_four-v.ensures in
    let t0 = c.loop-block.invariant in
    let t1 = tried-next (tried-note t0 (omega arith) v.first (roomy c.try_first-k.ensures (roots-room c.requires.0 c.requires.1)) c.note-k.ensures) (let y : x + 1 ≡ x + 1 = refl in y) in
    let t2 = tried-next (tried-note t1 (omega arith) v.second (roomy c.try_first-k.ensures (roots-room c.requires.0 c.requires.1)) c.note-k-in-loop-block.ensures) (let y : x + 2 ≡ x + 1 + 1 = omega arith in y) in
    let t3 = tried-next (tried-note t2 (omega arith) v.third (roomy c.try_first-k.ensures (roots-room c.requires.0 c.requires.1)) c.note-k-in-loop-block-2.ensures) (let y : x + 3 ≡ x + 2 + 1 = omega arith in y) in
    let h = t3.fewer in let w = t3.within in
    (note-room t3 (omega arith) v.fourth (roomy c.try_first-k.ensures (roots-room c.requires.0 c.requires.1)), omega arith)

pub loop-block-preserved : goal.loop-block-preserved
loop-block-preserved c =
    let z = sizes c.args.tables.now.lent in
    let e = c.args.tables.now.lent.logs.entries in
    let x = c.loop-block.block * 4 in
    let l : x + 3 < 2 ^ c.args.tables.now.degree = omega arith in
    let v = c.evaluate_four-v.ensures in
    let t0 = c.loop-block.invariant in
    let t1 = tried-next (tried-note t0 (omega arith) v.first (roomy c.try_first-k.ensures (roots-room c.requires.0 c.requires.1)) c.note-k.ensures) (let y : x + 1 ≡ x + 1 = refl in y) in
    let t2 = tried-next (tried-note t1 (omega arith) v.second (roomy c.try_first-k.ensures (roots-room c.requires.0 c.requires.1)) c.note-k-in-loop-block.ensures) (let y : x + 2 ≡ x + 1 + 1 = omega arith in y) in
    let t3 = tried-next (tried-note t2 (omega arith) v.third (roomy c.try_first-k.ensures (roots-room c.requires.0 c.requires.1)) c.note-k-in-loop-block-2.ensures) (let y : x + 3 ≡ x + 2 + 1 = omega arith in y) in
    tried-next (tried-note t3 (omega arith) v.fourth (roomy c.try_first-k.ensures (roots-room c.requires.0 c.requires.1)) c.note-k-in-loop-block-3.ensures) (omega arith)

pub returns : goal.returns
returns c =
    let z = sizes c.args.tables.now.lent in
    let e = c.args.tables.now.lent.logs.entries in
    searched-over c.try_first-k.ensures (tried-end c.loop-block.invariant (omega arith))
