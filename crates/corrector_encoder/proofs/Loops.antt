-- The loop of the encoder: what each turn leaves is what lies ahead; and bytes added to the front of a word.
--   adding-start, adding-turn, adding-end   the bytes of a number added one by one
--   added-front                             those added to the front of a word are added to the word
-- Assumes nothing.
use mathlib.Core.Path.{◌≡◌, refl, sym, ap, ◌∙◌}
use mathlib.Core.List.{List, ◌++◌}
use Prim.Native.Nat.{ℕ, zero, suc, ◌+◌, ◌-◌, ◌/◌, ◌%◌, ◌≤◌, ◌<◌}
use native.Mathlib.Omega.{arith}
use lib.Bits.{bit_xor}
use lib.ListN.{length, get_or, set, take, drop, length-set, get_or-append, take-append-drop}
use lib.Seq.{length-take-le}
use Rattle.std.proofs.lemmas.List.{set-append_left}
use Rattle.corrector_encoder.specs.Bytes.{add_bytes}

-- ---- the bytes of a number, one by one

pub record Adding (w₀ : List ℕ) (x : ℕ) (w : List ℕ) (y i : ℕ) : Type 0 where
  pub ahead : add_bytes (length w₀ - i) i y w ≡ add_bytes (length w₀) 0 x w₀

pub adding-start : (w : List ℕ) (x : ℕ) → Adding w x w x 0
adding-start w x = record { ahead = ap (λ (m : ℕ). add_bytes m 0 x w) (let e : length w - 0 ≡ length w = omega arith in e) }

pub adding-turn : {w₀ : List ℕ} {x : ℕ} {w : List ℕ} {y i : ℕ} → Adding w₀ x w y i → i < length w₀
    → Adding w₀ x (set w i (bit_xor (get_or w i 0) (y % 256))) (y / 256) (i + 1)
unfolding add_bytes
adding-turn {w₀} {x} {w} {y} {i} a h =
    let n : ℕ = length w₀ in
    let more : n - i ≡ suc (n - (i + 1)) = omega arith in
    let next : suc i ≡ i + 1 = omega arith in
    record {
      ahead = ap (λ (k : ℕ). add_bytes (n - (i + 1)) k (y / 256) (set w i (bit_xor (get_or w i 0) (y % 256)))) (sym next)
          ∙ ap (λ (m : ℕ). add_bytes m i y w) (sym more) ∙ a.ahead;
    }

pub adding-end : {w₀ : List ℕ} {x : ℕ} {w : List ℕ} {y i : ℕ} → Adding w₀ x w y i → length w₀ ≤ i
    → w ≡ add_bytes (length w₀) 0 x w₀
unfolding add_bytes
adding-end {w₀} {x} {w} {y} {i} a h =
    let z : 0 ≡ length w₀ - i = omega arith in ap (λ (m : ℕ). add_bytes m i y w) z ∙ a.ahead

-- ---- the front of a word

-- in front of what follows
before : (n q x : ℕ) (u v : List ℕ) → q + n ≤ length u → add_bytes n q x (u ++ v) ≡ add_bytes n q x u ++ v
unfolding add_bytes
before zero q x u v h = refl
before (suc n) q x u v h =
    let w : List ℕ = set u q (bit_xor (get_or u q 0) (x % 256)) in
    let l : length w ≡ length u = length-set u q (bit_xor (get_or u q 0) (x % 256)) in
    ap (add_bytes n (suc q) (x / 256))
    (ap (λ (b : ℕ). set (u ++ v) q (bit_xor b (x % 256))) (get_or-append u v 0 q (omega arith))
    ∙ set-append_left u v q (bit_xor (get_or u q 0) (x % 256)) (omega arith))
    ∙ before n (suc q) (x / 256) w v (omega arith)

-- BYTES ADDED TO THE FRONT OF A WORD
pub added-front : (n x : ℕ) (w : List ℕ) {v : List ℕ} → n ≤ length w → v ≡ add_bytes (length (take n w)) 0 x (take n w)
    → v ++ drop n w ≡ add_bytes n 0 x w
added-front n x w {v} h e =
    let l : length (take n w) ≡ n = length-take-le n w h in
    ap (λ (u : List ℕ). u ++ drop n w) (e ∙ ap (λ (m : ℕ). add_bytes m 0 x (take n w)) l)
    ∙ sym (before n 0 x (take n w) (drop n w) (omega arith))
    ∙ ap (add_bytes n 0 x) (take-append-drop n w)
