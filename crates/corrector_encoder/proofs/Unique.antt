-- EXACTLY ONE: two codewords of strength t whose bits agree from 11 t on are equal.
--   bit-at, bits-past      what stands at a place of the bits of a word, and behind them
--   difference-at          the bits where two words differ
--   codewords-agree        THE LAW, of blocks
--   encoding-unique        so no two words qualify
-- Assumes nothing.
use mathlib.Core.Path.{◌≡◌, refl, sym, ap, ap₂, ◌∙◌}
use mathlib.Core.Bool.{Bool, true, false}
use mathlib.Core.List.{List, [], ◌∷◌}
use Prim.Native.Nat.{ℕ, zero, suc, ◌*◌, ◌≤◌, ◌<◌}
use native.Mathlib.Nat.{zero-add}
use native.Mathlib.Decide.{dec_lt}
use native.Mathlib.Omega.{arith}
use lib.Dec.{eqb}
use lib.ListN.{get_or, get_or-eq_default}
use Rattle.algebra.specs.Field.{Ops, OnNumbers, power}
use Rattle.algebra.proofs.Crossing.{Elem, elem-equal, elems, low-power}
use Rattle.algebra.proofs.Crossing as G
use Rattle.field.specs.Field.{field_at}
use Rattle.field.proofs.Generator.{position-unique, power-order}
use Rattle.field.proofs.Instance.{on-numbers}
use Rattle.corrector_code.specs.Word.{differs, difference, places, Codeword, DistinctPowers}
use Rattle.corrector_code.specs.Eleven.{F11}
use Rattle.corrector_code.proofs.Eleven.{gen11}
use Rattle.corrector_code.proofs.Carry.{Carries}
use Rattle.corrector_code.proofs.Carry as C
use Rattle.corrector_code.proofs.Complete.{map-up_from-at}
use Rattle.corrector_code.proofs.Words.{differ-nowhere}
use Rattle.corrector_code.proofs.Words as X
use Rattle.corrector.specs.Correcting.{bit_at, IsBlock, IsStrength, IsCodeword}
use Rattle.corrector.proofs.Bits.{bits_of}
use Rattle.corrector.proofs.Blocks.{long-bits, value-bits}
use Rattle.corrector.proofs.Coincide.{block-told}
use Rattle.corrector_encoder.specs.Encoding.{Encoding}
use Rattle.corrector_encoder.proofs.Cosets.{short-zero}

-- what stands at a place of the bits
pub bit-at : (word : List ℕ) (j : ℕ) → j < 2047 → get_or (bits_of word) j false ≡ eqb (bit_at word j) 1
unfolding bits_of
bit-at word j h =
    map-up_from-at false (λ j. eqb (bit_at word j) 1) 0 2047 j h ∙ ap (λ (i : ℕ). eqb (bit_at word i) 1) (zero-add j)

-- and behind them
pub bits-past : (word : List ℕ) (j : ℕ) → 2047 ≤ j → get_or (bits_of word) j false ≡ false
bits-past word j h = get_or-eq_default (bits_of word) false (let l = long-bits word in omega arith)

-- the bits where two words differ
difference-at : (w v : List Bool) (j : ℕ) → get_or (difference w v) j false ≡ differs (get_or w j false) (get_or v j false)
unfolding difference
difference-at [] v j = refl
difference-at (true ∷ w) [] zero = refl
difference-at (false ∷ w) [] zero = refl
difference-at (b ∷ w) [] (suc j) = alone (get_or w j false)
  where
    alone : (b : Bool) → b ≡ differs b false
    alone true = refl
    alone false = refl
difference-at (b ∷ w) (c ∷ v) zero = refl
difference-at (b ∷ w) (c ∷ v) (suc j) = difference-at w v j

same_bits : (b c : Bool) → b ≡ c → differs b c ≡ false
same_bits true c e = ap (differs true) (sym e)
same_bits false c e = sym e

-- no place has bit 1
none-set : (k : ℕ) (w : List Bool) → ((j : ℕ) → get_or w j false ≡ false) → places k w ≡ []
unfolding places
none-set k [] h = refl
none-set k (true ∷ w) h =
    absurd (let z : ◌≡◌ {A = Bool} true false = h 0 in let y : ◌≡◌ {A = ℕ} 0 1 = cc in omega arith)
none-set k (false ∷ w) h = none-set (suc k) w (λ j. h (suc j))

-- ---- field 11 by its elements

N : OnNumbers F11 2048
N = on-numbers (field_at 11) gen11

abbrev elements : Ops (Elem 2048)
elements = elems N

abbrev two : Elem 2048
two = (2, gen11.two)

down : Carries elements F11 (λ x. x.0)
down = record { zero = refl; one = refl; add = λ x y. refl; mul = λ x y. refl; inv = λ x. refl; is_zero = λ x. refl }

apart : DistinctPowers elements two 2047
apart = record {
  nonzero = λ e. let z : ◌≡◌ {A = ℕ} 2 0 = ap (λ (x : Elem 2048). x.0) e in omega arith;
  apart =
      λ i j a b e. position-unique (field_at 11) gen11 i j a b (sym (low-power N two i) ∙ ap (λ (x : Elem 2048). x.0) e ∙ low-power N two j);
}

full : power elements two 2047 ≡ elements.one
full = elem-equal (low-power N two 2047 ∙ power-order (field_at 11) gen11)

codeword-up : (t : ℕ) (word : List ℕ) → IsCodeword t word → Codeword elements two t (bits_of word)
codeword-up t word c i p q =
    elem-equal (C.value-pow down (bits_of word) two i ∙ sym (value-bits word (power F11 2 i)) ∙ c i p q)

-- TWO CODEWORDS THAT AGREE FROM BIT 11 t ON ARE EQUAL
pub codewords-agree : {t : ℕ} {u v : List ℕ} → t ≤ 8 → IsBlock u → IsBlock v → IsCodeword t u → IsCodeword t v
    → ((j : ℕ) → 11 * t ≤ j → j < 2047 → bit_at u j ≡ bit_at v j) → u ≡ v
codewords-agree {t} {u} {v} h bu bv cu cv same =
    block-told u v bu bv
    (differ-nowhere 0 (bits_of u) (bits_of v) (long-bits u ∙ sym (long-bits v))
    (none-set 0 (difference (bits_of u) (bits_of v))
    (short-zero (G.laws N) two apart full (difference (bits_of u) (bits_of v)) t h both high)))
  where
    both : Codeword elements two t (difference (bits_of u) (bits_of v))
    both i p q =
        X.value-difference (G.laws N) (bits_of u) (bits_of v) (power elements two i)
        ∙ ap₂ elements.add (codeword-up t u cu i p q) (codeword-up t v cv i p q)
        ∙ (G.laws N).zero-add elements.zero

    high : (j : ℕ) → 11 * t ≤ j → get_or (difference (bits_of u) (bits_of v)) j false ≡ false
    high j l =
        difference-at (bits_of u) (bits_of v) j
        ∙ same_bits (get_or (bits_of u) j false) (get_or (bits_of v) j false) (go (dec_lt j 2047))
      where
        go : Dec (j < 2047) → get_or (bits_of u) j false ≡ get_or (bits_of v) j false
        go (yes q) = bit-at u j q ∙ ap (λ (x : ℕ). eqb x 1) (same j l q) ∙ sym (bit-at v j q)
        go (no q) = bits-past u j (omega arith) ∙ sym (bits-past v j (omega arith))

-- NO TWO WORDS QUALIFY
pub encoding-unique : {t : ℕ} {word u v : List ℕ} → IsStrength t → Encoding t word u → Encoding t word v → u ≡ v
encoding-unique s x y =
    codewords-agree s.most x.block y.block x.codeword y.codeword (λ j h l. x.kept j h l ∙ sym (y.kept j h l))
