-- Two outcomes that the corrector's contract admits coincide: the answer and every byte.
--   block-told         two blocks with the same bits are one
--   within-unique      NO TWO CODEWORDS QUALIFY
--   outcomes-coincide  two outcomes that the contract admits for one input are one, and so is what they leave
--   corrected-told     two answers with one number and value are one
--   correct-coincide   so for the call
-- Assumes nothing.
use mathlib.Core.Path.{◌≡◌, refl, sym, ap, ap₂, ◌∙◌, subst}
use mathlib.Core.Bool.{Bool, true, false}
use mathlib.Core.List.{List, [], ◌∷◌}
use Prim.Native.Nat.{ℕ, zero, suc, ◌/◌, ◌%◌, ◌^◌, ◌<◌}
use native.Mathlib.Nat.{pow-suc, zero-lt-suc, div-lt_iff_lt-mul}
use native.Mathlib.Omega.{arith}
use lib.Arith.{lt-one}
use lib.Dec.{eqb}
use lib.ListN.{length, get_or}
use Rattle.std.specs.Prelude.{Result}
use Rattle.refusals.specs.Admitting.{told}
use Rattle.refusals.specs.declared.Refusal.{Refusal}
use Rattle.refusals.proofs.Told.{told-one}
use Rattle.field.specs.Field.{field_at}
use Rattle.field.proofs.Digits.{bit-cases}
use Rattle.corrector_code.specs.Digits.{bytes_number as number_of_bytes, digits}
use Rattle.corrector_code.proofs.Eleven.{gen11}
use Rattle.corrector_code.proofs.Numbers as codes
use Rattle.corrector.specs.Correcting.{distance, IsBlock, Within, Corrects}
use Rattle.corrector.specs.Correcting.Corrects.{no_block, no-strength, none-near, mended}
use Rattle.corrector.proofs.Bits.{bits_of, bits-digits, block-below}
use Rattle.corrector.proofs.Blocks.{last-small, long-bits, within-bits}

-- bytes
abbrev Bytes : List ℕ → Type 0
Bytes l = (k : ℕ) → get_or l k 0 < 256

half_lt : {x : ℕ} (n : ℕ) → x < 2 ^ suc n → x / 2 < 2 ^ n
half_lt {x} n h = (div-lt_iff_lt-mul (zero-lt-suc 1)).1 (subst (λ (t : ℕ). x < t) (pow-suc 2 n) h)

head_of : List Bool → Bool
head_of [] = false
head_of (b ∷ l) = b

tail_of : List Bool → List Bool
tail_of [] = []
tail_of (b ∷ l) = l

low_digit : (x y : ℕ) → eqb (x % 2) 1 ≡ eqb (y % 2) 1 → x % 2 ≡ y % 2
low_digit x y = bit-cases (λ d. eqb d 1 ≡ eqb (y % 2) 1 → d ≡ y % 2) (bit-cases (λ d. eqb 0 1 ≡ eqb d 1 → 0 ≡ d) (λ e. refl) (λ e. absurd (clash e)) y) (bit-cases (λ d. eqb 1 1 ≡ eqb d 1 → 1 ≡ d) (λ e. absurd (clash (sym e))) (λ e. refl) y) x
  where
    clash : false ≡ true → ⊥
    clash e = let z : ◌≡◌ {A = ℕ} 0 1 = cc in omega arith

-- a number is told by its digits
digits-told : (n x y : ℕ) → x < 2 ^ n → y < 2 ^ n → digits n x ≡ digits n y → x ≡ y
unfolding digits head_of tail_of
digits-told zero x y a b e = lt-one a ∙ sym (lt-one b)
digits-told (suc n) x y a b e =
    let h : x / 2 ≡ y / 2 = digits-told n (x / 2) (y / 2) (half_lt n a) (half_lt n b) (ap tail_of e) in
    let l : x % 2 ≡ y % 2 = low_digit x y (ap head_of e) in
    omega arith

-- bytes are told by their number
bytes-told : (l m : List ℕ) → length l ≡ length m → Bytes l → Bytes m → number_of_bytes l ≡ number_of_bytes m → l ≡ m
unfolding number_of_bytes
bytes-told [] [] e u v h = refl
bytes-told [] (y ∷ m) e u v h = absurd (omega arith)
bytes-told (x ∷ l) [] e u v h = absurd (omega arith)
bytes-told (x ∷ l) (y ∷ m) e u v h =
    let a = u 0 in
    let b = v 0 in
    let p : x ≡ y = omega arith in
    let q : number_of_bytes l ≡ number_of_bytes m = omega arith in
    ap₂ (λ c r. c ∷ r) p (bytes-told l m (omega arith) (λ k. u (suc k)) (λ k. v (suc k)) q)

-- the number of a block
block-number : {l : List ℕ} → IsBlock l → number_of_bytes l < 2 ^ 2047
block-number {l} b = block-below l b.long (last-small b) b.bytes

-- a block is told by its bits
pub block-told : (l m : List ℕ) → IsBlock l → IsBlock m → bits_of l ≡ bits_of m → l ≡ m
block-told l m a b e =
    bytes-told l m (a.long ∙ sym b.long) a.bytes b.bytes
    (digits-told 2047 (number_of_bytes l) (number_of_bytes m) (block-number a) (block-number b)
    (sym (bits-digits l a.bytes) ∙ e ∙ bits-digits m b.bytes))

-- NO TWO CODEWORDS QUALIFY
pub within-unique : {t : ℕ} {word u v : List ℕ} → Within t word u → Within t word v → u ≡ v
within-unique {t} {word} {u} {v} x y =
    block-told u v x.block y.block
    (codes.code-unique (field_at 11) gen11 t (bits_of word) (bits_of u) (bits_of v) (let l = long-bits word in omega arith)
    (within-bits x) (within-bits y))

-- TWO OUTCOMES COINCIDE
pub outcomes-coincide : {t : ℕ} {word : List ℕ} {o p : ℕ × List ℕ} {a b : List ℕ}
    → Corrects t word o a → Corrects t word p b → (o ≡ p) × (a ≡ b)
outcomes-coincide (no_block x) (no_block y) = (refl, refl)
outcomes-coincide (no_block x) (no-strength b y) = absurd (x b)
outcomes-coincide (no_block x) (none-near b s y) = absurd (x b)
outcomes-coincide (no_block x) (mended b s y) = absurd (x b)
outcomes-coincide (no-strength b x) (no_block y) = absurd (y b)
outcomes-coincide (no-strength b x) (no-strength c y) = (refl, refl)
outcomes-coincide (no-strength b x) (none-near c s y) = absurd (x s)
outcomes-coincide (no-strength b x) (mended c s y) = absurd (x s)
outcomes-coincide (none-near b s x) (no_block y) = absurd (y b)
outcomes-coincide (none-near b s x) (no-strength c y) = absurd (y s)
outcomes-coincide (none-near b s x) (none-near c r y) = (refl, refl)
outcomes-coincide (none-near b s x) (mended c r y) = absurd (x _ y)
outcomes-coincide (mended b s x) (no_block y) = absurd (y b)
outcomes-coincide (mended b s x) (no-strength c y) = absurd (y s)
outcomes-coincide (mended b s x) (none-near c r y) = absurd (y _ x)
outcomes-coincide {t} {word} (mended b s x) (mended c r y) =
    let e = within-unique x y in (ap (λ (v : List ℕ). (0, distance word v ∷ [])) e, e)

-- two answers with one number and value are one; the value is the number of flips
pub corrected-told : (r s : Result ℕ Refusal) → told (λ n. n ∷ []) r ≡ told (λ n. n ∷ []) s → r ≡ s
corrected-told = told-one (λ n. n ∷ []) (λ l. get_or l 0 0) (λ n. refl)

-- the answer and the lent word
pub correct-coincide : {t : ℕ} {word : List ℕ} (r s : Result ℕ Refusal) (a b : List ℕ)
    → Corrects t word (told (λ n. n ∷ []) r) a → Corrects t word (told (λ n. n ∷ []) s) b → (r ≡ s) × (a ≡ b)
correct-coincide r s a b x y = let h = outcomes-coincide x y in (corrected-told r s h.0, h.1)
