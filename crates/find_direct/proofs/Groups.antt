-- The groups of a list of roots, told by their trace words, and the steps that they take.
--   word_lt        a trace word has 11 digits;  word-bit  digit 10 - i is the trace bit at level i
--   zeros-under, ones-under   the digit at place k parts a group in two;  under-parts  they are as many together
--   under_all      from place 11 on all roots agree
--   shares-not, shares-so   an element that is not in a group, and one that is
--   Sharing        those counted up to i are as many as are not ahead;  sharing-from, sharing-on, sharing-end  so to
--                  the end
--   none-under, some-under    a group of at most c takes no step; one of more takes one, and those of its parts
--   steps-lt       steps are few
--   Counted        a group that is counted: counted-least, counted_none  what takes no step; counted-few  counts fit;
--                  counted-low, counted-high  its parts are counted;  counted-some  its steps are theirs and one
--   steps-none     no more roots than the cutoff take none
--   STEPS-ARE      they are as many as demand 3 counts
-- Assumes nothing.
use mathlib.Core.Path.{◌≡◌, refl, sym, ap, ap₂, ◌∙◌, subst}
use mathlib.Core.Bool.{Bool, not, ◌&&◌}
use mathlib.Core.List.{List, [], ◌∷◌}
use Prim.Native.Nat.{ℕ, zero, suc, ◌+◌, ◌-◌, ◌*◌, ◌/◌, ◌%◌, ◌^◌, ◌≤◌, ◌<◌}
use native.Mathlib.Decide.{ℕ_discrete, dec_lt}
use native.Mathlib.Nat.{lt_of_lt_of_le, zero-add, add-zero, mod-lt, zero-lt-suc, div-div-eq-div-mul, pow-suc, div-eq_of_lt}
use native.Mathlib.Numerals.{add-one}
use native.Mathlib.Omega.{arith}
use borrow.Author.Tests.{eq-eqb, ne_eqb, le-ltb, lt-ltb}
use lib.Bits.{bit_xor, xor_shr, xor_mod, xor_block}
use lib.Dec.{T, eqb, eqb→eq}
use lib.Pow.{pow_mono}
use lib.ListN.{length, get_or, drop, drop_of_length-le, length-append}
use lib.Seq.{drop-cons}
use Rattle.algebra.specs.Field.{power, trace}
use Rattle.algebra.specs.Polynomial.{Below}
use Rattle.algebra.specs.Trial.{keep, All}
use Rattle.algebra.proofs.StaysBelow.{keep-below}
use Rattle.algebra.proofs.Trial.{keep_same, all_map, length-keep}
use Rattle.field.specs.Field.{field_at, numbers, mul, Tr}
use Rattle.field.specs.Rows.{poly_in}
use Rattle.field.proofs.Additive.{Additive, additive-agree}
use Rattle.field.proofs.Digits.{bit-cases}
use Rattle.field.proofs.Ring.{mul-xor-r}
use Rattle.field.proofs.Table.{every_from, every_from-at}
use Rattle.field.proofs.Trace.{trace-xor}
use Rattle.field.proofs.Xor.{xor-half, xor-double, xor-swap}
use Rattle.field_constants.proofs.Field11.{gen11}
use Rattle.table_rules.specs.Demand.{step_count}
use Rattle.table_rules.specs.Splitting.{trace_bit_at}
use Rattle.table_rules.proofs.Counting.{left, count_left, left-none, left-large}
use Rattle.table_rules.proofs.Lists.{keep_all, keep_append, keep-keep, keep-both}
use Rattle.find_direct.specs.Steps.{trace_word, under, steps_under, Counted}

-- ---- trace words

word_lt : (x : ℕ) → trace_word x < 2048
unfolding trace_word
word_lt x = mod-lt _ (zero-lt-suc 2047)

-- the sum of two additive maps is additive
both-xor : (f g : ℕ → ℕ) → Additive f → Additive g → Additive (λ x. bit_xor (f x) (g x))
both-xor f g a b x y = ap₂ bit_xor (a x y) (b x y) ∙ xor-swap (f x) (f y) (g x) (g y)

ten-up : Additive (λ d. d * 1024)
ten-up a b =
    sym (ap₂ bit_xor (sym (add-zero (a * 1024))) (sym (add-zero (b * 1024)))
    ∙ xor_block 10 a b 0 0 (zero-lt-suc 1023) (zero-lt-suc 1023) ∙ add-zero (bit_xor a b * 1024))

-- digit 0, at place 10
top_xor : Additive (λ x. x % 2 * 1024)
top_xor x y = ap (λ (d : ℕ). d * 1024) (xor_mod x y 1) ∙ ten-up (x % 2) (y % 2)

low-xor : Additive (λ x. x % 1024 * 2)
low-xor x y = ap (λ (d : ℕ). d * 2) (xor_mod x y 10) ∙ sym (xor-double (x % 1024) (y % 1024))

-- before it is cut to 11 digits
abbrev shifts : ℕ → ℕ
shifts x = bit_xor (bit_xor (bit_xor (x / 2) (x % 1024 * 2)) (x / 256)) (x % 2 * 1024)

shifts-xor : Additive shifts
shifts-xor =
    both-xor (λ x. bit_xor (bit_xor (x / 2) (x % 1024 * 2)) (x / 256)) (λ x. x % 2 * 1024)
    (both-xor (λ x. bit_xor (x / 2) (x % 1024 * 2)) (λ x. x / 256) (both-xor (λ x. x / 2) (λ x. x % 1024 * 2) xor-half low-xor) (λ x y. xor_shr x y 8)) top_xor

word-xor : Additive trace_word
unfolding trace_word
word-xor x y = ap (λ (w : ℕ). w % 2048) (shifts-xor x y) ∙ xor_mod (shifts x) (shifts y) 11

-- the digit at a place
abbrev digit : ℕ → ℕ → ℕ
digit k x = trace_word x / 2 ^ k % 2

digit-xor : (k : ℕ) → Additive (digit k)
digit-xor k x y =
    ap (λ (w : ℕ). w / 2 ^ k % 2) (word-xor x y) ∙ ap (λ (w : ℕ). w % 2) (xor_shr (trace_word x) (trace_word y) k)
    ∙ xor_mod (trace_word x / 2 ^ k) (trace_word y / 2 ^ k) 1

-- the trace at a level
abbrev traced : ℕ → ℕ → ℕ
traced i x = Tr (field_at 11) (mul (field_at 11) (power (numbers (field_at 11)) 2 i) x)

traced-xor : (i : ℕ) → Additive (traced i)
traced-xor i x y =
    ap (Tr (field_at 11)) (mul-xor-r (field_at 11) gen11.monic (power (numbers (field_at 11)) 2 i) x y) ∙ trace-xor (field_at 11) gen11 _ _

-- one test: they agree at 1, 2, 4, .. at each level
twos : List ℕ
twos = 1 ∷ 2 ∷ 4 ∷ 8 ∷ 16 ∷ 32 ∷ 64 ∷ 128 ∷ 256 ∷ 512 ∷ 1024 ∷ []

abbrev agree_at : ℕ → ℕ → Bool
agree_at i _ = every_from (λ j x. eqb (traced i x) (digit (10 - i) x)) 0 twos

tested : T (every_from agree_at 0 twos)
unfolding twos trace_word trace mul power poly_in
tested = tt

-- so the trace at a level is a digit of the word
traced-is : (i x : ℕ) → i < 11 → x < 2048 → traced i x ≡ digit (10 - i) x
unfolding twos
traced-is i x h l =
    additive-agree 11 (traced i) (digit (10 - i)) (traced-xor i) (digit-xor (10 - i)) (λ j hj.
    subst (λ (y : ℕ). traced i y ≡ digit (10 - i) y) (two_at j hj)
    (eqb→eq (traced i (get_or twos j 0)) (digit (10 - i) (get_or twos j 0))
    (every_from-at (λ j x. eqb (traced i x) (digit (10 - i) x)) twos (every_from-at agree_at twos tested i h) j hj))) x l
  where
    two_at : (j : ℕ) → j < 11 → get_or twos j 0 ≡ 2 ^ j
    two_at j hj = eqb→eq (get_or twos j 0) (2 ^ j) (every_from-at (λ j x. eqb x (2 ^ j)) twos tt j hj)

-- is the digit at a place 1?
abbrev digit_bit : ℕ → ℕ → Bool
digit_bit k x = eqb (digit k x) 1

pub word-bit : (i x : ℕ) → i < 11 → x < 2048 → trace_bit_at 11 i x ≡ digit_bit (10 - i) x
word-bit i x h l =
    ap (λ (t : ℕ). not (eqb t 0)) (traced-is i x h l)
    ∙ bit-cases (λ (d : ℕ). not (eqb d 0) ≡ eqb d 1) refl refl (trace_word x / 2 ^ (10 - i))

-- ---- groups

-- a number by its half and its last digit
by-half : (v p : ℕ) → (eqb (v / 2) p && not (eqb (v % 2) 1)) ≡ eqb v (p * 2)
by-half v p = go (ℕ_discrete (v / 2) p) (ℕ_discrete (v % 2) 1)
  where
    go : Dec (v / 2 ≡ p) → Dec (v % 2 ≡ 1) → (eqb (v / 2) p && not (eqb (v % 2) 1)) ≡ eqb v (p * 2)
    go (no a) _ = rw (ne_eqb (v / 2) p a, ne_eqb v (p * 2) (λ e. a (omega arith)))
    go (yes a) (yes b) = rw (eq-eqb (v / 2) p a, eq-eqb (v % 2) 1 b, ne_eqb v (p * 2) (λ e. let z : ⊥ = omega arith in z))
    go (yes a) (no b) = rw (eq-eqb (v / 2) p a, ne_eqb (v % 2) 1 b, eq-eqb v (p * 2) (omega arith))

by-half-odd : (v p : ℕ) → (eqb (v / 2) p && eqb (v % 2) 1) ≡ eqb v (p * 2 + 1)
by-half-odd v p = go (ℕ_discrete (v / 2) p) (ℕ_discrete (v % 2) 1)
  where
    go : Dec (v / 2 ≡ p) → Dec (v % 2 ≡ 1) → (eqb (v / 2) p && eqb (v % 2) 1) ≡ eqb v (p * 2 + 1)
    go (no a) _ = rw (ne_eqb (v / 2) p a, ne_eqb v (p * 2 + 1) (λ e. a (omega arith)))
    go (yes a) (yes b) = rw (eq-eqb (v / 2) p a, eq-eqb (v % 2) 1 b, eq-eqb v (p * 2 + 1) (omega arith))
    go (yes a) (no b) = rw (eq-eqb (v / 2) p a, ne_eqb (v % 2) 1 b, ne_eqb v (p * 2 + 1) (λ e. let z : ⊥ = omega arith in z))

-- what lies above place k + 1 is the half of what lies above place k
above : (w k : ℕ) → w / 2 ^ suc k ≡ w / 2 ^ k / 2
above w k = ap (λ (n : ℕ). w / n) (pow-suc 2 k) ∙ sym (div-div-eq-div-mul w (2 ^ k) 2)

module _ (k p : ℕ) (rs : List ℕ) where
  every : {t u : ℕ → Bool} → ((x : ℕ) → t x ≡ u x) → keep t rs ≡ keep u rs
  every {t} {u} e = keep_same t u rs (go rs)
    where
      go : (l : List ℕ) → All (λ x. t x ≡ u x) l
      go [] = tt
      go (x ∷ l) = (e x, go l)

  zeros-under : keep (λ x. not (digit_bit k x)) (under (suc k) p rs) ≡ under k (p * 2) rs
  zeros-under =
      keep-keep (λ x. not (digit_bit k x)) (λ x. eqb (trace_word x / 2 ^ suc k) p) rs
      ∙ every (λ x. ap (λ (v : ℕ). eqb v p && not (digit_bit k x)) (above (trace_word x) k) ∙ by-half (trace_word x / 2 ^ k) p)

  ones-under : keep (digit_bit k) (under (suc k) p rs) ≡ under k (p * 2 + 1) rs
  ones-under =
      keep-keep (digit_bit k) (λ x. eqb (trace_word x / 2 ^ suc k) p) rs
      ∙ every (λ x. ap (λ (v : ℕ). eqb v p && digit_bit k x) (above (trace_word x) k) ∙ by-half-odd (trace_word x / 2 ^ k) p)

  -- they are as many together
  under-parts : length (under (suc k) p rs) ≡ length (under k (p * 2) rs) + length (under k (p * 2 + 1) rs)
  under-parts = sym (keep-both (digit_bit k) (under (suc k) p rs)) ∙ ap₂ ◌+◌ (ap length zeros-under) (ap length ones-under)

  -- the level whose trace bit stands at place k
  module _ (small : Below 2048 rs) (h : suc k ≤ 11) where
    at_level : (x : ℕ) → x < 2048 → trace_bit_at 11 (11 - suc k) x ≡ digit_bit k x
    at_level x l = word-bit (11 - suc k) x (omega arith) l ∙ ap (λ (i : ℕ). digit_bit i x) (let e : 10 - (11 - suc k) ≡ k = omega arith in e)

    inside : Below 2048 (under (suc k) p rs)
    inside = keep-below 2048 (λ x. eqb (trace_word x / 2 ^ suc k) p) rs small

    low_half : keep (λ x. not (trace_bit_at 11 (11 - suc k) x)) (under (suc k) p rs) ≡ under k (p * 2) rs
    low_half =
        keep_same (λ x. not (trace_bit_at 11 (11 - suc k) x)) (λ x. not (digit_bit k x)) (under (suc k) p rs)
        (all_map (λ x l. ap not (at_level x l)) (under (suc k) p rs) inside) ∙ zeros-under

    high_half : keep (trace_bit_at 11 (11 - suc k)) (under (suc k) p rs) ≡ under k (p * 2 + 1) rs
    high_half =
        keep_same (trace_bit_at 11 (11 - suc k)) (digit_bit k) (under (suc k) p rs) (all_map at_level (under (suc k) p rs) inside) ∙ ones-under

-- from place 11 on all agree
under_all : (rs : List ℕ) → under 11 0 rs ≡ rs
under_all rs = every 0 0 rs (λ x. eq-eqb (trace_word x / 2048) 0 (div-eq_of_lt (word_lt x))) ∙ keep_all rs

-- ---- how many are in a group

pub shares-so : {w : ℕ} (k p x : ℕ) → w ≡ trace_word x → w / 2 ^ k ≡ p → 1 ≡ length (under k p (x ∷ []))
shares-so k p x e h = rw (eq-eqb (trace_word x / 2 ^ k) p (ap (λ (v : ℕ). v / 2 ^ k) (sym e) ∙ h))

pub shares-not : {w : ℕ} (k p x : ℕ) → w ≡ trace_word x → (w / 2 ^ k ≡ p → ⊥) → 0 ≡ length (under k p (x ∷ []))
shares-not k p x e h = rw (ne_eqb (trace_word x / 2 ^ k) p (λ z. h (ap (λ (v : ℕ). v / 2 ^ k) e ∙ z)))

pub record Sharing (k p : ℕ) (rs : List ℕ) (n i : ℕ) : Type 0 where
  pub within : i ≤ length rs
  pub same : n + length (under k p (drop i rs)) ≡ length (under k p rs)

pub sharing-from : (k p : ℕ) (rs : List ℕ) → Sharing k p rs 0 0
sharing-from k p rs = record { within = omega arith; same = zero-add (length (under k p rs)) }

module _ {k p : ℕ} {rs : List ℕ} {n i : ℕ} (s : Sharing k p rs n i) where
  pub sharing-on : {a : ℕ} → i < length rs → a ≡ length (under k p (get_or rs i 0 ∷ [])) → Sharing k p rs (n + a) (i + 1)
  sharing-on {a} h e =
      let x : ℕ = get_or rs i 0 in
      let ahead : length (under k p (drop i rs)) ≡ a + length (under k p (drop (i + 1) rs)) =
      ap (λ (l : List ℕ). length (under k p l)) (drop-cons rs i 0 h)
      ∙ ap length (keep_append (λ x. eqb (trace_word x / 2 ^ k) p) (x ∷ []) (drop (suc i) rs))
      ∙ length-append (under k p (x ∷ [])) (under k p (drop (suc i) rs))
      ∙ ap₂ (λ (u : ℕ) (j : ℕ). u + length (under k p (drop j rs))) (sym e) (sym (add-one i)) in
      record { within = omega arith; same = omega (arith, s.same, ahead) }

  -- the count stays within the list
  pub sharing-few : n ≤ length rs
  sharing-few = omega (arith, s.same, length-keep (λ x. eqb (trace_word x / 2 ^ k) p) rs)

  pub sharing-end : length rs ≤ i → n ≡ length (under k p rs)
  sharing-end h = sym (add-zero n) ∙ ap (λ (l : List ℕ). n + length (under k p l)) (sym (drop_of_length-le rs h)) ∙ s.same

-- ---- steps

module _ (c : ℕ) (rs : List ℕ) where
  none-under : (k p : ℕ) → length (under k p rs) ≤ c → steps_under c rs k p ≡ 0
  unfolding steps_under
  none-under zero p h = refl
  none-under (suc k) p h = rw (le-ltb c (length (under (suc k) p rs)) h)

  some-under : (k p : ℕ) → c < length (under (suc k) p rs)
      → steps_under c rs (suc k) p ≡ suc (steps_under c rs k (p * 2) + steps_under c rs k (p * 2 + 1))
  unfolding steps_under
  some-under k p h = rw (lt-ltb c (length (under (suc k) p rs)) h)

  steps-lt : (k p : ℕ) → steps_under c rs k p < 2 ^ k
  unfolding steps_under
  steps-lt zero p = zero-lt-suc 0
  steps-lt (suc k) p = go (steps-lt k) (dec_lt c (length (under (suc k) p rs)))
    where
      go : ((q : ℕ) → steps_under c rs k q < 2 ^ k) → Dec (c < length (under (suc k) p rs)) → steps_under c rs (suc k) p < 2 ^ suc k
      go few (no h) = rw (none-under (suc k) p (omega arith), pow-suc) (omega (arith, few p))
      go few (yes h) = rw (some-under k p h, pow-suc) (omega (arith, few (p * 2), few (p * 2 + 1)))

  -- the walk down the trace words is the walk down the trace bits
  steps-left : Below 2048 rs → (k p : ℕ) → k ≤ 11 → steps_under c rs k p ≡ left (trace_bit_at 11) c k (11 - k) (under k p rs)
  unfolding steps_under left
  steps-left small zero p h = refl
  steps-left small (suc k) p h = go (λ q s e. part q s e (steps-left small k q (omega arith))) (dec_lt c (length (under (suc k) p rs)))
    where
      part : (q : ℕ) (s : List ℕ) → s ≡ under k q rs → steps_under c rs k q ≡ left (trace_bit_at 11) c k (11 - k) (under k q rs)
          → steps_under c rs k q ≡ left (trace_bit_at 11) c k (suc (11 - suc k)) s
      part q s e r =
          r ∙ ap₂ (λ (j : ℕ) (l : List ℕ). left (trace_bit_at 11) c k j l) (let o : 11 - k ≡ suc (11 - suc k) = omega arith in o) (sym e)

      go : ((q : ℕ) (s : List ℕ) → s ≡ under k q rs → steps_under c rs k q ≡ left (trace_bit_at 11) c k (suc (11 - suc k)) s)
          → Dec (c < length (under (suc k) p rs)) → steps_under c rs (suc k) p ≡ left (trace_bit_at 11) c (suc k) (11 - suc k) (under (suc k) p rs)
      go parts (no l) = none-under (suc k) p (omega arith) ∙ sym (left-none (trace_bit_at 11) c (suc k) (11 - suc k) (under (suc k) p rs) (omega arith))
      go parts (yes l) =
          some-under k p l
          ∙ ap₂ (λ (a b : ℕ). suc (a + b)) (parts (p * 2) _ (low_half k p rs small h)) (parts (p * 2 + 1) _ (high_half k p rs small h))
          ∙ sym (left-large (trace_bit_at 11) c k (11 - suc k) (under (suc k) p rs) l)

  -- no more roots than the cutoff take none
  pub steps-none : length rs ≤ c → 0 ≡ step_count 11 c rs
  steps-none h = sym (count_left (trace_bit_at 11) c 11 rs ∙ left-none (trace_bit_at 11) c 11 0 rs h)

  -- THE STEPS are as many as demand 3 counts
  pub steps-are : Below 2048 rs → steps_under c rs 11 0 ≡ step_count 11 c rs
  steps-are small =
      steps-left small 11 0 (omega arith) ∙ ap (left (trace_bit_at 11) c 11 0) (under_all rs) ∙ sym (count_left (trace_bit_at 11) c 11 rs)

-- ---- as the code goes: at place l + 1

pub counted-least : (c p : ℕ) {k : ℕ} (rs : List ℕ) → k ≡ 0 → 0 ≡ steps_under c rs k p
unfolding steps_under
counted-least c p rs e = sym (ap (λ (i : ℕ). steps_under c rs i p) e)

pub counted_none : {c k p n : ℕ} {rs : List ℕ} → Counted rs k p n → n ≤ c → 0 ≡ steps_under c rs k p
counted_none {c} {k} {p} {n} {rs} g h = sym (none-under c rs k p (omega (arith, g.count)))

pub counted-all : (rs : List ℕ) {n : ℕ} → n ≡ length rs → Counted rs 11 0 n
counted-all rs e = record { place = omega arith; digits = zero-lt-suc 0; count = e ∙ sym (ap length (under_all rs)) }

pub one_less : {k : ℕ} → (k ≡ 0 → ⊥) → k ≡ suc (k - 1)
one_less n = omega arith

module _ {rs : List ℕ} {k p n : ℕ} (g : Counted rs k p n) {l : ℕ} (e : k ≡ suc l) where
  fewer : p * 2 + 1 < 2 ^ (11 - l)
  fewer =
      let d : p < 2 ^ (11 - k) = g.digits in
      let h : k ≤ 11 = g.place in
      let up : 2 ^ (11 - l) ≡ 2 ^ (11 - k) * 2 = ap (λ (i : ℕ). 2 ^ i) (let o : 11 - l ≡ suc (11 - k) = omega arith in o) ∙ pow-suc 2 (11 - k) in
      omega arith

  both : n ≡ length (under l (p * 2) rs) + length (under l (p * 2 + 1) rs)
  both = g.count ∙ ap (λ (i : ℕ). length (under i p rs)) e ∙ under-parts l p rs

  pub counted-low : {low : ℕ} → low ≡ length (under l (p * 2) rs) → Counted rs l (p * 2) low
  counted-low f = record { place = omega (arith, g.place); digits = omega (arith, fewer); count = f }

  pub counted-high : {low : ℕ} → low ≡ length (under l (p * 2) rs) → Counted rs l (p * 2 + 1) (n - low)
  counted-high f = record { place = omega (arith, g.place); digits = fewer; count = omega (arith, both) }

  -- counts fit
  pub counted-few : p * 2 + 1 < 2048
  counted-few = lt_of_lt_of_le fewer (pow_mono (let h : 11 - l ≤ 11 = omega arith in h))

  pub counted-within : {low : ℕ} → low ≡ length (under l (p * 2) rs) → low ≤ n
  counted-within f = omega (arith, both)

  module _ {c a b : ℕ} (more : c < n) (ea : a ≡ steps_under c rs l (p * 2)) (eb : b ≡ steps_under c rs l (p * 2 + 1)) where
    pub counted-some : a + b + 1 ≡ steps_under c rs k p
    counted-some =
        let s : steps_under c rs (suc l) p ≡ suc (steps_under c rs l (p * 2) + steps_under c rs l (p * 2 + 1)) =
        some-under c rs l p (subst (λ (i : ℕ). c < i) (g.count ∙ ap (λ (i : ℕ). length (under i p rs)) e) more) in
        (let o : a + b + 1 ≡ steps_under c rs (suc l) p = omega arith in o) ∙ ap (λ (i : ℕ). steps_under c rs i p) (sym e)

    pub counted-sum : a + b + 1 < 2049
    counted-sum =
        let h : steps_under c rs k p < 2 ^ k = steps-lt c rs k p in
        let w : 2 ^ k ≤ 2 ^ 11 = pow_mono g.place in
        omega (arith, counted-some)
