-- What the code finds decides: flipping acceptable places makes the codeword, wherever they came from; where those that
-- the register names are not acceptable, there is none.
--   any-within         flipping acceptable places makes the codeword near;  any-distance  by so many flips
--   none_within        no codeword is near where the places that the register names are not acceptable
--   zero-within        a word whose values at a, a^3, .., a^(2t-1) are 0 is a codeword
--   rest-zero-within   so one whose remainder at strength t is 0
-- Assumes nothing.
use mathlib.Core.Path.{◌≡◌, refl, sym, ap, ap₂, ◌∙◌, subst}
use mathlib.Core.Logic.{◌↔◌, ⊎_elim}
use mathlib.Core.Bool.{Bool, true, false, cond}
use mathlib.Core.List.Memᴰ
use mathlib.Core.List.{List, [], ◌∷◌, map, Memᴰ}
use Prim.Native.Nat.{ℕ, zero, suc, ◌+◌, ◌-◌, ◌*◌, ◌^◌, ◌≤◌, ◌<◌}
use native.Mathlib.Nat.{pow-suc, mul_assoc as times-assoc, mul-le-mul_right}
use native.Mathlib.Decide.{dec_lt}
use native.Mathlib.Omega.{arith}
use lib.Bits.{bit_xor, xor_lt}
use lib.Dec.{T, eqb, eqb→eq, eqb_refl}
use lib.ListN.{length, get_or, length-map}
use lib.Pow.{pow-lt, pow_pos}
use Rattle.algebra.specs.Field.{power}
use Rattle.algebra.specs.Polynomial.{coef, is_root}
use Rattle.algebra.specs.Trial.{All, Distinct, up_from}
use Rattle.field.specs.Field.{field_at, mul, inverse}
use Rattle.field.proofs.Generator.{one_below}
use Rattle.corrector_code.specs.Word.{difference, places, bit_distance, total, word_value, locators}
use Rattle.corrector_code.specs.Key.{register}
use Rattle.corrector_code.specs.Correct.{syndromes, locator_of, marked_at, flips, Passes}
use Rattle.corrector_code.specs.Digits.{bytes_number, digits, value_of_digits}
use Rattle.corrector_code.specs.Eleven.{F11}
use Rattle.corrector_code.proofs.Eleven.{gen11}
use Rattle.corrector_code.proofs.Odd.{half}
use Rattle.corrector_code.proofs.Same.{register-same}
use Rattle.corrector_code.proofs.Complete.{map-up_from-at, difference-difference}
use Rattle.corrector_code.proofs.Flips.{digits-xor}
use Rattle.corrector_code.proofs.Numbers.{syndrome-square, passes-within, passes-exactly}
use Rattle.corrector_code.proofs.Values.{value-digits}
use Rattle.corrector_generator.specs.Generators.{odd_power}
use Rattle.corrector_remainder.specs.Remainder.{RestAt}
use Rattle.corrector_remainder.proofs.Strengths.{zero-values}
use Rattle.corrector_syndromes.specs.Syndromes.{OddValues}
use Rattle.corrector_syndromes.proofs.Remainders.{odd-syndromes}
use Rattle.corrector_locator.specs.Under.{PowerSums}
use Rattle.corrector_locator.proofs.Fine.{register-fine}
use Rattle.corrector.specs.Places.{xor_over, places_of, sum_at, Apart, Acceptable, named, flip_all}
use Rattle.corrector.specs.Correcting.{IsBlock, IsStrength, Within}
use Rattle.corrector.specs.Correcting as blocks
use Rattle.corrector.proofs.Bits.{bits_of, bits-digits, block-below, length_digits, word_back, Flipped, flipped}
use Rattle.corrector.proofs.Blocks.{Near, make-block, last-small, within-bits, within_block, distance-bits}
use Rattle.corrector.proofs.Marking.{places-distinct, places-member, places-below}
use Rattle.corrector.proofs.Reordering.{same_length, same-xor}

total-over : (g h : ℕ → ℕ) (l : List ℕ) → total F11 g (map h l) ≡ xor_over (λ j. g (h j)) l
unfolding total xor_over
total-over g h [] = refl
total-over g h (j ∷ l) = ap (bit_xor (g (h j))) (total-over g h l)

length-row : (k n : ℕ) → length (up_from k n) ≡ n
unfolding up_from
length-row k zero = refl
length-row k (suc n) = ap suc (length-row (suc k) n)

-- the highest byte of a number that is small
top_byte : (bytes : List ℕ) (n : ℕ) → length bytes ≡ suc n → get_or bytes n 0 * 256 ^ n ≤ bytes_number bytes
unfolding bytes_number
top_byte [] n e = absurd (omega arith)
top_byte (b ∷ bs) zero e = omega arith
top_byte (b ∷ bs) (suc n) e =
    let i = top_byte bs n (omega arith) in
    let p : get_or bs n 0 * 256 ^ suc n ≡ get_or bs n 0 * 256 ^ n * 256 = ap (λ (x : ℕ). get_or bs n 0 * x) (pow-suc 256 n) ∙ sym (times-assoc (get_or bs n 0) (256 ^ n) 256) in
    omega arith

factor : (x p N : ℕ) → x * p ≤ N → N < 128 * p → x < 128
factor x p N a b = go (dec_lt x 128)
  where
    go : Dec (x < 128) → x < 128
    go (yes h) = h
    go (no h) = let m : 128 * p ≤ x * p = mul-le-mul_right p (let l : 128 ≤ x = omega arith in l) in absurd (let z : ⊥ = omega arith in z)

last-below : (bytes : List ℕ) → length bytes ≡ 256 → bytes_number bytes < 2 ^ 2047 → get_or bytes 255 0 < 128
last-below bytes e h = factor (get_or bytes 255 0) (256 ^ 255) (bytes_number bytes) (top_byte bytes 255 e) h

xor_below : (js : List ℕ) → All (λ j. j < 2047) js → xor_over (λ j. 2 ^ j) js < 2 ^ 2047
unfolding xor_over
xor_below [] a = pow_pos 2047
xor_below (j ∷ js) a = xor_lt 2047 (2 ^ j) (xor_over (λ j. 2 ^ j) js) (pow-lt a.0) (xor_below js a.1)

-- the word with no places
none : List Bool → List Bool
none [] = []
none (x ∷ w) = false ∷ none w

length_none : (w : List Bool) → length (none w) ≡ length w
unfolding none
length_none [] = refl
length_none (x ∷ w) = ap suc (length_none w)

places-none : (k : ℕ) (w : List Bool) → places k (none w) ≡ []
unfolding none places
places-none k [] = refl
places-none k (x ∷ w) = places-none (suc k) w

none_both : (w : List Bool) → difference w (none w) ≡ w
unfolding none difference
none_both [] = refl
none_both (true ∷ w) = ap (λ l. true ∷ l) (none_both w)
none_both (false ∷ w) = ap (λ l. false ∷ l) (none_both w)

-- does x stand in a list?
standing : List ℕ → ℕ → Bool
standing [] x = false
standing (y ∷ js) x = cond (eqb x y) true (standing js x)

stands : (js : List ℕ) (x : ℕ) → Memᴰ x js → T (standing js x)
unfolding standing
stands [] x m = absurd (Memᴰ.not-nil m)
stands (y ∷ js) x m =
    ⊎_elim (λ e. first (eqb x y) (subst (λ (z : ℕ). T (eqb x z)) e (eqb_refl x))) (λ i. later (eqb x y) (stands js x i))
    (Memᴰ.cases_cons m)
  where
    first : (b : Bool) → T b → T (cond b true (standing js x))
    first true h = tt
    first false h = absurd h

    later : (b : Bool) → T (standing js x) → T (cond b true (standing js x))
    later true h = tt
    later false h = h

stood : (js : List ℕ) (x : ℕ) → T (standing js x) → Memᴰ x js
unfolding standing
stood [] x h = absurd h
stood (y ∷ js) x h = go (eqb x y) (λ t. eqb→eq x y t) (λ t. stood js x t) h
  where
    go : (b : Bool) → (T b → x ≡ y) → (T (standing js x) → Memᴰ x js) → T (cond b true (standing js x)) → Memᴰ x (y ∷ js)
    go true e r h = Memᴰ.head (e tt)
    go false e r h = Memᴰ.tail (r h)

stands_at : (js : List ℕ) → All (λ j. j < 2047) js → (x : ℕ) → Memᴰ x js ↔ ((x < 2047) × T (standing js x))
stands_at js a x = (λ m. (all-at js a m, stands js x m), λ h. stood js x h.1)
  where
    all-at : (l : List ℕ) → All (λ j. j < 2047) l → Memᴰ x l → x < 2047
    all-at [] a m = absurd (Memᴰ.not-nil m)
    all-at (y ∷ l) a m = ⊎_elim (λ e. subst (λ (z : ℕ). z < 2047) (sym e) a.0) (λ i. all-at l a.1 i) (Memᴰ.cases_cons m)

module _ (word : List ℕ) (t : ℕ) (b : IsBlock word) (st : IsStrength t) where
  w : List Bool
  w = bits_of word

  abbrev W : ℕ
  W = bytes_number word

  small : W < 2 ^ 2047
  small = block-below word b.long (last-small b) b.bytes

  w-digits : w ≡ digits 2047 W
  unfolding w
  w-digits = bits-digits word b.bytes

  long-w : length w ≡ 2047
  long-w = ap length w-digits ∙ length_digits 2047 W

  -- a word whose odd syndromes are 0
  silent-within : ((k : ℕ) → k < t → word_value F11 w (power F11 2 (suc (2 * k))) ≡ 0) → Within t word word
  unfolding w total
  silent-within z =
      within_block b (subst (Near t w) (none_both w) (passes-within (field_at 11) gen11 t w (none w) (length_none w) (few, sum)))
    where
      few : length (places 0 (none w)) ≤ t
      few = subst (λ (l : List ℕ). length l ≤ t) (sym (places-none 0 w)) (omega arith)

      sum : (i : ℕ) → i < t
          → total F11 (λ x. power F11 x (suc (2 * i))) (locators F11 2 (none w)) ≡ word_value F11 w (power F11 2 (suc (2 * i)))
      sum i l =
          ap (λ (m : List ℕ). total F11 (λ x. power F11 x (suc (2 * i))) (map (power F11 2) m)) (places-none 0 w)
          ∙ sym (z i l)

  -- A WORD WHOSE VALUES AT a, a^3, .., a^(2t-1) ARE 0 IS A CODEWORD
  pub zero-within : ((k : ℕ) → k < t → value_of_digits (field_at 11) (odd_power k) W ≡ 0) → Within t word word
  unfolding odd_power
  zero-within z =
      silent-within
      (λ k h. ap (λ (x : List Bool). word_value F11 x (power F11 2 (suc (2 * k)))) w-digits
      ∙ value-digits (field_at 11) gen11.monic (one_below (field_at 11) gen11) (odd_power k) 2047 W small ∙ z k h)

  -- SO IS ONE WHOSE REMAINDER AT STRENGTH t IS 0
  pub rest-zero-within : RestAt t W 0 → Within t word word
  rest-zero-within r = zero-within (zero-values r)

  module _ {n : ℕ} {odd : List ℕ} (r : RestAt t W n) (v : OddValues n odd) where
    -- the first t odd syndromes
    odd-at : (k : ℕ) → k < t → get_or odd k 0 ≡ word_value F11 w (power F11 2 (suc (2 * k)))
    odd-at k h = odd-syndromes W st.most small r v k h ∙ ap (λ (x : List Bool). word_value F11 x (power F11 2 (suc (2 * k)))) (sym w-digits)

    -- ---- places that a test tells

    module _ (js : List ℕ) (test : ℕ → Bool) (distinct : Distinct js)
        (told : (x : ℕ) → Memᴰ x js ↔ ((x < 2047) × T (test x))) (below : All (λ j. j < 2047) js) where
      f : List Bool
      f = map test (up_from 0 2047)

      long-f : length f ≡ 2047
      unfolding f
      long-f = length-map (up_from 0 2047) test ∙ length-row 0 2047

      count : length (places 0 f) ≡ length js
      unfolding f
      count = same_length test 2047 js distinct told

      sums : (g : ℕ → ℕ) → xor_over g (places 0 f) ≡ xor_over g js
      unfolding f
      sums g = same-xor test 2047 js distinct told g

      power-sum : (i : ℕ) → total F11 (λ x. power F11 x i) (locators F11 2 f) ≡ sum_at js i
      power-sum i = total-over (λ x. power F11 x i) (power F11 2) (places 0 f) ∙ sums (λ j. power F11 (power F11 2 j) i)

      passes : Acceptable odd t js → Passes F11 2 t w f
      passes a = (
        (let c = count in let h = a.few in omega arith),
        λ i l. power-sum (suc (2 * i)) ∙ a.sums i l ∙ odd-at i l,
      )

      acceptable : Passes F11 2 t w f → Acceptable odd t js
      acceptable h = record {
        few = (let c = count in let l = h.0 in omega arith);
        sums = λ i l. sym (power-sum (suc (2 * i))) ∙ h.1 i l ∙ sym (odd-at i l);
      }

      after : List ℕ
      after = flip_all js word

      fl : Flipped js word after
      unfolding after
      fl = flipped js word below b.long b.bytes

      after_small : bytes_number after < 2 ^ 2047
      after_small =
          subst (λ (m : ℕ). m < 2 ^ 2047) (sym fl.number)
          (xor_lt 2047 W (xor_over (λ j. 2 ^ j) js) small (xor_below js below))

      bits-after : bits_of after ≡ difference w f
      bits-after =
          bits-digits after fl.bytes_fit ∙ ap (digits 2047) fl.number ∙ digits-xor 2047 W (xor_over (λ j. 2 ^ j) js)
          ∙ ap₂ difference (sym w-digits) (ap (digits 2047) (sym (sums (λ j. 2 ^ j))) ∙ word_back f long-f)

      flips-within : Acceptable odd t js → Within t word (flip_all js word)
      unfolding w after
      flips-within a =
          within_block (make-block fl.long fl.bytes_fit (last-below after fl.long after_small))
          (subst (Near t w) (sym bits-after) (passes-within (field_at 11) gen11 t w f (long-f ∙ sym long-w) (passes a)))

      flips-distance : length js ≡ blocks.distance word (flip_all js word)
      unfolding w after
      flips-distance = sym
          (distance-bits word after ∙ ap (bit_distance w) bits-after
          ∙ ap (λ (x : List Bool). length (places 0 x)) (difference-difference w f (long-f ∙ sym long-w)) ∙ count)

    -- ---- any places

    module _ (js : List ℕ) (a : Apart js) where
      -- FLIPPING ACCEPTABLE PLACES MAKES THE CODEWORD
      pub any-within : Acceptable odd t js → Within t word (flip_all js word)
      any-within = flips-within js (standing js) a.distinct (stands_at js a.below) a.below

      -- by so many flips
      pub any-distance : length js ≡ blocks.distance word (flip_all js word)
      any-distance = flips-distance js (standing js) a.distinct (stands_at js a.below) a.below

    -- ---- the places that the register names

    module _ (s : List ℕ) (ps : PowerSums odd s) where
      sum-at : (f k : ℕ) → k ≤ f → 0 < k → k ≤ 2 * t → get_or s k 0 ≡ word_value F11 w (power F11 2 k)
      sum-at zero k l p q = absurd (omega arith)
      sum-at (suc f) k l p q =
          ⊎_elim (λ h. even h.0 h.1 (sum-at f h.0 (omega (arith, h.1)) (omega (arith, h.1)) (omega (arith, h.1))))
          (λ h. ap (λ (m : ℕ). get_or s m 0) h.1 ∙ ps.odd_is h.0 (omega (arith, h.1, st.most)) ∙ odd-at h.0 (omega (arith, h.1)) ∙ ap (λ (m : ℕ). word_value F11 w (power F11 2 m)) (sym h.1)) (half k)
        where
          even : (i : ℕ) → k ≡ 2 * i → get_or s i 0 ≡ word_value F11 w (power F11 2 i) → get_or s k 0 ≡ word_value F11 w (power F11 2 k)
          even i h ih =
              let m : k ≡ suc (suc (2 * (i - 1))) = omega arith in
              let c : suc (i - 1) ≡ i = omega arith in
              ap (λ (m : ℕ). get_or s m 0) m ∙ ps.even_is (i - 1) (omega (arith, st.most)) ∙ ap (λ (m : ℕ). mul (field_at 11) (get_or s m 0) (get_or s m 0)) c
              ∙ ap (λ (x : ℕ). mul (field_at 11) x x) ih ∙ sym (syndrome-square (field_at 11) gen11 w i) ∙ ap (λ (m : ℕ). word_value F11 w (power F11 2 m)) (sym h)

      coef-at : (k : ℕ) → k ≤ 2 * t → get_or s k 0 ≡ coef F11 (syndromes F11 2 t w) k
      unfolding syndromes
      coef-at zero h = ps.first
      coef-at (suc k) h =
          sum-at 16 (suc k) (let m = st.most in omega arith) (omega arith) h
          ∙ sym (map-up_from-at 0 (λ i. word_value F11 w (power F11 2 i)) 1 (2 * t) k h ∙ ap (λ (m : ℕ). word_value F11 w (power F11 2 m)) (let z : 1 + k ≡ suc k = omega arith in z))

      p : List ℕ
      p = (register F11 8 (λ j. get_or s j 0) t).locator

      p-is : p ≡ locator_of F11 2 t w
      unfolding p locator_of
      p-is = ap (λ r. r.locator) (register-same F11 8 (λ j. get_or s j 0) (coef F11 (syndromes F11 2 t w)) t coef-at)

      first : get_or p 0 0 ≡ 1
      unfolding p
      first = (register-fine (λ j. get_or s j 0) t).first

      named-is : places_of p ≡ named s t
      unfolding p named
      named-is = refl

      test : ℕ → Bool
      test j = is_root F11 p (inverse (field_at 11) (power F11 2 j))

      marked-is : map test (up_from 0 2047) ≡ flips F11 2 t w
      unfolding test flips marked_at
      marked-is = ap₂ (λ (q : List ℕ) (m : ℕ). map (λ j. is_root F11 q (inverse (field_at 11) (power F11 2 j))) (up_from 0 m)) p-is (sym long-w)

      told : (x : ℕ) → Memᴰ x (places_of p) ↔ ((x < 2047) × T (test x))
      unfolding test
      told = places-member p first

      -- THERE IS NONE WHERE THE PLACES ARE NOT ACCEPTABLE
      pub none_within : (Acceptable odd t (named s t) → ⊥) → (v : List ℕ) → Within t word v → ⊥
      unfolding w f
      none_within never v h =
          let some : (x : List Bool) × Near t w x = (bits_of v, within-bits h) in
          let q = (passes-exactly (field_at 11) gen11 t w st.most (let l = long-w in omega arith)).1 some in
          never (subst (Acceptable odd t) named-is
          (acceptable (places_of p) test (places-distinct p first) told (places-below p first) (subst (Passes F11 2 t w) (sym marked-is) q)))
