-- THE CORRECTOR IS COMPLETE: where a codeword lies within t of w, the candidate is that codeword. So w can be
-- corrected exactly where the candidate corrects it.
--   difference-difference   what is different twice is as before
--   map-up_from-at           what stands at k in a list made of numbers in a row
--   complete                a codeword within t of w is the candidate
--   correctable             w can be corrected exactly where the candidate corrects it
-- Assumes nothing.
use mathlib.Core.Path.{◌≡◌, refl, sym, ap, ap₂, ◌∙◌, subst}
use mathlib.Core.Logic.{◌≢◌, ◌↔◌}
use mathlib.Core.Bool.{Bool, true, false}
use mathlib.Core.List.{List, [], ◌∷◌, map}
use Prim.Native.Nat.{ℕ, zero, suc, ◌+◌, ◌*◌, ◌≤◌, ◌<◌}
use native.Mathlib.Nat.{not-suc-le-zero, add-zero}
use native.Mathlib.Omega.{arith}
use lib.Dec.{T}
use lib.ListN.{length, get_or, length-map}
use Rattle.algebra.specs.Field.{Ops, Laws, power}
use Rattle.algebra.specs.Polynomial.{coef, eval, is_root}
use Rattle.algebra.specs.Trial.{up_from}
use Rattle.algebra.proofs.Series.{starting_with}
use Rattle.algebra.proofs.Elements as E
use Rattle.algebra.proofs.Evaluation as I
use Rattle.algebra.specs.Trial.{All}
use Rattle.corrector_code.specs.Word.{differs, difference, places, word_value, Codeword, CodewordWithin, locators, DistinctPowers}
use Rattle.corrector_code.specs.Key.{from_locators}
use Rattle.corrector_code.specs.Correct.{syndromes, locator_of, marked_at, flips, candidate}
use Rattle.algebra.proofs.Trial.{all_map}
use Rattle.corrector_code.proofs.Words.{length-difference}
use Rattle.corrector_code.proofs.Words as X
use Rattle.corrector_code.proofs.Locate.{sums}
use Rattle.corrector_code.proofs.Locate as O

-- ---- words

-- what is different twice is as before
pub difference-difference : (w v : List Bool) → length v ≡ length w → difference w (difference w v) ≡ v
unfolding difference
difference-difference [] v e = refl
difference-difference (b ∷ w) [] e = absurd (omega arith)
difference-difference (b ∷ w) (c ∷ v) e = ap₂ (λ x l. x ∷ l) (twice b c) (difference-difference w v (omega arith))
  where
    twice : (b c : Bool) → differs b (differs b c) ≡ c
    twice false c = refl
    twice true false = refl
    twice true true = refl

places-from : (k j : ℕ) (w : List Bool) → j < k → All (λ p. p ≢ j) (places k w)
unfolding places
places-from k j [] h = tt
places-from k j (true ∷ w) h = (omega arith, places-from (suc k) j w (omega arith))
places-from k j (false ∷ w) h = places-from (suc k) j w (omega arith)

places-below : (k : ℕ) (w : List Bool) → All (λ p. p < k + length w) (places k w)
unfolding places
places-below k [] = tt
places-below k (true ∷ w) = (omega arith, all_map (λ p h. omega arith) (places (suc k) w) (places-below (suc k) w))
places-below k (false ∷ w) = all_map (λ p h. omega arith) (places (suc k) w) (places-below (suc k) w)

-- a test that holds at the places of w, and at no other, marks w
marks : (f : ℕ → Bool) (k : ℕ) (w : List Bool) → All (λ p. f p ≡ true) (places k w)
    → ((j : ℕ) → k ≤ j → j < k + length w → All (λ p. p ≢ j) (places k w) → f j ≡ false) → map f (up_from k (length w)) ≡ w
unfolding places up_from
marks f k [] on off = refl
marks f k (true ∷ w) on off = ap₂ (λ x l. x ∷ l) on.0 (marks f (suc k) w on.1 (λ j a b h. off j (omega arith) (omega arith) (omega arith, h)))
marks f k (false ∷ w) on off =
    ap₂ (λ x l. x ∷ l) (off k (omega arith) (omega arith) (places-from (suc k) k w (omega arith)))
    (marks f (suc k) w on (λ j a b h. off j (omega arith) (omega arith) h))

-- what stands at k in a list made of numbers in a row
pub map-up_from-at : {A : Type 0} (z : A) (f : ℕ → A) (b n k : ℕ) → k < n → get_or (map f (up_from b n)) k z ≡ f (b + k)
unfolding up_from
map-up_from-at z f b zero k h = absurd (not-suc-le-zero h)
map-up_from-at z f b (suc n) zero h = ap f (sym (add-zero b))
map-up_from-at z f b (suc n) (suc k) h = map-up_from-at z f (suc b) n k (omega arith) ∙ ap f (omega arith)

unmap : {A B : Type 0} (P : B → Type 0) (f : A → B) (s : List A) → All P (map f s) → All (λ x. P (f x)) s
unmap P f [] h = tt
unmap P f (x ∷ s) h = (h.0, unmap P f s h.1)

module _ {K : Type 0} {F : Ops K} (L : Laws F) where
  infixl 60 ◌⊕◌
  open F use {zero as 0#, one as 1#, add as ◌⊕◌}
  open L use {zero-add, zero_test}

  test-true : (x : K) → x ≡ 0# → F.is_zero x ≡ true
  test-true x e = go (F.is_zero x) ((zero_test x).1 e)
    where
      go : (b : Bool) → T b → b ≡ true
      go true t = refl
      go false t = absurd t

  test-false : (x : K) → x ≢ 0# → F.is_zero x ≡ false
  test-false x h = go (F.is_zero x) (λ t. h ((zero_test x).0 t))
    where
      go : (b : Bool) → (T b → ⊥) → b ≡ false
      go true t = absurd (t tt)
      go false t = refl

  module _ (a : K) (n : ℕ) (o : DistinctPowers F a n) where
    -- a polynomial that is the product of 1 + x z over the locators of a word marks that word
    marked-right : (p : List K) (w : List Bool) → length w ≤ n → coef F p ≡ coef F (from_locators F (locators F a w)) → marked_at F a p (length w) ≡ w
    unfolding marked_at
    marked-right p w l e = marks (λ j. is_root F p (F.inv (power F a j))) 0 w on off
      where
        same : (y : K) → eval F p y ≡ eval F (from_locators F (locators F a w)) y
        same y = I.eval-same L p (from_locators F (locators F a w)) y e

        on : All (λ j. is_root F p (F.inv (power F a j)) ≡ true) (places 0 w)
        on = all_map (λ j h. test-true (eval F p (F.inv (power F a j))) (same _ ∙ h)) (places 0 w) (unmap (λ x. eval F (from_locators F (locators F a w)) (F.inv x) ≡ 0#) (power F a) (places 0 w) (O.from-root L (locators F a w) (X.locators-nonzero L a n o w)))

        others : (j : ℕ) → j < n → (s : List ℕ) → All (λ p. p < n) s → All (λ p. p ≢ j) s → All (λ y. y ≢ power F a j) (map (power F a) s)
        others j h [] b d = tt
        others j h (p ∷ s) b d = (λ e. d.0 (o.apart p j b.0 h e), others j h s b.1 d.1)

        off : (j : ℕ) → 0 ≤ j → j < 0 + length w → All (λ p. p ≢ j) (places 0 w) → is_root F p (F.inv (power F a j)) ≡ false
        off j h k d =
            test-false (eval F p (F.inv (power F a j)))
            (λ z. O.from-no-root L (locators F a w) (power F a j) (X.pow-nonzero L a j o.nonzero)
            (others j (omega arith) (places 0 w) (all_map (λ p q. omega arith) (places 0 w) (places-below 0 w)) d) (sym (same _) ∙ z))

    -- the syndromes of w are the power sums of the places where it differs from a codeword
    syndromes-are : (t : ℕ) (w v : List Bool) → Codeword F a t v → (k : ℕ) → k ≤ 2 * t → coef F (syndromes F a t w) k ≡ sums F (locators F a (difference w v)) k
    unfolding syndromes sums starting_with
    syndromes-are t w v c zero h = refl
    syndromes-are t w v c (suc k) h =
        map-up_from-at 0# (λ i. word_value F w (power F a i)) 1 (2 * t) k h
        ∙ ap (λ i. word_value F w (power F a i)) (omega arith)
        ∙ sym (X.value-difference L w v (power F a (suc k)) ∙ ap (λ x. word_value F w (power F a (suc k)) ⊕ x) (c (suc k) (omega arith) h) ∙ E.add-zero L _)
        ∙ X.value-sum L a (suc k) (difference w v)

    -- COMPLETE: a codeword within t of w is the candidate
    pub complete : (t : ℕ) (w v : List Bool) → t ≤ 8 → length w ≤ n → CodewordWithin F a t w v → candidate F a t w ≡ v
    unfolding candidate flips locator_of
    complete t w v r l c =
        let e : List Bool = difference w v in
        let long : length e ≡ length w = length-difference w v c.0 in
        let key : coef F (locator_of F a t w) ≡ coef F (from_locators F (locators F a e)) =
        O.key_right L 8 t (locators F a e) (coef F (syndromes F a t w)) r (X.locators-distinct L a n o e (omega arith)) (X.locators-nonzero L a n o e)
        (omega (arith, length-map (places 0 e) (power F a), c.2)) (syndromes-are t w v c.1) in
        ap (difference w) (ap (marked_at F a (locator_of F a t w)) (sym long) ∙ marked-right (locator_of F a t w) e (omega arith) key) ∙ difference-difference w v c.0

    -- w can be corrected exactly where the candidate corrects it
    pub correctable : (t : ℕ) (w : List Bool) → t ≤ 8 → length w ≤ n → CodewordWithin F a t w (candidate F a t w) ↔ ((v : List Bool) × CodewordWithin F a t w v)
    correctable t w r l = (λ c. (candidate F a t w, c), λ h. subst (CodewordWithin F a t w) (sym (complete t w h.0 r l h.1)) h.1)
