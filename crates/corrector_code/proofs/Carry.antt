-- From one field to another that holds the same elements in another form: a map that commutes with the operations
-- commutes with all that the corrector computes. So what is proved over the elements of a field holds of the numbers
-- that the code holds.
--   Carries, carried   a map that commutes with the operations; a register, element by element
--   value-carries      the value of a word;  value-pow  at a power
--   register-carries   the register;  flips-carry  the word that it marks
--   sum_carries        a power sum of a word's locators
-- Assumes nothing.
use mathlib.Core.Path.{◌≡◌, refl, sym, ap, ap₂, ◌∙◌, fun_ext}
use mathlib.Core.Bool.{Bool, true, false, cond}
use mathlib.Core.List.{List, [], ◌∷◌, map}
use Prim.Native.Nat.{ℕ, zero, suc, ◌*◌}
use lib.Dec.{ltb}
use lib.ListN.{length, take, replicate, length-map}
use Rattle.algebra.specs.Field.{Ops, power}
use Rattle.algebra.specs.Polynomial.{coef, eval, add}
use Rattle.algebra.specs.Trial.{up_from}
use Rattle.corrector_code.specs.Word.{places, total, bit, word_value, locators}
use Rattle.corrector_code.specs.Key.{Register, conv, shift, plus_times, mend, turn, register}
use Rattle.corrector_code.specs.Correct.{syndromes, locator_of, marked_at, flips}

-- φ commutes with the operations
pub record Carries {A B : Type 0} (F : Ops A) (G : Ops B) (φ : A → B) : Type 0 where
  pub zero : φ F.zero ≡ G.zero
  pub one : φ F.one ≡ G.one
  pub add : (x y : A) → φ (F.add x y) ≡ G.add (φ x) (φ y)
  pub mul : (x y : A) → φ (F.mul x y) ≡ G.mul (φ x) (φ y)
  pub inv : (x : A) → φ (F.inv x) ≡ G.inv (φ x)
  pub is_zero : (x : A) → F.is_zero x ≡ G.is_zero (φ x)

map-map : {A B C : Type 0} (f : A → B) (g : B → C) (l : List A) → map g (map f l) ≡ map (λ x. g (f x)) l
map-map f g [] = refl
map-map f g (x ∷ l) = ap (λ r. g (f x) ∷ r) (map-map f g l)

-- a register, element by element
abbrev pub carried : {A B : Type 0} → (A → B) → Register A → Register B
carried φ r = record { locator = map φ r.locator; spare = map φ r.spare; low = r.low; high = r.high }

module _ {A B : Type 0} {F : Ops A} {G : Ops B} {φ : A → B} (h : Carries F G φ) where
  pow-carries : (x : A) (n : ℕ) → φ (power F x n) ≡ power G (φ x) n
  unfolding power
  pow-carries x zero = h.one
  pow-carries x (suc n) = h.mul x (power F x n) ∙ ap (G.mul (φ x)) (pow-carries x n)

  eval-carries : (p : List A) (x : A) → φ (eval F p x) ≡ eval G (map φ p) (φ x)
  unfolding eval
  eval-carries [] x = h.zero
  eval-carries (c ∷ p) x = h.add c _ ∙ ap (G.add (φ c)) (h.mul x (eval F p x) ∙ ap (G.mul (φ x)) (eval-carries p x))

  bit-carries : (b : Bool) → φ (bit F b) ≡ bit G b
  bit-carries true = h.one
  bit-carries false = h.zero

  pub value-carries : (w : List Bool) (x : A) → φ (word_value F w x) ≡ word_value G w (φ x)
  value-carries w x = eval-carries (map (bit F) w) x ∙ ap (λ p. eval G p (φ x)) (map-map (bit F) φ w ∙ ap (λ f. map f w) (fun_ext bit-carries))

  pub value-pow : (w : List Bool) (a : A) (i : ℕ) → φ (word_value F w (power F a i)) ≡ word_value G w (power G (φ a) i)
  value-pow w a i = value-carries w (power F a i) ∙ ap (word_value G w) (pow-carries a i)

  coef-carries : (p : List A) (k : ℕ) → φ (coef F p k) ≡ coef G (map φ p) k
  coef-carries [] k = h.zero
  coef-carries (c ∷ p) zero = refl
  coef-carries (c ∷ p) (suc k) = coef-carries p k

  take-carries : (n : ℕ) (l : List A) → map φ (take n l) ≡ take n (map φ l)
  take-carries zero l = refl
  take-carries (suc n) [] = refl
  take-carries (suc n) (x ∷ l) = ap (λ r. φ x ∷ r) (take-carries n l)

  zeros-carry : (n : ℕ) → map φ (replicate n F.zero) ≡ replicate n G.zero
  zeros-carry zero = refl
  zeros-carry (suc n) = ap₂ (λ x l. x ∷ l) h.zero (zeros-carry n)

  add-carries : (p q : List A) → map φ (add F p q) ≡ add G (map φ p) (map φ q)
  unfolding add
  add-carries [] q = refl
  add-carries (c ∷ p) [] = refl
  add-carries (c ∷ p) (d ∷ q) = ap₂ (λ x l. x ∷ l) (h.add c d) (add-carries p q)

  scale-carries : (c : A) (p : List A) → map φ (map (F.mul c) p) ≡ map (G.mul (φ c)) (map φ p)
  scale-carries c [] = refl
  scale-carries c (d ∷ p) = ap₂ (λ x l. x ∷ l) (h.mul c d) (scale-carries c p)

  conv-carries : (p : List A) (s : ℕ → A) (k : ℕ) → φ (conv F p s k) ≡ conv G (map φ p) (λ j. φ (s j)) k
  unfolding conv
  conv-carries [] s k = h.zero
  conv-carries (c ∷ p) s zero = h.mul c (s 0)
  conv-carries (c ∷ p) s (suc k) = h.add _ _ ∙ ap₂ G.add (h.mul c (s (suc k))) (conv-carries p s k)

  shift-carries : (p : List A) → map φ (shift F p) ≡ shift G (map φ p)
  unfolding shift
  shift-carries p = take-carries (length p) (F.zero ∷ F.zero ∷ p) ∙ ap₂ (λ n z. take n (z ∷ z ∷ map φ p)) (sym (length-map p φ)) h.zero

  plus_times-carries : (p : List A) (d : A) (q : List A) → map φ (plus_times F p d q) ≡ plus_times G (map φ p) (φ d) (map φ q)
  unfolding plus_times
  plus_times-carries p d q = add-carries p (map (F.mul d) q) ∙ ap (add G (map φ p)) (scale-carries d q)

  cond-carries : (b : Bool) (x y : Register A) → carried φ (cond b x y) ≡ cond b (carried φ x) (carried φ y)
  cond-carries true x y = refl
  cond-carries false x y = refl

  make : {l l' m m' : List B} {i j : ℕ} → l ≡ l' → m ≡ m' → ◌≡◌ {A = Register B} (record { locator = l; spare = m; low = i; high = j }) (record { locator = l'; spare = m'; low = i; high = j })
  make {i = i} {j = j} e f = ap₂ (λ x y. record { locator = x; spare = y; low = i; high = j }) e f

  mend-carries : (d : A) (r : Register A) → carried φ (mend F d r) ≡ mend G (φ d) (carried φ r)
  unfolding mend
  mend-carries d r =
      cond-carries (ltb r.low r.high) _ _
      ∙ ap₂ (cond (ltb r.low r.high))
      (make (plus_times-carries r.locator d r.spare)
      (shift-carries (map (F.mul (F.inv d)) r.locator) ∙ ap (shift G) (scale-carries (F.inv d) r.locator ∙ ap (λ x. map (G.mul x) (map φ r.locator)) (h.inv d))))
      (make (plus_times-carries r.locator d r.spare) (shift-carries r.spare))

  turn-carries : (s : ℕ → A) (m : ℕ) (r : Register A) → carried φ (turn F s m r) ≡ turn G (λ j. φ (s j)) m (carried φ r)
  unfolding turn
  turn-carries s m r =
      let d : A = conv F r.locator s (suc (2 * m)) in
      let e : φ d ≡ conv G (map φ r.locator) (λ j. φ (s j)) (suc (2 * m)) = conv-carries r.locator s (suc (2 * m)) in
      let quiet : Register B = record { locator = map φ r.locator; spare = shift G (map φ r.spare); low = r.low; high = suc (suc r.high) } in
      cond-carries (F.is_zero d) _ _
      ∙ ap₂ (cond (F.is_zero d)) (make refl (shift-carries r.spare)) (mend-carries d r)
      ∙ ap (λ b. cond b quiet (mend G (φ d) (carried φ r))) (h.is_zero d)
      ∙ ap (λ x. cond (G.is_zero x) quiet (mend G x (carried φ r))) e

  pub register-carries : (t : ℕ) (s : ℕ → A) (m : ℕ) → carried φ (register F t s m) ≡ register G t (λ j. φ (s j)) m
  unfolding register
  register-carries t s zero =
      make (ap₂ (λ x l. x ∷ l) h.one (zeros-carry t))
      (take-carries (suc t) (F.zero ∷ F.one ∷ replicate t F.zero) ∙ ap (take (suc t)) (ap₂ (λ x l. x ∷ l) h.zero (ap₂ (λ x l. x ∷ l) h.one (zeros-carry t))))
  register-carries t s (suc m) = turn-carries s m (register F t s m) ∙ ap (turn G (λ j. φ (s j)) m) (register-carries t s m)

  syndromes-carry : (a : A) (t : ℕ) (w : List Bool) → map φ (syndromes F a t w) ≡ syndromes G (φ a) t w
  unfolding syndromes
  syndromes-carry a t w = ap₂ (λ x l. x ∷ l) h.one (map-map (λ i. word_value F w (power F a i)) φ (up_from 1 (2 * t)) ∙ ap (λ f. map f (up_from 1 (2 * t))) (fun_ext (value-pow w a)))

  locator-carries : (a : A) (t : ℕ) (w : List Bool) → map φ (locator_of F a t w) ≡ locator_of G (φ a) t w
  unfolding locator_of
  locator-carries a t w =
      ap (λ r. r.locator) (register-carries 8 (coef F (syndromes F a t w)) t)
      ∙ ap (λ s. (register G 8 s t).locator) (fun_ext (coef-carries (syndromes F a t w)) ∙ ap (coef G) (syndromes-carry a t w))

  pub flips-carry : (a : A) (t : ℕ) (w : List Bool) → flips F a t w ≡ flips G (φ a) t w
  unfolding flips marked_at
  flips-carry a t w =
      ap (λ f. map f (up_from 0 (length w)))
      (fun_ext λ j. h.is_zero _ ∙ ap G.is_zero (eval-carries (locator_of F a t w) (F.inv (power F a j))
      ∙ ap₂ (eval G) (locator-carries a t w) (h.inv (power F a j) ∙ ap G.inv (pow-carries a j))))

  total-carries : (f : A → A) (g : B → B) → ((x : A) → φ (f x) ≡ g (φ x)) → (s : List A) → φ (total F f s) ≡ total G g (map φ s)
  unfolding total
  total-carries f g e [] = h.zero
  total-carries f g e (x ∷ s) = h.add (f x) (total F f s) ∙ ap₂ G.add (e x) (total-carries f g e s)

  -- a power sum of a word's locators
  pub sum_carries : (a : A) (w : List Bool) (i : ℕ) → φ (total F (λ x. power F x i) (locators F a w)) ≡ total G (λ x. power G x i) (locators G (φ a) w)
  sum_carries a w i =
      total-carries (λ x. power F x i) (λ x. power G x i) (λ x. pow-carries x i) (locators F a w)
      ∙ ap (total G (λ x. power G x i)) (map-map (power F a) φ (places 0 w) ∙ ap (λ f. map f (places 0 w)) (fun_ext (pow-carries a)))
