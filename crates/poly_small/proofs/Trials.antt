-- Numbers tried from the last on, each below the one before.
--   Trying                        what holds at each turn: those passed are roots, ascending
--   try-from, try-on              the start, and a turn
--   try-end                       all passed: as many roots as the degree are all
--   try-asks, try-size, try-all   what a turn asks over lent tables, where it starts, and its end
--   lead-front                    low coefficients with 1 behind them are the monic polynomial
--   check-asks, check-out         what the trial asks, and what it gives
--   guess-out                     the roots of a cubic, where they were guessed
--   guess-not                     what another way then asks, where they were not
-- Assumes nothing.
use mathlib.Core.Path.{◌≡◌, refl, sym, ap, ◌∙◌, subst}
use mathlib.Core.List.{List, [], ◌∷◌, ◌++◌}
use Prim.Native.Nat.{ℕ, zero, suc, ◌+◌, ◌-◌, ◌^◌, ◌≤◌, ◌<◌}
use native.Mathlib.Omega.{arith}
use lib.ListN.{length, get_or, take, drop}
use lib.Seq.{drop-cons, drop-length, take_at, take-append-add}
use Rattle.algebra.specs.Field.{OnNumbers}
use Rattle.algebra.specs.Trial.{All, Ascending}
use Rattle.algebra.specs.Polynomial.{Below, eval}
use Rattle.algebra.specs.Routines.{monic}
use Rattle.algebra.proofs.Trial.{all_map}
use Rattle.algebra.proofs.StaysBelow.{monic-below}
use Rattle.algebra.proofs.RootList.{roots_of-whole}
use Rattle.slices.specs.Lists.{copied}
use Rattle.field.specs.Field.{G, roots_at}
use Rattle.poly.specs.Lent.{Lent}
use Rattle.poly.proofs.Logs.{numbers_of}
use Rattle.poly_small.specs.Roots.{RootsOut, SmallSolvable}
use Rattle.poly_small.specs.Guessing.{Triable, Guessable, GuessedIn}
use Rattle.poly_small.proofs.LowDegrees.{front_out}

-- those from i on are roots, ascending, and none is below the bound
pub record Trying (m : ℕ) (f xs : List ℕ) (bound i : ℕ) : Type 0 where
  pub within : i ≤ length xs
  pub limit : bound ≤ 2 ^ m
  pub ascends : Ascending (drop i xs)
  pub above : All (λ y. bound ≤ y) (drop i xs)
  pub zeros : All (λ y. (y < 2 ^ m) × (eval (G m) f y ≡ 0)) (drop i xs)

module _ {m : ℕ} {f xs : List ℕ} where
  -- before the first none is passed
  pub try-from : {bound : ℕ} → bound ≤ 2 ^ m → Trying m f xs bound (length xs)
  try-from h =
      let e : drop (length xs) xs ≡ [] = drop-length xs in
      record { within = omega arith; limit = h; ascends = rw e tt; above = rw e tt; zeros = rw e tt }

  module _ {bound i : ℕ} (s : Trying m f xs bound i) where
    -- one more root
    pub try-on : 0 < i → get_or xs (i - 1) 0 < bound → eval (G m) f (get_or xs (i - 1) 0) ≡ 0 → Trying m f xs (get_or xs (i - 1) 0) (i - 1)
    try-on h l z =
        let x : ℕ = get_or xs (i - 1) 0 in
        let up : suc (i - 1) ≡ i = omega arith in
        let e : drop (i - 1) xs ≡ x ∷ drop i xs = drop-cons xs (i - 1) 0 (omega (arith, s.within)) ∙ ap (λ k. x ∷ drop k xs) up in
        record {
          within = omega (arith, s.within);
          limit = omega (arith, s.limit);
          ascends = rw e (all_map {P = λ y. bound ≤ y} {Q = λ y. x < y} (λ y k. omega arith) (drop i xs) s.above, s.ascends);
          above = rw e (omega arith, all_map {P = λ y. bound ≤ y} {Q = λ y. x ≤ y} (λ y k. omega arith) (drop i xs) s.above);
          zeros = rw e ((omega (arith, s.limit), z), s.zeros);
        }

    -- all passed, as many as the degree
    pub try-end : OnNumbers (G m) (2 ^ m) → (p : List ℕ) → Below (2 ^ m) p → f ≡ monic (G m) p → length p ≡ length xs → i ≡ 0 → roots_at m f ≡ xs
    try-end N p small whole many e =
        let a : Ascending xs = subst (λ k. Ascending (drop k xs)) e s.ascends in
        let z : All (λ y. (y < 2 ^ m) × (eval (G m) f y ≡ 0)) xs = subst (λ k. All (λ y. (y < 2 ^ m) × (eval (G m) f y ≡ 0)) (drop k xs)) e s.zeros in
        let w : All (λ y. (y < 2 ^ m) × (eval (G m) (monic (G m) p) y ≡ 0)) xs = subst (λ g. All (λ y. (y < 2 ^ m) × (eval (G m) g y ≡ 0)) xs) whole z in
        ap (roots_at m) whole ∙ roots_of-whole N p xs small a w (omega arith)

module _ {m : ℕ} {ls ts f xs : List ℕ} (l : Lent m ls ts) (t : Triable m f xs) where
  -- the polynomial's coefficients are elements
  try-below : Below (2 ^ m) f
  try-below = subst (Below (2 ^ m)) (sym t.whole) (monic-below (numbers_of l) t.low t.small)

  -- what a turn asks over lent tables
  pub try-asks : {bound i x : ℕ} → Trying m f xs bound i → x < bound → Below (2 ^ m) f × (x < 2 ^ m)
  try-asks s h = (try-below, omega (arith, s.limit))

  pub try-size : length ls ≤ 2 ^ m
  try-size = omega (arith, l.logs.entries)

  pub try-all : {bound i : ℕ} → Trying m f xs bound i → i ≡ 0 → roots_at m f ≡ xs
  try-all s = try-end s (numbers_of l) t.low t.small t.whole t.many

-- ---- low coefficients, and a list of numbers

-- the ones that the code lays under the low coefficients
abbrev ones : List ℕ
ones = 1 ∷ 1 ∷ 1 ∷ 1 ∷ 1 ∷ []

-- each is followed by 1
one-there : (k : ℕ) → k ≤ 4 → take 1 (drop k ones) ≡ 1 ∷ []
one-there zero h = refl
one-there (suc zero) h = refl
one-there (suc (suc zero)) h = refl
one-there (suc (suc (suc zero))) h = refl
one-there (suc (suc (suc (suc zero)))) h = refl
one-there (suc (suc (suc (suc (suc k))))) h = absurd (omega arith)

-- with 1 behind the low coefficients
lead-front : (m : ℕ) (p : List ℕ) {f : List ℕ} → length p ≤ 4 → f ≡ copied p ones → take (length p + 1) f ≡ monic (G m) p
unfolding copied
lead-front m p h e = ap (take (length p + 1)) e ∙ take-append-add p (drop (length p) ones) 1 ∙ ap (λ t. p ++ t) (one-there (length p) h)

module _ {m : ℕ} {p xs out f : List ℕ} (g : Guessable m p out) (n : length p ≡ length xs) (four : length p ≤ 4) (e : f ≡ copied p ones) where
  -- what the trial asks
  pub check-asks : Triable m (take (length p + 1) f) xs
  check-asks = record { low = p; small = g.small; whole = lead-front m p four e; many = n }

  -- what it gives
  pub check-out : (rest : List ℕ) {y : List ℕ} → roots_at m (take (length p + 1) f) ≡ xs → y ≡ xs → GuessedIn m p (y ++ rest) (length p)
  check-out rest {y} r w =
      let s : roots_at m (monic (G m) p) ≡ xs = ap (roots_at m) (sym (lead-front m p four e)) ∙ r in
      record {
        degree = refl;
        all = record { count = n ∙ sym (ap length s); front = take_at y rest (length p) (ap length w ∙ sym n) ∙ w ∙ sym s };
      }

-- ---- the cubic

module _ {m : ℕ} {ls ts hs p out o : List ℕ} (l : Lent m ls ts) (s : SmallSolvable m hs p out) (h : 3 ≤ length p) where
  -- guessed
  pub guess-out : {k : ℕ} → GuessedIn m p o k → RootsOut m p k o
  guess-out g = front_out p l.degree s.small refl g.all

  -- not guessed
  pub guess-not : length o ≡ length out → SmallSolvable m hs p o × (2 < length p)
  guess-not e = (record { halves = s.halves; small = s.small; low = s.low; room = omega (arith, s.room) }, omega arith)
