-- Euclid's loop on two slices: what the code has done at each place.
--   reduce-row, reduce-asks             what the row and the division ask
--   reduce-short, reduce-long           the remainder stands at the front
--   monic_low-some, monic_low-none              what `monic_low` holds
--   turn-asks, turn_below, turn_is      one division
--   turn_on, turn-same, turn_last       what it leaves for the next, that the greatest common divisor is the same, and
--                                       what it is where the remainder is 0
--   Looping, loop-from, loop-asks, loop-on, loop_ended, loop-room, loop-fits, loop-copied   the loop
--   common-asks, common-is              the loop on copies
-- Assumes nothing.
use mathlib.Core.Path.{◌≡◌, refl, sym, ap, ap₂, ◌∙◌, subst}
use mathlib.Core.Logic.{◌≢◌}
use mathlib.Core.Option.{Option, none, some, Option-elim}
use mathlib.Core.List.{List, [], ◌∷◌, ◌++◌, append_assoc}
use Prim.Native.Nat.{ℕ, zero, suc, ◌+◌, ◌-◌, ◌^◌, ◌≤◌, ◌<◌}
use native.Mathlib.Numerals.{add-one}
use native.Mathlib.Omega.{arith}
use lib.ListN.{length, take, drop, set, replicate, length-set, length-append, length-map, length-drop}
use lib.Seq.{length-take-le, length_front, take_at, take-append-le, take-suc-set, take-take}
use Rattle.algebra.specs.Polynomial.{Below}
use Rattle.algebra.specs.Routines.{monic, rem, norm, gcd}
use Rattle.algebra.proofs.Lengths.{length-rem, gcd-unroll}
use Rattle.algebra.proofs.StaysBelow.{rem_below, norm-below, monic-below}
use Rattle.field.specs.Tables.{log_of}
use Rattle.field.specs.Field.{field_at, G}
use Rattle.slices.specs.Lists.{copied}
use Rattle.slices.proofs.Lists.{copied-front, length-copied}
use Rattle.poly.specs.Lent.{Lent, LogRow, log_row, held}
use Rattle.poly.specs.Asking.{Loggable, Divisible}
use Rattle.poly.specs.Division.{divided}
use Rattle.poly.specs.Monic.{monic_low, MadeMonic}
use Rattle.poly_gcd.specs.Asking.{Turnable, Reducing, Commonable}
use Rattle.poly_gcd.specs.Euclid.{LeftIn, EuclidTurned, GcdIs}
use Rattle.input.specs.Limit.{limit}
use Rattle.poly.proofs.Logs.{numbers_of, held-row, row-is-row}
use Rattle.poly.proofs.Divisions.{rem-short, divided-front, length-divided}

-- ---- `reduce`

module _ {m : ℕ} {ls ts p row b : List ℕ} {k : ℕ} (l : Lent m ls ts) (g : Reducing m p row b k) where
  pub reduce-row : Loggable m p (take (length p) row)
  reduce-row = record { small = g.small-p; room = sym (length-take-le (length p) row g.room_row) }

  -- the row that was written
  written : {y : List ℕ} → y ≡ log_row m p → take (length p) (y ++ drop (length p) row) ≡ log_row m p
  written {y} e = take_at y (drop (length p) row) (length p) (ap length e ∙ length-map p (log_of (field_at m))) ∙ e

  pub reduce-asks : {y : List ℕ} → y ≡ log_row m p → length p ≤ k → Divisible m (take (length p) (y ++ drop (length p) row)) (take k b)
  reduce-asks {y} e h = record {
    logs = subst (LogRow m) (sym (written e)) (row-is-row l p g.small-p);
    small = g.small_b;
    room = omega (arith, ap length (written e), length-map p (log_of (field_at m)), length-take-le k b g.within);
  }

  -- zeros behind a shorter polynomial
  pub reduce-short : {z : List ℕ} → k < length p → z ≡ replicate (length (take (length p - k) (drop k b))) 0
      → LeftIn m p b k (take k b ++ (z ++ drop (length p - k) (drop k b)))
  reduce-short {z} h e =
      let n : ℕ = length p in
      let room = g.room-b in
      let fits : length (take k b) ≡ k = length-take-le k b g.within in
      let part : length (take (n - k) (drop k b)) ≡ n - k = length-take-le (n - k) (drop k b) (omega (arith, length-drop k b)) in
      let zeros : z ≡ replicate (n - length (take k b)) 0 = e ∙ ap (λ i. replicate i 0) (part ∙ ap (λ i. n - i) (sym fits)) in
      let s : rem (G m) p (take k b) ≡ take k b ++ z =
      rem-short l p (take k b) (omega arith) ∙ ap (λ u. take k b ++ u) (sym zeros) in
      let long : length (take k b ++ z) ≡ n = ap length (sym s) ∙ length-rem (G m) p (take k b) in
      let rest : length (drop (n - k) (drop k b)) ≡ length b - n = length-drop (n - k) (drop k b) ∙ omega (arith, length-drop k b) in
      let shape : take k b ++ (z ++ drop (n - k) (drop k b)) ≡ (take k b ++ z) ++ drop (n - k) (drop k b) =
      sym (append_assoc (take k b) z (drop (n - k) (drop k b))) in
      record {
        low = ap (take n) shape ∙ take_at (take k b ++ z) (drop (n - k) (drop k b)) n long ∙ sym s;
        long = ap length shape ∙ length-append (take k b ++ z) (drop (n - k) (drop k b)) ∙ omega arith;
      }

  -- the front of the division
  pub reduce-long : {y z : List ℕ} → y ≡ log_row m p → length p ≤ k → z ≡ divided m (held m (take (length p) (y ++ drop (length p) row))) (take k b)
      → LeftIn m p b k (z ++ drop k b)
  reduce-long {y} {z} e h d =
      let whole : held m (take (length p) (y ++ drop (length p) row)) ≡ p = ap (held m) (written e) ∙ held-row l p g.small-p in
      let f : z ≡ divided m p (take k b) = d ∙ ap (λ u. divided m u (take k b)) whole in
      let fits : length (take k b) ≡ k = length-take-le k b g.within in
      let long : length z ≡ k = ap length f ∙ length-divided l p (take k b) (omega arith) ∙ fits in
      record {
        low = take-append-le (length p) z (drop k b) (omega arith) ∙ ap (take (length p)) f ∙ divided-front m p (take k b) refl;
        long = length_front b z k (long ∙ sym fits);
      }

-- ---- `turn`

-- what is behind the front does not matter
front-append : (j : ℕ) (y z : List ℕ) → j ≤ length y → monic_low j (y ++ z) ≡ monic_low j y
unfolding monic_low
front-append zero y z h = refl
front-append (suc k) y z h = ap some (take-append-le k y z (omega arith))

-- something is left
pub monic_low-some : (j : ℕ) (y : List ℕ) → j ≢ 0 → monic_low j y ≡ some (take (j - 1) y)
unfolding monic_low
monic_low-some zero y h = absurd (h refl)
monic_low-some (suc k) y h = let e : k ≡ suc k - 1 = omega arith in ap (λ i. some (take i y)) e

-- nothing is left
pub monic_low-none : (j : ℕ) (y : List ℕ) → j ≡ 0 → monic_low j y ≡ none
unfolding monic_low
monic_low-none zero y h = refl
monic_low-none (suc k) y h = absurd (let b : ⊥ = omega arith in b)

module _ {m : ℕ} {ls ts a : List ℕ} {n : ℕ} {b : List ℕ} {k : ℕ} (l : Lent m ls ts) (t : Turnable m a n b k) where
  -- the divisor is as long as is said
  long-p : length (take n a) ≡ n
  long-p = length-take-le n a (omega (arith, t.room-a))

  pub turn-asks : {row : List ℕ} → limit ≤ length row → Reducing m (take n a) row b k
  turn-asks r = record {
    room_row = omega (arith, t.few, long-p);
    room-b = omega (arith, t.room-b, long-p);
    within = t.within;
    small-p = t.small-a;
    small_b = t.small_b;
  }

  -- the remainder
  abbrev left : List ℕ
  left = rem (G m) (take n a) (take k b)

  small-left : Below (2 ^ m) left
  small-left = rem_below (numbers_of l) (take n a) (take k b) t.small-a t.small_b

  -- where it stands
  stands : {b₁ : List ℕ} → LeftIn m (take n a) b k b₁ → take n b₁ ≡ left
  stands {b₁} e = ap (λ i. take i b₁) (sym long-p) ∙ e.low

  pub turn_below : {b₁ : List ℕ} → LeftIn m (take n a) b k b₁ → Below (2 ^ m) (take n b₁)
  turn_below e = subst (Below (2 ^ m)) (sym (stands e)) small-left

  pub turn_is : {b₁ y : List ℕ} {j : ℕ} → LeftIn m (take n a) b k b₁ → MadeMonic m (take n b₁) j y → EuclidTurned m a n b k j (set a n 1) (y ++ drop n b₁)
  turn_is {b₁} {y} {j} e d =
      let room = t.room-b in
      let same = e.long in
      let long : length (take n b₁) ≡ n = length-take-le n b₁ (omega arith) in
      record {
        fewer = omega (arith, d.within);
        long-a = length-set a n 1;
        long-b = length_front b₁ y n d.long ∙ same;
        lead = ap (λ i. take i (set a n 1)) (add-one n) ∙ take-suc-set a n 1 t.room-a;
        made = ap₂ (λ i u. norm (G m) i u) (sym long) (sym (stands e)) ∙ d.made ∙ sym (front-append j y (drop n b₁) (omega (arith, d.within, d.long)));
      }

  -- ---- what one division leaves

  module _ {j : ℕ} {a₁ b₁ : List ℕ} (d : EuclidTurned m a n b k j a₁ b₁) where
    -- Euclid's step
    step : gcd (G m) (take n a) (take k b) ≡ Option-elim (monic_low j b₁) (take n a) (λ r. gcd (G m) r (monic (G m) (take n a)))
    unfolding Option-elim
    step =
        gcd-unroll (G m) (take n a) (take k b)
        ∙ ap (λ (o : Option (List ℕ)). Option-elim o (take n a) (λ r. gcd (G m) r (monic (G m) (take n a)))) (ap (λ i. norm (G m) i left) long-p ∙ d.made)

    -- the divisor stands where it stood
    turn-kept : take n a₁ ≡ take n a
    turn-kept = sym (take-take n (n + 1) a₁ (omega arith)) ∙ ap (take n) d.lead ∙ take_at (take n a) (1 ∷ []) n long-p

    -- the remainder is 0
    turn_last : j ≡ 0 → take n a₁ ≡ gcd (G m) (take n a) (take k b)
    unfolding Option-elim
    turn_last z =
        turn-kept ∙ sym (step ∙ ap (λ (o : Option (List ℕ)). Option-elim o (take n a) (λ r. gcd (G m) r (monic (G m) (take n a)))) (monic_low-none j b₁ z))

    module _ (h : j ≢ 0) where
      -- it goes on with the remainder and the divisor
      turn-same : gcd (G m) (take (j - 1) b₁) (take (n + 1) a₁) ≡ gcd (G m) (take n a) (take k b)
      unfolding Option-elim
      turn-same =
          ap (gcd (G m) (take (j - 1) b₁)) d.lead
          ∙ sym (step ∙ ap (λ (o : Option (List ℕ)). Option-elim o (take n a) (λ r. gcd (G m) r (monic (G m) (take n a)))) (monic_low-some j b₁ h))

      pub turn_on : Turnable m b₁ (j - 1) a₁ (n + 1)
      turn_on = record {
        few = omega (arith, d.fewer, t.few);
        room-a = omega (arith, d.fewer, d.long-b, t.room-b);
        room-b = omega (arith, d.fewer, d.long-a, t.room-a);
        within = omega (arith, d.long-a, t.room-a);
        small-a = norm-below (numbers_of l) n left small-left (d.made ∙ monic_low-some j b₁ h);
        small_b = subst (Below (2 ^ m)) (sym d.lead) (monic-below (numbers_of l) (take n a) t.small-a);
      }

-- ---- `euclid`

-- the greatest common divisor is what it was
pub record Looping (m : ℕ) (ls ts row₀ a₀ : List ℕ) (n₀ : ℕ) (b₀ : List ℕ) (k₀ : ℕ) (row a b : List ℕ) (n k : ℕ) : Type 0 where
  pub tables : Lent m ls ts
  pub given : Turnable m a n b k
  pub fewer : n ≤ n₀
  pub inside : n₀ ≤ length a₀
  pub long-row : length row ≡ length row₀
  pub long-a : length a ≡ length a₀
  pub long-b : length b ≡ length b₀
  pub same : gcd (G m) (take n a) (take k b) ≡ gcd (G m) (take n₀ a₀) (take k₀ b₀)

pub loop-from : {m : ℕ} {ls ts a : List ℕ} {n : ℕ} {b : List ℕ} {k : ℕ} (row : List ℕ) → Lent m ls ts → Turnable m a n b k → Looping m ls ts row a n b k row a b n k
loop-from row l t =
    record { tables = l; given = t; fewer = omega arith; inside = omega (arith, t.room-a); long-row = refl; long-a = refl; long-b = refl; same = refl }

module _ {m : ℕ} {ls ts row₀ a₀ : List ℕ} {n₀ : ℕ} {b₀ : List ℕ} {k₀ : ℕ} {row a b : List ℕ} {n k : ℕ} (s : Looping m ls ts row₀ a₀ n₀ b₀ k₀ row a b n k)
    {j : ℕ} {a₁ b₁ : List ℕ} (d : EuclidTurned m a n b k j a₁ b₁) where
  -- the divisor is as long as is said
  long-first : length (take n₀ a₀) ≡ n₀
  long-first = length-take-le n₀ a₀ s.inside

  pub loop_ended : j ≡ 0 → GcdIs m (take n₀ a₀) (take k₀ b₀) n a₁
  loop_ended z = record { count = omega (arith, s.fewer, long-first); low = turn_last s.tables s.given d z ∙ s.same }

  module _ (h : j ≢ 0) where
    pub loop-asks : Turnable m b₁ (j - 1) a₁ (n + 1)
    loop-asks = turn_on s.tables s.given d h

    module _ {i : ℕ} {a₂ b₂ : List ℕ} (e : EuclidTurned m b₁ (j - 1) a₁ (n + 1) i b₂ a₂) where
      -- the divisor is within both slices
      pub loop-room : j - 1 ≤ length b₂
      loop-room = omega (arith, e.long-a, loop-asks.room-a)

      pub loop-fits : j - 1 ≤ length a₂
      loop-fits = omega (arith, e.long-b, loop-asks.room-b)

      pub loop-copied : (rest : List ℕ) {a₃ : List ℕ} → i ≡ 0 → a₃ ≡ take (j - 1) b₂ → GcdIs m (take n₀ a₀) (take k₀ b₀) (j - 1) (a₃ ++ rest)
      loop-copied rest {a₃} z f =
          record {
            count = omega (arith, d.fewer, s.fewer, long-first);
            low = take_at a₃ rest (j - 1) (ap length f ∙ length-take-le (j - 1) b₂ loop-room) ∙ f ∙ turn_last s.tables loop-asks e z
                ∙ turn-same s.tables s.given d h ∙ s.same;
          }

      pub loop-on : {row₂ : List ℕ} → i ≢ 0 → length row₂ ≡ length row → Looping m ls ts row₀ a₀ n₀ b₀ k₀ row₂ a₂ b₂ (i - 1) (j - 1 + 1)
      loop-on {row₂} y r = record {
        tables = s.tables;
        given = turn_on s.tables loop-asks e y;
        fewer = omega (arith, e.fewer, d.fewer, s.fewer);
        inside = s.inside;
        long-row = r ∙ s.long-row;
        long-a = e.long-b ∙ d.long-a ∙ s.long-a;
        long-b = e.long-a ∙ d.long-b ∙ s.long-b;
        same = turn-same s.tables loop-asks e y ∙ turn-same s.tables s.given d h ∙ s.same;
      }

-- ---- `gcd`

module _ {m : ℕ} {p t g : List ℕ} (c : Commonable m p t g) {b g₁ : List ℕ} (e : b ≡ copied t (replicate (suc limit) 0)) (f : g₁ ≡ copied p g) where
  -- both stand in front
  front-t : take (length t) b ≡ t
  front-t = ap (take (length t)) e ∙ copied-front t (replicate (suc limit) 0) refl

  front-p : take (length p) g₁ ≡ p
  front-p = ap (take (length p)) f ∙ copied-front p g refl

  -- in rooms that are as long as they were
  long-t : length b ≡ suc limit
  long-t = ap length e ∙ length-copied t (replicate (suc limit) 0) (omega (arith, c.few-t))

  long-g : length g₁ ≡ length g
  long-g = ap length f ∙ length-copied p g (omega (arith, c.room))

  pub common-asks : Turnable m g₁ (length p) b (length t)
  common-asks = record {
    few = c.few-p;
    room-a = omega (arith, long-g, c.room);
    room-b = omega (arith, long-t, c.few-p);
    within = omega (arith, long-t, c.few-t);
    small-a = subst (Below (2 ^ m)) (sym front-p) c.small-p;
    small_b = subst (Below (2 ^ m)) (sym front-t) c.small-t;
  }

  pub common-is : {n : ℕ} {g₂ : List ℕ} → GcdIs m (take (length p) g₁) (take (length t) b) n g₂ → GcdIs m p t n g₂
  common-is {n} {g₂} i = subst (λ u. GcdIs m p u n g₂) front-t (subst (λ u. GcdIs m u (take (length t) b) n g₂) front-p i)
