-- Division in place, from the top: what holds at each turn.
--   rem-short                               the remainder of a polynomial that is no longer than p: itself, and zeros
--   divided-front, divided-behind           the front of a division is the remainder, and the quotient stands behind
--                                           it
--   length-divided, divided-below           as long as f, and no larger
--   divided-start, divided-on               before the first digit, and one digit more
--   Dividing                                from k on the division is done
--   dividing-from, dividing-asks, dividing-on, dividing-end   the start, what the kernel asks, a turn, the end
-- Assumes nothing.
use mathlib.Core.Path.{◌≡◌, refl, sym, ap, ap₂, ◌∙◌, subst}
use mathlib.Core.List.{List, [], ◌∷◌, ◌++◌, map, append-nil, append_assoc}
use Prim.Native.Nat.{ℕ, zero, suc, ◌+◌, ◌-◌, ◌^◌, ◌≤◌, ◌<◌}
use native.Mathlib.Nat.{zero-add, suc-add, not-suc-le-zero, le_of_suc-le-suc}
use native.Mathlib.Omega.{arith}
use lib.Bits.{bit_xor}
use lib.ListN.{length, get_or, take, drop, replicate, length-append, length-drop, length-map, length-replicate, get_or-replicate, take-append-drop}
use lib.Seq.{take-length, length-take-le, take-suc, drop-cons, take_at, drop_at, get_or-drop, take-append-le}
use Rattle.algebra.specs.Polynomial.{add, Below}
use Rattle.algebra.specs.Routines.{rem, quo, quotient_digit, shift_in}
use Rattle.algebra.proofs.Lengths.{length-rem, length-quo}
use Rattle.algebra.proofs.StaysBelow.{append-below, take_below, drop-below, rem_below, quo-below, below_at}
use Rattle.field.specs.Field.{field_at, G}
use Rattle.field.proofs.Ring.{ring}
use Rattle.poly.specs.Lent.{Lent, held}
use Rattle.poly.specs.Asking.{Addable, Divisible}
use Rattle.poly.specs.Division.{divided}
use Rattle.poly.proofs.Logs.{field_of, numbers_of, held_below, held-long}
use Rattle.poly.proofs.Sums.{add_none}
use Rattle.poly.proofs.Parts.{part-rest, part_none}
use Rattle.poly.proofs.RowLoops.{added}

-- k zeros
abbrev zeros : ℕ → List ℕ
zeros k = replicate k 0

-- all zeros but the last, and the last
zeros-take : (f : List ℕ) (k : ℕ) → take (length f + k) (f ++ zeros (suc k)) ≡ f ++ zeros k
zeros-take [] k = ap (λ n. take n (zeros (suc k))) (zero-add k) ∙ go k
  where
    go : (k : ℕ) → take k (zeros (suc k)) ≡ zeros k
    go zero = refl
    go (suc k) = ap (λ u. 0 ∷ u) (go k)
zeros-take (c ∷ f) k = ap (λ n. take n (c ∷ f ++ zeros (suc k))) (suc-add (length f) k) ∙ ap (λ u. c ∷ u) (zeros-take f k)

zeros-last : (f : List ℕ) (k : ℕ) → get_or (f ++ zeros (suc k)) (length f + k) 0 ≡ 0
zeros-last [] k = ap (λ n. get_or (zeros (suc k)) n 0) (zero-add k) ∙ get_or-replicate (suc k) k 0 0 (omega arith)
zeros-last (c ∷ f) k = ap (λ n. get_or (c ∷ f ++ zeros (suc k)) n 0) (suc-add (length f) k) ∙ zeros-last f k

-- a sum with a list that is no longer than the front
add-front : (m : ℕ) (x y q : List ℕ) → length q ≤ length x → add (G m) (x ++ y) q ≡ add (G m) x q ++ y
unfolding add
add-front m [] [] [] h = refl
add-front m [] (d ∷ y) [] h = refl
add-front m (c ∷ x) y [] h = refl
add-front m [] y (e ∷ q) h = absurd (not-suc-le-zero h)
add-front m (c ∷ x) y (e ∷ q) h = ap (λ u. bit_xor c e ∷ u) (add-front m x y q (le_of_suc-le-suc h))

module _ {m : ℕ} {ls ts : List ℕ} (l : Lent m ls ts) where
  -- the remainder of a polynomial that is no longer than p: nothing is taken back
  pub rem-short : (p f : List ℕ) → length f ≤ length p → rem (G m) p f ≡ f ++ replicate (length p - length f) 0
  unfolding rem shift_in quotient_digit
  rem-short p [] h = let e : length p - 0 ≡ length p = omega arith in ap (λ n. replicate n 0) (sym e)
  rem-short p (c ∷ f) h =
      let k : ℕ = length p - suc (length f) in
      let e : length p - length f ≡ suc k = omega arith in
      let n : length p ≡ length (c ∷ f) + k = omega arith in
      let s : rem (G m) p f ≡ f ++ replicate (suc k) 0 = rem-short p f (omega arith) ∙ ap (λ n. f ++ replicate n 0) e in
      let none : quotient_digit (G m) p c (rem (G m) p f) ≡ 0 = ap₂ (λ u i. get_or (c ∷ u) i 0) s n ∙ zeros-last (c ∷ f) k in
      let front : take (length p) (c ∷ rem (G m) p f) ≡ c ∷ f ++ replicate k 0 = ap₂ (λ u i. take i (c ∷ u)) s n ∙ zeros-take (c ∷ f) k in
      let long : length p ≤ length (c ∷ f ++ replicate k 0) = omega (arith, length-append (c ∷ f) (replicate k 0), length-replicate {A = ℕ} k 0) in
      ap₂ (λ u t. add (G m) u (map ((G m).mul t) p)) front none ∙ add_none m (ring (field_at m) (field_of l).monic).mul-zero-l (c ∷ f ++ replicate k 0) p long

  -- as long as f
  pub length-divided : (p f : List ℕ) → length p ≤ length f → length (divided m p f) ≡ length f
  unfolding divided
  length-divided p f h =
      omega (
        arith,
        length-append (rem (G m) p f) (take (length f - length p) (quo (G m) p f)),
        length-rem (G m) p f,
        length-take-le (length f - length p) (quo (G m) p f) (omega (arith, length-quo (G m) p f)),
      )

  divided-below : (p f : List ℕ) → Below (2 ^ m) p → Below (2 ^ m) f → Below (2 ^ m) (divided m p f)
  unfolding divided
  divided-below p f b h =
      append-below (2 ^ m) (rem (G m) p f) (take (length f - length p) (quo (G m) p f)) (rem_below (numbers_of l) p f b h)
      (take_below (2 ^ m) (length f - length p) (quo (G m) p f) (quo-below (numbers_of l) p f b h))

  -- before the first digit
  divided-start : (p f : List ℕ) → length f ≡ length p → divided m p f ≡ f
  unfolding divided
  divided-start p f e =
      let z : length f - length p ≡ 0 = omega arith in
      let y : length p - length f ≡ 0 = omega arith in
      ap₂ (λ u n. u ++ take n (quo (G m) p f)) (rem-short p f (omega arith) ∙ ap (λ n. f ++ replicate n 0) y ∙ append-nil f) z ∙ append-nil f

  -- the digit stands where it fell out
  split : (p : List ℕ) (c : ℕ) (f : List ℕ) → length p ≤ length f
      → c ∷ divided m p f ≡ take (length p) (c ∷ rem (G m) p f) ++ quotient_digit (G m) p c (rem (G m) p f) ∷ take (length f - length p) (quo (G m) p f)
  unfolding divided quotient_digit
  split p c f h =
      let r : List ℕ = rem (G m) p f in
      let q : List ℕ = take (length f - length p) (quo (G m) p f) in
      let n : length (c ∷ r) ≡ suc (length p) = ap suc (length-rem (G m) p f) in
      ap (λ u. u ++ q) (sym (take-length (c ∷ r)) ∙ ap (λ i. take i (c ∷ r)) n ∙ take-suc (c ∷ r) (length p) 0 (omega arith))
      ∙ append_assoc (take (length p) (c ∷ r)) (get_or (c ∷ r) (length p) 0 ∷ []) q

  -- one digit more
  divided-on : (p : List ℕ) (c : ℕ) (f : List ℕ) → length p ≤ length f
      → add (G m) (c ∷ divided m p f) (map ((G m).mul (get_or (c ∷ divided m p f) (length p) 0)) p) ≡ divided m p (c ∷ f)
  unfolding rem shift_in quo divided
  divided-on p c f h =
      let r : List ℕ = rem (G m) p f in
      let q : List ℕ = take (length f - length p) (quo (G m) p f) in
      let d : ℕ = quotient_digit (G m) p c r in
      let x : List ℕ = take (length p) (c ∷ r) in
      let n : length x ≡ length p = length-take-le (length p) (c ∷ r) (omega (arith, length-rem (G m) p f)) in
      let t : get_or (c ∷ divided m p f) (length p) 0 ≡ d = ap (λ u. get_or u (length p) 0) (split p c f h) ∙ seam x d q (length p) n in
      let e : length (c ∷ f) - length p ≡ suc (length f - length p) = omega arith in
      ap₂ (λ u v. add (G m) u (map ((G m).mul v) p)) (split p c f h) t ∙ add-front m x (d ∷ q) (map ((G m).mul d) p) (omega (arith, length-map p ((G m).mul d)))
      ∙ ap (λ i. add (G m) x (map ((G m).mul d) p) ++ take i (d ∷ quo (G m) p f)) (sym e)
    where
      seam : (x : List ℕ) (d : ℕ) (q : List ℕ) (n : ℕ) → length x ≡ n → get_or (x ++ d ∷ q) n 0 ≡ d
      seam [] d q zero e = refl
      seam [] d q (suc n) e = absurd (let b : ⊥ = omega arith in b)
      seam (y ∷ x) d q zero e = absurd (let b : ⊥ = omega arith in b)
      seam (y ∷ x) d q (suc n) e = seam x d q n (omega arith)

-- the front of a division is the remainder, and the quotient stands behind it
pub divided-front : (m : ℕ) (p f : List ℕ) {n : ℕ} → length p ≡ n → take n (divided m p f) ≡ rem (G m) p f
unfolding divided
divided-front m p f {n} e = take_at (rem (G m) p f) (take (length f - length p) (quo (G m) p f)) n (length-rem (G m) p f ∙ e)

pub divided-behind : (m : ℕ) (p f : List ℕ) {n : ℕ} → length p ≡ n → drop n (divided m p f) ≡ take (length f - length p) (quo (G m) p f)
unfolding divided
divided-behind m p f {n} e = drop_at (rem (G m) p f) (take (length f - length p) (quo (G m) p f)) n (length-rem (G m) p f ∙ e)

-- ---- the loop

-- from k on the division is done
pub record Dividing (m : ℕ) (ls ts row f₀ : List ℕ) (n : ℕ) (f : List ℕ) (k : ℕ) : Type 0 where
  pub tables : Lent m ls ts
  pub given : Divisible m row f₀
  pub size : n ≡ length row
  pub within : k + n ≤ length f₀
  pub long : length f ≡ length f₀
  pub done : f ≡ take k f₀ ++ divided m (held m row) (drop k f₀)

pub dividing-from : {m : ℕ} {ls ts row f : List ℕ} → Lent m ls ts → Divisible m row f → Dividing m ls ts row f (length row) f (length f - length row)
dividing-from {m} {ls} {ts} {row} {f} l g =
    let k : ℕ = length f - length row in
    let room = g.room in
    record {
      tables = l;
      given = g;
      size = refl;
      within = omega arith;
      long = refl;
      done = sym (ap (λ u. take k f ++ u) (divided-start l (held m row) (drop k f) (length-drop k f ∙ omega (arith, held-long m row))) ∙ take-append-drop k f);
    }

module _ {m : ℕ} {ls ts row f₀ : List ℕ} {n : ℕ} {f : List ℕ} {k : ℕ} (s : Dividing m ls ts row f₀ n f k) where
  -- the polynomial to divide by
  p : List ℕ
  p = held m row

  -- what stands from k - 1 on
  behind : 0 < k → drop (k - 1) f ≡ get_or f₀ (k - 1) 0 ∷ divided m p (drop k f₀)
  unfolding p
  behind h =
      let j : ℕ = k - 1 in
      let w = s.within in
      let e : k ≡ suc j = omega arith in
      let cut : take k f₀ ≡ take j f₀ ++ get_or f₀ j 0 ∷ [] = ap (λ i. take i f₀) e ∙ take-suc f₀ j 0 (omega arith) in
      let n : length (take j f₀) ≡ j = length-take-le j f₀ (omega arith) in
      ap (drop j) (s.done ∙ ap (λ u. u ++ divided m p (drop k f₀)) cut ∙ append_assoc (take j f₀) (get_or f₀ j 0 ∷ []) (divided m p (drop k f₀)))
      ∙ drop_at (take j f₀) (get_or f₀ j 0 ∷ divided m p (drop k f₀)) j n

  before : 0 < k → take (k - 1) f ≡ take (k - 1) f₀
  before h =
      let j : ℕ = k - 1 in
      let w = s.within in
      let e : k ≡ suc j = omega arith in
      ap (take j) s.done ∙ take-append-le j (take k f₀) (divided m (held m row) (drop k f₀)) (omega (arith, length-take-le k f₀ (omega arith)))
      ∙ ap (λ i. take j (take i f₀)) e ∙ shorter j f₀
    where
      shorter : (j : ℕ) (l : List ℕ) → take j (take (suc j) l) ≡ take j l
      shorter zero l = refl
      shorter (suc j) [] = refl
      shorter (suc j) (x ∷ l) = ap (λ u. x ∷ u) (shorter j l)

  -- what the kernel asks
  pub dividing-asks : 0 < k → Addable m (get_or f (k - 1 + n) 0) row (take (length f - (k - 1)) (drop (k - 1) f))
  dividing-asks h =
      let w = s.within in
      let z = s.size in
      record {
        element = subst (λ u. get_or u (k - 1 + n) 0 < 2 ^ m) (sym s.done)
            (below_at (2 ^ m) (take k f₀ ++ divided m (held m row) (drop k f₀)) all (k - 1 + n) (omega (arith, ap length s.done, s.long)));
        logs = s.given.logs;
        room = rw part-rest (omega (arith, length-drop (k - 1) f, s.long));
      }
    where
      all : Below (2 ^ m) (take k f₀ ++ divided m (held m row) (drop k f₀))
      all =
          append-below (2 ^ m) (take k f₀) (divided m (held m row) (drop k f₀)) (take_below (2 ^ m) k f₀ s.given.small)
          (divided-below s.tables (held m row) (drop k f₀) (held_below s.tables row) (drop-below (2 ^ m) k f₀ s.given.small))

  -- a turn divides by one digit more
  pub dividing-on : {y : List ℕ} → 0 < k → y ≡ added m (get_or f (k - 1 + n) 0) row (take (length f - (k - 1)) (drop (k - 1) f))
      → Dividing m ls ts row f₀ n (take (k - 1) f ++ (y ++ drop (length f - (k - 1)) (drop (k - 1) f))) (k - 1)
  unfolding p
  dividing-on {y} h e =
      let j : ℕ = k - 1 in
      let w = s.within in
      let z = s.size in
      let back : suc j ≡ k = omega arith in
      let hl : length p ≡ n = held-long m row ∙ sym z in
      let room : length p ≤ length (drop k f₀) = omega (arith, length-drop k f₀) in
      let here : drop j f₀ ≡ get_or f₀ j 0 ∷ drop k f₀ = drop-cons f₀ j 0 (omega arith) ∙ ap (λ i. get_or f₀ j 0 ∷ drop i f₀) back in
      let t : get_or f (j + n) 0 ≡ get_or (get_or f₀ j 0 ∷ divided m p (drop k f₀)) (length p) 0 =
      sym (get_or-drop j f n 0) ∙ ap₂ (λ u i. get_or u i 0) (behind h) (sym hl) in
      let d : y ≡ divided m p (drop j f₀) =
      e ∙ ap₂ (λ v u. add (G m) u (map ((G m).mul v) p)) t (part-rest j f ∙ behind h) ∙ divided-on s.tables p (get_or f₀ j 0) (drop k f₀) room ∙ ap (divided m p) (sym here) in
      let done : take j f ++ (y ++ drop (length f - j) (drop j f)) ≡ take j f₀ ++ divided m p (drop j f₀) =
      ap₂ (λ u v. u ++ v) (before h) (part_none j f y ∙ d) in
      record {
        tables = s.tables;
        given = s.given;
        size = s.size;
        within = omega arith;
        long = ap length done
            ∙ omega (
              arith,
              length-append (take j f₀) (divided m p (drop j f₀)),
              length-take-le j f₀ (omega arith),
              length-divided s.tables p (drop j f₀) (omega (arith, length-drop j f₀)),
              length-drop j f₀,
            );
        done = done;
      }

  pub dividing-end : k ≤ 0 → f ≡ divided m (held m row) f₀
  dividing-end h = let z : k ≡ 0 = omega arith in s.done ∙ ap (λ i. take i f₀ ++ divided m (held m row) (drop i f₀)) z
