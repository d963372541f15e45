-- Elements tried one after the other: what the loop of the plain search keeps.
--   tried-note  one element more, as `note` leaves it;  tried-block  four elements more
--   tried-from, tried-hit, tried-miss, tried-end   its start, its turns and its end
-- Assumes nothing.
use mathlib.Core.Path.{◌≡◌, refl, sym, ap, ap₂, ◌∙◌, subst}
use mathlib.Core.Bool.{Bool, true, false, cond}
use mathlib.Core.List.{List, [], ◌∷◌, ◌++◌}
use Prim.Native.Nat.{ℕ, zero, suc, ◌+◌, ◌-◌, ◌%◌, ◌^◌, ◌≤◌, ◌<◌}
use native.Mathlib.Nat.{add-zero, add-suc, suc-add, zero-add}
use native.Mathlib.Numerals.{add-one}
use native.Mathlib.Decide.{ℕ_discrete}
use native.Mathlib.Omega.{arith}
use borrow.Author.Tests.{eq-eqb, ne_eqb}
use lib.Dec.{lit≤}
use lib.ListN.{length, drop, set, length-append, length-set}
use Rattle.algebra.specs.Trial.{up_from, keep}
use Rattle.algebra.specs.Polynomial.{eval, roots_of}
use Rattle.field.proofs.Known.{by_row, listed}
use Rattle.field.specs.Field.{roots_at, G}
use Rattle.slices.specs.Lists.{copied}
use Rattle.poly.specs.Lent.{Lent}
use Rattle.find_search.specs.Searching.{SearchedOut, is_root_at, below, Tried, Noted}

-- one number more at the end
up_from-last : (k n : ℕ) → up_from k (suc n) ≡ up_from k n ++ (k + n) ∷ []
unfolding up_from
up_from-last k zero = ap (λ (x : ℕ). x ∷ []) (sym (add-zero k))
up_from-last k (suc n) =
    ap (λ (l : List ℕ). k ∷ l) (up_from-last (suc k) n ∙ ap (λ (x : ℕ). up_from (suc k) n ++ x ∷ []) (suc-add k n ∙ sym (add-suc k n)))

keep_append : (t : ℕ → Bool) (a b : List ℕ) → keep t (a ++ b) ≡ keep t a ++ keep t b
keep_append t [] b = refl
keep_append t (x ∷ a) b = go (t x) (keep_append t a b)
  where
    go : (c : Bool) → keep t (a ++ b) ≡ keep t a ++ keep t b
        → cond c (x ∷ keep t (a ++ b)) (keep t (a ++ b)) ≡ cond c (x ∷ keep t a) (keep t a) ++ keep t b
    go true e = ap (λ (l : List ℕ). x ∷ l) e
    go false e = e

-- what passes below n, with n tried too
kept-hit : (t : ℕ → Bool) (n : ℕ) → t n ≡ true → keep t (up_from 0 (suc n)) ≡ keep t (up_from 0 n) ++ n ∷ []
kept-hit t n h = ap (keep t) (up_from-last 0 n ∙ ap (λ (x : ℕ). up_from 0 n ++ x ∷ []) (zero-add n)) ∙ keep_append t (up_from 0 n) (n ∷ []) ∙ rw h refl

kept-miss : (t : ℕ → Bool) (n : ℕ) → t n ≡ false → keep t (up_from 0 (suc n)) ≡ keep t (up_from 0 n)
kept-miss t n h = ap (keep t) (up_from-last 0 n ∙ ap (λ (x : ℕ). up_from 0 n ++ x ∷ []) (zero-add n)) ∙ keep_append t (up_from 0 n) (n ∷ []) ∙ rw h (append-nil (keep t (up_from 0 n)))
  where
    append-nil : (l : List ℕ) → l ++ [] ≡ l
    append-nil [] = refl
    append-nil (x ∷ l) = ap (λ (r : List ℕ). x ∷ r) (append-nil l)

-- no fewer pass where more are tried
kept-grows : (t : ℕ → Bool) (n d : ℕ) → length (keep t (up_from 0 n)) ≤ length (keep t (up_from 0 (n + d)))
kept-grows t n zero = rw add-zero (omega arith)
kept-grows t n (suc d) = go (t (n + d)) refl (kept-grows t n d)
  where
    go : (b : Bool) → t (n + d) ≡ b → length (keep t (up_from 0 n)) ≤ length (keep t (up_from 0 (n + d))) → length (keep t (up_from 0 n)) ≤ length (keep t (up_from 0 (n + suc d)))
    go true e h = rw (add-suc, kept-hit t (n + d) e, length-append) (omega arith)
    go false e h = rw (add-suc, kept-miss t (n + d) e) h

-- a store behind the front
copied_on : (l r : List ℕ) (x : ℕ) → length l < length r → set (copied l r) (length l) x ≡ copied (l ++ x ∷ []) r
unfolding copied
copied_on [] (y ∷ r) x h = refl
copied_on [] [] x h = absurd (let b : ⊥ = omega arith in b)
copied_on (y ∷ l) [] x h = absurd (let b : ⊥ = omega arith in b)
copied_on (y ∷ l) (z ∷ r) x h = ap (λ (s : List ℕ). y ∷ s) (copied_on l r x (omega arith))

-- nothing to drop
drop-none : (n : ℕ) → drop {A = ℕ} n [] ≡ []
drop-none zero = refl
drop-none (suc n) = refl

-- a front that is written over
copied-over : (l l' r : List ℕ) → length l ≤ length l' → copied l' (copied l r) ≡ copied l' r
unfolding copied
copied-over [] l' r h = refl
copied-over (x ∷ l) [] r h = absurd (let b : ⊥ = omega arith in b)
copied-over (x ∷ l) (y ∷ l') [] h =
    ap (λ (s : List ℕ). y ∷ s)
    (ap (λ (s : List ℕ). l' ++ drop (length l') (l ++ s)) (sym (drop-none (length l))) ∙ copied-over l l' [] (omega arith)
    ∙ ap (λ (s : List ℕ). l' ++ s) (drop-none (length l')))
copied-over (x ∷ l) (y ∷ l') (z ∷ r) h = ap (λ (s : List ℕ). y ∷ s) (copied-over l l' r (omega arith))

-- ---- the loop

pub tried-from : (m : ℕ) (f roots : List ℕ) → Tried m f roots 0 0 roots
unfolding up_from copied
tried-from m f roots = record { within = omega arith; count = refl; slots = refl; long = refl; fewer = omega arith }

-- where two branches meet
tried-moved : {m : ℕ} {f roots s r : List ℕ} {x k j : ℕ} → Tried m f roots x k s → j ≡ k → r ≡ s → Tried m f roots x j r
tried-moved h e g = rw (e, g) h

-- a root found has its slot, as all roots have
pub tried-room : {m : ℕ} {f roots roots' : List ℕ} {x k : ℕ} → Tried m f roots x k roots' → x < 2 ^ m → eval (G m) f x ≡ 0
    → length (roots_at m f) ≤ length roots → k < length roots
unfolding roots_of
tried-room {m} {f} {roots} {x = x} {k = k} h l z r =
    let d : ℕ = 2 ^ m - suc x in
    let hit : length (below m f (suc x)) ≡ suc k = ap length (kept-hit (is_root_at m f) x (eq-eqb (eval (G m) f x) 0 z)) ∙ length-append (below m f x) (x ∷ []) ∙ (let c = h.count in omega arith) in
    let more = kept-grows (is_root_at m f) (suc x) d in
    let all : suc x + d ≡ 2 ^ m = omega arith in
    let most : length (below m f (suc x)) ≤ length (keep (is_root_at m f) (up_from 0 (2 ^ m))) = subst (λ (n : ℕ). length (below m f (suc x)) ≤ length (keep (is_root_at m f) (up_from 0 n))) all more in
    omega arith

pub tried-hit : {m : ℕ} {f roots roots' : List ℕ} {x k : ℕ} → Tried m f roots x k roots' → x < 2 ^ m → eval (G m) f x ≡ 0 → k < length roots
    → Tried m f roots (x + 1) (k + 1) (set roots' k x)
tried-hit {m} {f} {roots} {roots'} {x} {k} h l z r =
    let hit = kept-hit (is_root_at m f) x (eq-eqb (eval (G m) f x) 0 z) in
    record {
      within = omega arith;
      count = ap (λ (n : ℕ). n + 1) h.count ∙ sym (ap (λ (n : ℕ). length (below m f n)) (add-one x) ∙ ap length hit ∙ length-append (below m f x) (x ∷ []));
      slots =
          ap₂ (λ (s : List ℕ) (i : ℕ). set s i x) h.slots h.count
          ∙ copied_on (below m f x) roots x (subst (λ (n : ℕ). n < length roots) h.count r)
          ∙ sym (ap (λ (n : ℕ). copied (below m f n) roots) (add-one x) ∙ ap (λ (s : List ℕ). copied s roots) hit);
      long = length-set roots' k x ∙ h.long;
      fewer = let w = h.fewer in omega arith;
    }

pub tried-miss : {m : ℕ} {f roots roots' : List ℕ} {x k : ℕ} → Tried m f roots x k roots' → x < 2 ^ m → (eval (G m) f x ≡ 0 → ⊥)
    → Tried m f roots (x + 1) k roots'
tried-miss {m} {f} {roots} {roots'} {x} {k} h l z =
    let miss = kept-miss (is_root_at m f) x (ne_eqb (eval (G m) f x) 0 z) in
    record {
      within = omega arith;
      count = h.count ∙ sym (ap (λ (n : ℕ). length (below m f n)) (add-one x) ∙ ap length miss);
      slots = h.slots ∙ sym (ap (λ (n : ℕ). copied (below m f n) roots) (add-one x) ∙ ap (λ (s : List ℕ). copied s roots) miss);
      long = h.long;
      fewer = let w = h.fewer in omega arith;
    }

pub tried-end : {m : ℕ} {f roots roots' : List ℕ} {x k : ℕ} → Tried m f roots x k roots' → 2 ^ m ≤ x → SearchedOut m f roots k roots'
unfolding roots_of
tried-end {m} {f} {roots} {x = x} h l =
    let e : x ≡ 2 ^ m = (let w = h.within in omega arith) in
    record {
      count = h.count ∙ ap (λ (n : ℕ). length (below m f n)) e;
      slots = h.slots ∙ ap (λ (n : ℕ). copied (below m f n) roots) e;
    }

-- ---- an element noted

pub tried-note : {m : ℕ} {f roots r r' : List ℕ} {x k k' v : ℕ} → Tried m f roots x k r → x < 2 ^ m → v ≡ eval (G m) f x
    → length (roots_at m f) ≤ length roots → Noted v x k r k' r' → Tried m f roots (x + 1) k' r'
tried-note {m} {f} {roots} {r' = r'} {x} {k' = k'} {v = v} h l e room n = go (ℕ_discrete v 0)
  where
    go : Dec (v ≡ 0) → Tried m f roots (x + 1) k' r'
    go (yes z) = let y = sym e ∙ z in tried-moved (tried-hit h l y (tried-room h l y room)) (n.hit z).0 (n.hit z).1
    go (no z) = tried-moved (tried-miss h l (λ y. z (e ∙ y))) (n.miss z).0 (n.miss z).1

-- where a root is found there is room for it
pub note-room : {m : ℕ} {f roots r : List ℕ} {x k v : ℕ} → Tried m f roots x k r → x < 2 ^ m → v ≡ eval (G m) f x
    → length (roots_at m f) ≤ length roots → v ≡ 0 → k < length r
note-room h l e room z = let r = tried-room h l (sym e ∙ z) room in let g = h.long in omega arith

pub tried-next : {m : ℕ} {f roots r : List ℕ} {x y k : ℕ} → Tried m f roots x k r → y ≡ x → Tried m f roots y k r
tried-next h e = rw e h

-- ---- a second loop begins where the first left the list

pub tried-again : {m : ℕ} {f roots r : List ℕ} {x k : ℕ} → Tried m f roots x k r → Tried m f r x k r
tried-again {m} {f} {roots} {r} {x} h =
    record {
      within = h.within;
      count = h.count;
      slots = h.slots ∙ sym (copied-over (below m f x) (below m f x) roots (omega arith)) ∙ ap (copied (below m f x)) (sym h.slots);
      long = refl;
      fewer = h.fewer;
    }

-- what the second did, from the list before the first
pub tried-over : {m : ℕ} {f roots r r' : List ℕ} {x y k j : ℕ} → Tried m f roots x j r → Tried m f r y k r' → x ≤ y → Tried m f roots y k r'
tried-over {m} {f} {roots} {x = x} {y = y} h s l =
    let d : ℕ = y - x in
    let all : x + d ≡ y = omega arith in
    let more : length (below m f x) ≤ length (below m f y) = subst (λ (n : ℕ). length (below m f x) ≤ length (below m f n)) all (kept-grows (is_root_at m f) x d) in
    record {
      within = s.within;
      count = s.count;
      slots = s.slots ∙ ap (copied (below m f y)) h.slots ∙ copied-over (below m f x) (below m f y) roots more;
      long = s.long ∙ h.long;
      fewer = s.fewer;
    }

pub searched-over : {m : ℕ} {f roots r r' : List ℕ} {x k j : ℕ} → Tried m f roots x j r → SearchedOut m f r k r' → SearchedOut m f roots k r'
unfolding roots_of
searched-over {m} {f} {roots} {x = x} h s =
    let w = h.within in
    let d : ℕ = 2 ^ m - x in
    let all : x + d ≡ 2 ^ m = omega arith in
    let more : length (below m f x) ≤ length (roots_at m f) = subst (λ (n : ℕ). length (below m f x) ≤ length (below m f n)) all (kept-grows (is_root_at m f) x d) in
    record { count = s.count; slots = s.slots ∙ ap (copied (roots_at m f)) h.slots ∙ copied-over (below m f x) (roots_at m f) roots more }

-- ---- how many elements there are

pub record Sizes (m : ℕ) : Type 0 where
  pub least : 16 ≤ 2 ^ m
  pub most : 2 ^ m ≤ 32768
  pub fours : 2 ^ m % 4 ≡ 0

pub sizes : {m : ℕ} {ls ts : List ℕ} → Lent m ls ts → Sizes m
sizes {m} t =
    by_row (λ m p. Sizes m)
    (record { least = lit≤ tt; most = lit≤ tt; fours = refl })
    (record { least = lit≤ tt; most = lit≤ tt; fours = refl })
    (record { least = lit≤ tt; most = lit≤ tt; fours = refl }) (listed m t.degree)
