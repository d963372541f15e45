-- The numbers at the end of the chain: `try_first`, `try_four` and `tried`.
--   kept_next        the numbers of a row that pass a test, with one number more
--   note-NAME        `note`
--   tried-from, tried-note, tried-at, tried-again, tried-over   the roots below x, as x goes on
--   four_below       every known field has four elements
--   tried-room       there is room for one more
--   four-NAME        `try_four`
--   TriedFours, fours-NAME   `tried`: x is a multiple of 4
--   tried-end        every number below the end was tried
-- Assumes nothing.
use mathlib.Core.Path.{◌≡◌, ◌∙◌, refl, sym, ap, ap₂, subst}
use mathlib.Core.Logic.{◌≢◌}
use mathlib.Core.Bool.{Bool, true, false, cond}
use mathlib.Core.List.{List, Memᴰ, [], ◌∷◌, ◌++◌}
use Prim.Native.Nat.{ℕ, zero, suc, ◌+◌, ◌%◌, ◌^◌, ◌≤◌, ◌<◌}
use native.Mathlib.Nat.{add-zero, add-suc, suc-add, zero-add}
use native.Mathlib.Omega.{arith}
use borrow.Author.Tests.{eq-eqb, ne_eqb}
use lib.Dec.{eqb}
use lib.ListN.{length, get_or, set}
use lib.Seq.{length-take-le}
use Rattle.algebra.specs.Trial.{All, Distinct, keep, up_from}
use Rattle.algebra.specs.Polynomial.{eval, is_root}
use Rattle.algebra.proofs.Trial.{ascending-distinct, kept-ascending, kept-exactly}
use Rattle.algebra.proofs.RootList.{is_root-is}
use Rattle.field.specs.Field.{G}
use Rattle.field.proofs.Known.{by_row, listed}
use Rattle.poly.specs.Lent.{Lent}
use Rattle.poly.specs.Values.{FourValues}
use Rattle.poly_resultants.specs.Maps.{tower}
use Rattle.poly_resultants.specs.Levels.{Put, Noted, Fours, Tries, Tried, Blocks, Levelled}
use Rattle.poly_resultants.proofs.Numbers.{N, few-roots}
use Rattle.poly_resultants.proofs.Descending.{all_from}
use Rattle.poly_resultants.proofs.Steps.{put-none, put_one}

-- x where it passes
abbrev one : (ℕ → Bool) → ℕ → List ℕ
one t x = cond (t x) (x ∷ []) []

kept_next : (t : ℕ → Bool) (k n : ℕ) → keep t (up_from k (suc n)) ≡ keep t (up_from k n) ++ one t (k + n)
unfolding up_from
kept_next t k zero = ap (one t) (sym (add-zero k))
kept_next t k (suc n) = go (t k) (kept_next t (suc k) n ∙ ap (λ x. keep t (up_from (suc k) n) ++ one t x) (suc-add k n ∙ sym (add-suc k n)))
  where
    go : (b : Bool) → keep t (up_from (suc k) (suc n)) ≡ keep t (up_from (suc k) n) ++ one t (k + suc n)
        → cond b (k ∷ keep t (up_from (suc k) (suc n))) (keep t (up_from (suc k) (suc n)))
        ≡ cond b (k ∷ keep t (up_from (suc k) n)) (keep t (up_from (suc k) n)) ++ one t (k + suc n)
    go true e = ap (λ l. k ∷ l) e
    go false e = e

-- ---- `note`

pub note-hit : {v n : ℕ} {out : List ℕ} (x : ℕ) → v ≡ 0 → n < length out → Noted v x n out (n + 1) (set out n x)
note-hit {v} {n} {out} x e h = subst (λ b. Put n out (cond b (x ∷ []) []) (n + 1) (set out n x)) (sym (eq-eqb v 0 e)) (put_one n out x h)

pub note-miss : {v n : ℕ} {out : List ℕ} (x : ℕ) → v ≢ 0 → Noted v x n out n out
note-miss {v} {n} {out} x e = subst (λ b. Put n out (cond b (x ∷ []) []) n out) (sym (ne_eqb v 0 e)) (put-none n out)

-- at most one is written
one-long : (b : Bool) (x : ℕ) → length (cond b (x ∷ []) []) ≤ 1
one-long true x = omega arith
one-long false x = omega arith

-- ---- the roots below x

-- every known field has four elements
pub four_below : {m : ℕ} {ls ts : List ℕ} → Lent m ls ts → 4 ≤ 2 ^ m
four_below {m} l = by_row (λ m p. 4 ≤ 2 ^ m) (omega arith) (omega arith) (omega arith) (listed m l.degree)

-- none below 0
pub tried-from : {m : ℕ} {f out : List ℕ} → Tried m f out 0 0 out
unfolding up_from
tried-from = record { long = refl; front = omega arith; passed = refl }

-- one number more
pub tried-note : {m x n v k : ℕ} {f out₀ out out' : List ℕ} → Tried m f out₀ x n out → n < length out → v ≡ eval (G m) f x → Noted v x n out k out'
    → Tried m f out₀ (x + 1) k out'
tried-note {m} {x} {n} {v} {k} {f} t h e p =
    let c = p.count in
    let l = p.long in
    record {
      long = l ∙ t.long;
      front = omega (arith, one-long (eqb v 0) x);
      passed = p.front ∙ ap₂ ◌++◌ t.passed (ap (λ w. cond (eqb w 0) (x ∷ []) []) e)
          ∙ sym (ap (λ j. keep (is_root (G m) f) (up_from 0 j)) next ∙ kept_next (is_root (G m) f) 0 x
          ∙ ap (λ y. keep (is_root (G m) f) (up_from 0 x) ++ one (is_root (G m) f) y) (zero-add x));
    }
  where
    next : x + 1 ≡ suc x
    next = omega arith

-- the same number
pub tried-at : {m x y n : ℕ} {f out₀ out : List ℕ} → x ≡ y → Tried m f out₀ x n out → Tried m f out₀ y n out
tried-at {m} {n = n} {f} {out₀} {out} e t = subst (λ z. Tried m f out₀ z n out) e t

-- from the list as it is
pub tried-again : {m x n : ℕ} {f out₀ out : List ℕ} → Tried m f out₀ x n out → Tried m f out x n out
tried-again t = record { long = refl; front = t.front; passed = t.passed }

-- and from the list as it was
pub tried-over : {m x n y k : ℕ} {f out₀ out out' : List ℕ} → Tried m f out₀ x n out → Tried m f out y k out' → Tried m f out₀ y k out'
tried-over t u = record { long = u.long ∙ t.long; front = u.front; passed = u.passed }

module _ {m : ℕ} {ls ts f out₀ : List ℕ} (lent : Lent m ls ts) (g : Tries m f out₀) {x n : ℕ} {out : List ℕ} (t : Tried m f out₀ x n out) (h : x ≤ 2 ^ m) where
  -- what is written are roots
  roots-below : All (λ y. (y < 2 ^ m) × (eval (G m) f y ≡ 0)) (keep (is_root (G m) f) (up_from 0 x))
  roots-below = all_from (λ y. (y < 2 ^ m) × (eval (G m) f y ≡ 0)) (keep (is_root (G m) f) (up_from 0 x)) (λ y j.
      let e = (kept-exactly (is_root (G m) f) x y).0 j in
      let b = e.0 in
      let s : y < 2 ^ m = omega arith in
      (s, (is_root-is (N m lent.degree) f g.poly.small y s).0 e.1))

  -- each once
  once-below : Distinct (keep (is_root (G m) f) (up_from 0 x))
  once-below = ascending-distinct (keep (is_root (G m) f) (up_from 0 x)) (kept-ascending (is_root (G m) f) x)

  pub tried-room : n < length out
  tried-room =
      let l = g.poly.limited in
      let s = g.space in
      let o = t.long in
      let b = t.front in
      omega (
        arith,
        few-roots m lent.degree f (keep (is_root (G m) f) (up_from 0 x)) g.poly.small g.poly.led once-below roots-below,
        ap length t.passed,
        length-take-le n out b,
      )

  pub tried-end : {e : ℕ} → e ≤ x → Levelled m [] e f n out
  unfolding tower
  tried-end {e} l = record {
    within = t.front;
    roots = subst (All (λ y. (y < 2 ^ m) × (eval (G m) f y ≡ 0))) (sym t.passed) roots-below;
    whole = λ y hy z b. subst (Memᴰ y) (sym t.passed)
        ((kept-exactly (is_root (G m) f) x y).1 (omega arith, (is_root-is (N m lent.degree) f g.poly.small y hy).1 z));
    distinct = subst Distinct (sym t.passed) once-below;
  }

-- ---- four in a row

module _ {m : ℕ} {ls ts f : List ℕ} {x : ℕ} {out : List ℕ} {n : ℕ} (lent : Lent m ls ts) (b : Blocks m f x out n) where
  -- what stands in out may be written over
  room_at : {y k : ℕ} {out' : List ℕ} → Tried m f out y k out' → y ≤ x + 3 → k < length out'
  room_at t l = let w = b.within in tried-room lent b.given t (omega arith)

  pub four-room : n < length out
  four-room = room_at b.tried (omega arith)

  module _ {v : List ℕ} (w : FourValues m f x v) {i : ℕ} {out₁ : List ℕ} (p : Noted (get_or v 0 0) x n out i out₁) where
    -- one was tried
    first : Tried m f out (x + 1) i out₁
    first = tried-note b.tried four-room w.first p

    pub four-room-1 : i < length out₁
    four-room-1 = room_at first (omega arith)

    module _ {j : ℕ} {out₂ : List ℕ} (q : Noted (get_or v 1 0) (x + 1) i out₁ j out₂) where
      -- two were
      second : Tried m f out (x + 2) j out₂
      second = tried-at (omega arith) (tried-note first four-room-1 w.second q)

      pub four-room-2 : j < length out₂
      four-room-2 = room_at second (omega arith)

      module _ {k : ℕ} {out₃ : List ℕ} (r : Noted (get_or v 2 0) (x + 2) j out₂ k out₃) where
        -- three were
        third : Tried m f out (x + 3) k out₃
        third = tried-at (omega arith) (tried-note second four-room-2 w.third r)

        pub four-room-3 : k < length out₃
        four-room-3 = room_at third (omega arith)

        pub four-all : {l : ℕ} {out₄ : List ℕ} → Noted (get_or v 3 0) (x + 3) k out₃ l out₄ → Tried m f out (x + 4) l out₄
        four-all s = tried-at (omega arith) (tried-note third four-room-3 w.fourth s)

-- ---- all

-- what the loop keeps
pub record TriedFours (m : ℕ) (ls ts : List ℕ) (e : ℕ) (f out₀ : List ℕ) (x n : ℕ) (out : List ℕ) : Type 0 where
  pub tables : Lent m ls ts
  pub given : Tries m f out₀
  pub ends : Fours m e
  pub tried : Tried m f out₀ x n out
  pub fours : x % 4 ≡ 0
  pub positive : 0 < x
  pub within : x ≤ e

pub fours-from : {m : ℕ} {ls ts : List ℕ} {e : ℕ} {f out : List ℕ} {n : ℕ} {out' : List ℕ} → Lent m ls ts → Tries m f out → Fours m e → Tried m f out 4 n out'
    → TriedFours m ls ts e f out' 4 n out'
fours-from lent g h t =
    let s = g.space in
    let l = t.long in
    record {
      tables = lent;
      given = record { poly = g.poly; space = omega arith };
      ends = h;
      tried = tried-again t;
      fours = refl;
      positive = omega arith;
      within = h.least;
    }

module _ {m : ℕ} {ls ts : List ℕ} {e : ℕ} {f out₀ : List ℕ} {x n : ℕ} {out : List ℕ} (t : TriedFours m ls ts e f out₀ x n out) where
  pub fours-asks : x < e → Blocks m f x out n
  fours-asks h =
      let s = t.given.space in
      let l = t.tried.long in
      let a = t.fours in
      let c = t.ends.fours in
      let w = t.ends.within in
      record {
        given = record { poly = t.given.poly; space = omega arith };
        tried = tried-again t.tried;
        positive = t.positive;
        within = omega arith;
      }

  pub fours-on : {k : ℕ} {out' : List ℕ} → x < e → Tried m f out (x + 4) k out' → TriedFours m ls ts e f out₀ (x + 4) k out'
  fours-on h u =
      let a = t.fours in
      let c = t.ends.fours in
      record {
        tables = t.tables;
        given = t.given;
        ends = t.ends;
        tried = tried-over t.tried u;
        fours = omega arith;
        positive = omega arith;
        within = omega arith;
      }

  pub fours-end : e ≤ x → Levelled m [] e f n out
  fours-end h = let w = t.within in let l = t.ends.within in tried-end t.tables t.given t.tried (omega arith) h
