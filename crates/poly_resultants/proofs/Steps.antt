-- What the routines on the way down ask and leave.
--   put-none, put_one, put_two   numbers written behind the first n
--   both-NAME                    `both` and `both_lent`
--   above-NAME                   `above`
--   Lifting                      `descend`: the roots above the first i are written
-- Assumes nothing.
use mathlib.Core.Path.{◌≡◌, ◌∙◌, refl, sym, ap, ap₂, subst}
use mathlib.Core.Logic.{◌≢◌, ⊎_elim}
use mathlib.Core.List.{List, [], ◌∷◌, ◌++◌, append_assoc, append-nil}
use Prim.Native.Nat.{ℕ, zero, suc, ◌+◌, ◌^◌, ◌≤◌, ◌<◌}
use native.Mathlib.Nat.{pos_of_ne-zero}
use native.Mathlib.Omega.{arith}
use lib.Bits.{bit_xor}
use lib.ListN.{length, take, drop, get_or, set, length-set, length-append, take-append-drop}
use lib.Seq.{length-take-le, take_all, take-suc, take-suc-set, drop-cons}
use Rattle.algebra.specs.Trial.{All, Distinct}
use Rattle.algebra.specs.Polynomial.{eval}
use Rattle.algebra.proofs.StaysBelow.{eval-below}
use Rattle.field.specs.Field.{field_at, G, mul, inverse}
use Rattle.field.specs.Tables.{HalfRoot, Halves}
use Rattle.field.proofs.Generator.{mul-inverse, inverse-lt, zero-product}
use Rattle.field.proofs.Ring.{mul-lt, mul-zero-r}
use Rattle.field.proofs.Solutions.{solution}
use Rattle.poly.specs.Lent.{Lent}
use Rattle.poly.proofs.Logs.{field_of, numbers_of}
use Rattle.poly_resultants.specs.Pairs.{Evaluable}
use Rattle.poly_resultants.specs.Levels.{most, Solves, Lifts, norm_by, Put, Written, Boths, Aboves, Descends, Descended}
use Rattle.poly_resultants.proofs.Descending.{solves-none, solves-two, lifts-none, lifts-one, lifts-both, lifts-append, lifts-few, distinct_apart}

-- ---- numbers written behind the first n

pub put-none : (n : ℕ) (out : List ℕ) → Put n out [] n out
put-none n out = record { count = omega arith; long = refl; front = sym (append-nil (take n out)) }

pub put_one : (n : ℕ) (out : List ℕ) (x : ℕ) → n < length out → Put n out (x ∷ []) (n + 1) (set out n x)
put_one n out x h = record {
  count = refl;
  long = length-set out n x;
  front = ap (λ k. take k (set out n x)) (one n) ∙ take-suc-set out n x h;
}
  where
    one : (n : ℕ) → n + 1 ≡ suc n
    one n = omega arith

pub put_two : (n : ℕ) (out : List ℕ) (x y : ℕ) → n + 1 < length out → Put n out (x ∷ y ∷ []) (n + 2) (set (set out n x) (n + 1) y)
put_two n out x y h =
    let l : length (set out n x) ≡ length out = length-set out n x in
    let a : Put n out (x ∷ []) (n + 1) (set out n x) = put_one n out x (omega arith) in
    let b : Put (n + 1) (set out n x) (y ∷ []) (n + 1 + 1) (set (set out n x) (n + 1) y) = put_one (n + 1) (set out n x) y (omega arith) in
    let two : n + 2 ≡ n + 1 + 1 = omega arith in
    record {
      count = refl;
      long = b.long ∙ l;
      front = ap (λ k. take k (set (set out n x) (n + 1) y)) two ∙ b.front ∙ ap (λ s. s ++ y ∷ []) a.front
          ∙ append_assoc (take n out) (x ∷ []) (y ∷ []);
    }

-- ---- `both`

-- the inverse of what is not 0 is not 0
inverse-good : {m : ℕ} {ls ts : List ℕ} → Lent m ls ts → (b : ℕ) → 0 < b → b < 2 ^ m → {v : ℕ} → v ≡ inverse (field_at m) b → (0 < v) × (v < 2 ^ m)
inverse-good {m} t b pb hb {v} e = (pos_of_ne-zero nonzero, subst (λ w. w < 2 ^ m) (sym e) (inverse-lt (field_at m) (field_of t) b))
  where
    nonzero : v ≢ 0
    nonzero z =
        let w : ◌≡◌ {A = ℕ} 1 0 =
        sym (mul-inverse (field_at m) (field_of t) b pb hb) ∙ ap (mul (field_at m) b) (sym e ∙ z)
        ∙ mul-zero-r (field_at m) (field_of t).monic b in
        omega arith

module _ {m : ℕ} {ls ts : List ℕ} {b y : ℕ} {out : List ℕ} {n : ℕ} (lent : Lent m ls ts) (a : Boths m b y out n) where
  product_lt : (x z : ℕ) → mul (field_at m) x z < 2 ^ m
  product_lt = mul-lt (field_at m) (field_of lent).monic

  pub both-inverse : {v : ℕ} → v ≡ inverse (field_at m) b → (0 < v) × (v < 2 ^ m)
  both-inverse e = inverse-good lent b a.positive a.small e

  pub both-square : {v c : ℕ} → v ≡ inverse (field_at m) b → c ≡ mul (field_at m) v v → (0 < c) × (c < 2 ^ m)
  both-square {v} {c} e f =
      let h = both-inverse e in (
        pos_of_ne-zero (λ z. let w : v ≡ 0 = ⊎_elim (λ s. s) (λ s. s) (zero-product (field_at m) (field_of lent) v v h.1 h.1 (sym f ∙ z)) in let g = h.0 in let o : ⊥ = omega arith in o),
        subst (λ w. w < 2 ^ m) (sym f) (product_lt v v),
      )

  module _ {hs : List ℕ} (table : Halves (field_at m) hs) where
    pub both-place : (c : ℕ) {i : ℕ} → i ≡ mul (field_at m) c y → i < length hs
    both-place c {i} e = subst (λ w. i < w) (sym table.entries) (subst (λ w. w < 2 ^ m) (sym e) (product_lt c y))

    -- what the table says at the place that is asked
    module _ {v c i : ℕ} (e : v ≡ inverse (field_at m) b) (f : c ≡ mul (field_at m) v v) (g : i ≡ mul (field_at m) c y) where
      half : HalfRoot (field_at m) (mul (field_at m) (mul (field_at m) v v) y) (get_or hs i 0)
      half =
          subst (λ w. HalfRoot (field_at m) w (get_or hs i 0)) (g ∙ ap (λ w. mul (field_at m) w y) f)
          (table.entry i (subst (λ w. w < 2 ^ m) (sym g) (product_lt c y)))

      pub both-none : get_or hs i 0 ≡ 65535 → Written (Solves m b y) n out n out
      both-none z = record {
        list = [];
        holds = solves-none m lent.degree b y v a.positive a.small a.element e half z;
        put = put-none n out;
      }

      pub both-half : get_or hs i 0 ≢ 65535 → get_or hs i 0 < 2 ^ m
      both-half z = (solution (field_at m) (field_of lent) half z).0

      pub both-two : {x : ℕ} → get_or hs i 0 ≢ 65535 → x ≡ mul (field_at m) b (get_or hs i 0)
          → Written (Solves m b y) n out (n + 2) (set (set out n x) (n + 1) (bit_xor x b))
      both-two {x} z d = record {
        list = x ∷ bit_xor x b ∷ [];
        holds = solves-two m lent.degree b y v a.positive a.small a.element e half z d;
        put = let s = a.space in put_two n out x (bit_xor x b) (omega arith);
      }

-- ---- `above`

module _ {m : ℕ} {ls ts : List ℕ} {b : ℕ} {p q : List ℕ} {y : ℕ} {out : List ℕ} {n : ℕ} (lent : Lent m ls ts) (a : Aboves m b p q y out n) where
  pub above-both : {w k : ℕ} {out' : List ℕ} → w ≡ eval (G m) q y → w ≡ 0 → Written (Solves m b y) n out k out'
      → Written (Lifts m b p q (y ∷ [])) n out k out'
  above-both e z s = record {
    list = s.list;
    holds = lifts-both m lent.degree b p q a.low a.high y a.boths.element a.zero (sym e ∙ z) s.holds;
    put = s.put;
  }

  pub above-pair : Evaluable m p q y
  above-pair = record {
    low = a.low;
    high = a.high;
    least = a.least;
    most = a.longest;
    element = a.boths.element;
  }

  pub above-value : {w : ℕ} → w ≡ eval (G m) q y → w < 2 ^ m
  above-value e = subst (λ s. s < 2 ^ m) (sym e) (eval-below (numbers_of lent) q y a.high a.boths.element)

  pub above_low : {v : ℕ} → v ≡ eval (G m) p y → v < 2 ^ m
  above_low e = subst (λ s. s < 2 ^ m) (sym e) (eval-below (numbers_of lent) p y a.low a.boths.element)

  pub above-inverse : {w u : ℕ} → w ≡ eval (G m) q y → w ≢ 0 → u ≡ inverse (field_at m) w → (0 < u) × (u < 2 ^ m)
  above-inverse {w} e z f = inverse-good lent w (pos_of_ne-zero z) (above-value e) f

  pub above-one : {v w u x : ℕ} → v ≡ eval (G m) p y → w ≡ eval (G m) q y → w ≢ 0 → u ≡ inverse (field_at m) w → x ≡ mul (field_at m) u v
      → Written (Lifts m b p q (y ∷ [])) n out (n + 1) (set out n x)
  above-one {v} {w} {u} {x} d e z f g = record {
    list = x ∷ [];
    holds = subst (λ s. Lifts m b p q (y ∷ []) (s ∷ [])) (sym (g ∙ ap₂ (mul (field_at m)) (f ∙ ap (inverse (field_at m)) e) d))
        (lifts-one m lent.degree b p q a.low a.high y a.boths.element a.zero (λ s. z (e ∙ s)));
    put = let s = a.boths.space in put_one n out x (omega arith);
  }

-- ---- `descend`

-- the roots above the first i are written
pub record Lifting (m : ℕ) (ls ts : List ℕ) (b : ℕ) (p q ys out₀ : List ℕ) (n : ℕ) (out : List ℕ) (i : ℕ) : Type 0 where
  pub tables : Lent m ls ts
  pub given : Descends m b p q ys out₀
  pub within : i ≤ length ys
  pub long : length out ≡ length out₀
  pub front : n ≤ length out
  pub lifts : Lifts m b p q (take i ys) (take n out)

pub lifting-from : {m : ℕ} {ls ts : List ℕ} {b : ℕ} {p q ys out : List ℕ} → Lent m ls ts → Descends m b p q ys out → Lifting m ls ts b p q ys out 0 out 0
lifting-from {m} {ls} {ts} {b} {p} {q} {ys} {out} lent g = record {
  tables = lent;
  given = g;
  within = omega arith;
  long = refl;
  front = omega arith;
  lifts = lifts-none m lent.degree b p q;
}

all_here : {A : Type 0} (P : A → Type 0) (l : List A) (o : A) (i : ℕ) → All P l → i < length l → P (get_or l i o)
all_here P [] o i h k = absurd (omega (arith, k))
all_here P (x ∷ l) o zero h k = h.0
all_here P (x ∷ l) o (suc i) h k = all_here P l o i h.1 (omega (arith, k))

module _ {m : ℕ} {ls ts : List ℕ} {b : ℕ} {p q ys out₀ : List ℕ} {n : ℕ} {out : List ℕ} {i : ℕ} (l : Lifting m ls ts b p q ys out₀ n out i) where
  pub lifting-few : n ≤ most
  lifting-few =
      let f = l.front in
      omega (arith, lifts-few m l.tables.degree l.given.few l.lifts, length-take-le n out f)

  pub lifting-asks : i < length ys → Aboves m b p q (get_or ys i 0) out n
  lifting-asks h =
      let z = all_here (λ y. (y < 2 ^ m) × (norm_by m b p q y ≡ 0)) ys 0 i l.given.zeros h in
      record {
        boths = record {
          positive = l.given.positive;
          small = l.given.small;
          element = z.0;
          space = let s = l.given.space in let e = l.long in omega (arith, lifting-few);
        };
        low = l.given.low;
        high = l.given.high;
        zero = z.1;
        least = l.given.least;
        longest = l.given.longest;
      }

  pub lifting-on : {k : ℕ} {out' : List ℕ} → i < length ys → Written (Lifts m b p q (get_or ys i 0 ∷ [])) n out k out'
      → Lifting m ls ts b p q ys out₀ k out' (i + 1)
  lifting-on {k} {out'} h w =
      let cut : take (i + 1) ys ≡ take i ys ++ get_or ys i 0 ∷ [] = ap (λ j. take j ys) one ∙ take-suc ys i 0 h in
      let whole : ys ≡ take i ys ++ get_or ys i 0 ∷ drop (suc i) ys = sym (take-append-drop i ys) ∙ ap (λ s. take i ys ++ s) (drop-cons ys i 0 h) in
      let new : Lifts m b p q (take i ys ++ get_or ys i 0 ∷ []) (take n out ++ w.list) =
      lifts-append m l.tables.degree l.lifts
      (distinct_apart (take i ys) (get_or ys i 0) (drop (suc i) ys) (subst Distinct whole l.given.once)) w.holds in
      let few : length (take n out ++ w.list) ≤ most = lifts-few m l.tables.degree l.given.few new in
      let f = l.front in
      let s = l.given.space in
      let e = l.long in
      let o = w.put.long in
      let g = w.put.count in
      record {
        tables = l.tables;
        given = l.given;
        within = omega arith;
        long = o ∙ e;
        front = omega (arith, few, length-append (take n out) w.list, length-take-le n out f);
        lifts = subst (λ s. Lifts m b p q s (take k out')) (sym cut) (subst (Lifts m b p q (take i ys ++ get_or ys i 0 ∷ [])) (sym w.put.front) new);
      }
    where
      one : i + 1 ≡ suc i
      one = omega arith

  pub lifting-end : length ys ≤ i → Descended m b p q ys n out
  lifting-end h = record { within = l.front; lifts = subst (λ s. Lifts m b p q s (take n out)) (take_all i ys h) l.lifts }
