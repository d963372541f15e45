-- The roots of a cubic from those of its parts.
--   field_laws               x^(2^m) = x in a known field
--   piece-low, rest-low      both parts can be solved
--   piece-room, rest-room    the roots of one part leave room for those of the other
--   rest-long, rest-fits, rest-front, rest-count   the other part: its degree, where it stands, and its roots
--   cofactor-asks            what the division asks
--   pieces-out               the roots of both are those of the cubic
--   split-asks               what the search for a level asks
--   split-piece              the part at a level that parts it is such a part
--   split-low, split-out     a part that splits of degree at most 2
--   split-given              a part that splits of degree 3 is parted at some level
--   whole_out                it has the roots of the cubic
-- Assumes nothing.
use mathlib.Core.Path.{◌≡◌, refl, sym, ap, ap₂, ◌∙◌, subst}
use mathlib.Core.Logic.{◌↔◌, ◌⊎◌, ⊎_elim}
use mathlib.Core.List.Memᴰ
use mathlib.Core.List.{List, ◌++◌, Memᴰ}
use Prim.Native.Nat.{ℕ, ◌+◌, ◌-◌, ◌^◌, ◌≤◌, ◌<◌}
use native.Mathlib.Omega.{arith}
use lib.ListN.{length, take, drop, length-append, length-drop}
use lib.Seq.{length-take-le, take-append-add, take-append-le, take_at}
use Rattle.algebra.specs.Field.{OnNumbers, squared}
use Rattle.algebra.specs.Polynomial.{Below, field_poly, trace_of}
use Rattle.algebra.specs.Routines.{gcd, cofactor, monic}
use Rattle.algebra.proofs.Lengths.{length-cofactor}
use Rattle.algebra.proofs.StaysBelow.{gcd-below, cofactor-below, trace_of-below, field_poly-below}
use Rattle.algebra.proofs.RootList.{roots_of-count, roots_of-parts, roots_of-begin}
use Rattle.algebra.proofs.Parting.{parting-roots}
use Rattle.field.specs.Field.{field_at, G, roots_at}
use Rattle.field.proofs.Instance.{squared-size}
use Rattle.poly.specs.Lent.{Lent}
use Rattle.poly_gcd.specs.Asking.{Cofactorable}
use Rattle.poly.proofs.Logs.{numbers_of, field_of, small_of}
use Rattle.poly_small.specs.Roots.{Front, RootsOut, Lowly, SmallSolvable}
use Rattle.poly_small.specs.Parting.{GcdOf, Parts, CubicPartable, CubicParted, Pieces}
use Rattle.poly_small.proofs.LowDegrees.{front_out, front-within}

-- x^(2^m) = x
field_laws : {m : ℕ} {ls ts : List ℕ} → Lent m ls ts → (x : ℕ) → x < 2 ^ m → squared (G m) m x ≡ x
field_laws {m} l = squared-size (field_at m) (field_of l)

-- ---- two parts

module _ {m : ℕ} {ls ts hs p g out : List ℕ} (l : Lent m ls ts) (i : Pieces m hs p g out) where
  -- the field's laws
  N : OnNumbers (G m) (2 ^ m)
  N = numbers_of l

  -- the part's coefficients are elements
  small-g : Below (2 ^ m) g
  small-g = subst (Below (2 ^ m)) (sym i.is) (gcd-below N p i.with i.given.small i.small)

  -- the part can be solved
  pub piece-low : Lowly m hs g out
  piece-low =
      record { degree = l.degree; halves = i.given.halves; small = small-g; low = omega (arith, i.less); room = omega (arith, i.less, i.given.room) }

  -- what the division asks
  pub cofactor-asks : {h : List ℕ} → length h ≡ 3 - length g → Cofactorable m p g h
  cofactor-asks k = record {
    small-p = i.given.small;
    small-g = small-g;
    few = omega (arith, i.three);
    shorter = omega (arith, i.less, i.three);
    room = k ∙ ap (λ n. n - length g) (sym i.three);
  }

  -- the degree of what is left
  pub rest-long : {h : List ℕ} → h ≡ cofactor (G m) p g → length h ≡ 3 - length g
  rest-long e = ap length e ∙ length-cofactor (G m) p g ∙ ap (λ n. n - length g) i.three

  -- it has its room
  pub rest-fits : {h : List ℕ} (t : List ℕ) → h ≡ cofactor (G m) p g → 3 - length g ≤ length (h ++ t)
  rest-fits {h} t e = omega (arith, rest-long e, length-append h t)

  -- it can be solved
  pub rest-low : {h o : List ℕ} → h ≡ cofactor (G m) p g → 3 - length g ≤ length o → Lowly m hs h o
  rest-low {h} {o} e k =
      let long = rest-long e in
      record {
        degree = l.degree;
        halves = i.given.halves;
        small = subst (Below (2 ^ m)) (sym e) (cofactor-below N p g i.given.small small-g);
        low = omega (arith, i.least);
        room = omega arith;
      }

  -- the roots of one part leave room for the others
  pub piece-room : {k : ℕ} {o : List ℕ} → Front (roots_at m (monic (G m) g)) k o → k ≤ length g
  piece-room f = omega (arith, f.count, roots_of-count N g small-g)

  -- it has few roots
  pub rest-count : {h : List ℕ} {j : ℕ} {u : List ℕ} → h ≡ cofactor (G m) p g → Front (roots_at m (monic (G m) h)) j u → j ≤ 3
  rest-count {h} e f = omega (arith, f.count, rest-long e, roots_of-count N h (subst (Below (2 ^ m)) (sym e) (cofactor-below N p g i.given.small small-g)))

  -- and they have room behind the first
  pub rest-room : {k : ℕ} {o : List ℕ} → Front (roots_at m (monic (G m) g)) k o → length o ≡ length out → 3 - length g ≤ length (take (length o - k) (drop k o))
  rest-room {k} {o} f e = omega (arith, piece-room f, i.less, i.given.room, length-take-le (length o - k) (drop k o) (omega (arith, length-drop k o)))

  -- what is left without the part stands in front
  pub rest-front : {h : List ℕ} (t : List ℕ) → h ≡ cofactor (G m) p g → take (3 - length g) (h ++ t) ≡ cofactor (G m) p g
  rest-front {h} t e = take_at h t (3 - length g) (rest-long e) ∙ e

  -- the roots of both parts
  pub pieces-out : {h : List ℕ} {k j : ℕ} {o u : List ℕ} (t : List ℕ) → h ≡ cofactor (G m) p g
      → Front (roots_at m (monic (G m) g)) k o → Front (roots_at m (monic (G m) h)) j u → RootsOut m p (k + j) (take k o ++ (u ++ t))
  pieces-out {h} {k} {j} {o} {u} t e a b =
      let rg : List ℕ = roots_at m (monic (G m) g) in
      let rh : List ℕ = roots_at m (monic (G m) h) in
      let whole : take (k + j) (take k o ++ (u ++ t)) ≡ rg ++ rh =
      ap (λ n. take (n + j) (take k o ++ (u ++ t))) (sym (length-take-le k o (front-within a))) ∙ take-append-add (take k o) (u ++ t) j
      ∙ ap₂ (λ x y. x ++ y) a.front (take-append-le j u t (front-within b) ∙ b.front) in
      let is-h : cofactor (G m) p (gcd (G m) p i.with) ≡ h = ap (cofactor (G m) p) (sym i.is) ∙ sym e in
      let lh : length h ≡ length p - length g = ap length e ∙ length-cofactor (G m) p g in
      let both : (x : ℕ) → Memᴰ x (roots_at m (monic (G m) p)) ↔ (Memᴰ x rg ⊎ Memᴰ x rh) =
      λ x. subst (λ v. Memᴰ x (roots_at m (monic (G m) p)) ↔ (Memᴰ x rg ⊎ Memᴰ x (roots_at m (monic (G m) v)))) is-h
      (subst (λ v. Memᴰ x (roots_at m (monic (G m) p)) ↔ (Memᴰ x (roots_at m (monic (G m) v)) ⊎ Memᴰ x (roots_at m (monic (G m) (cofactor (G m) p (gcd (G m) p i.with))))))
      (sym i.is) (roots_of-parts N p i.with i.given.small i.small x)) in
      record {
        count = omega (
          arith,
          a.count,
          b.count,
          roots_of-count N g small-g,
          roots_of-count N h (subst (Below (2 ^ m)) (sym e) (cofactor-below N p g i.given.small small-g)),
          i.less,
          i.three,
        );
        members = λ x. rw whole (
          λ y. (both x).1 (Memᴰ.append_cases rg y),
          λ y. ⊎_elim (λ v. Memᴰ.append_left rh v) (λ v. Memᴰ.append_right rg v) ((both x).0 y),
        );
      }

-- ---- a cubic that some level parts

-- some level parts the cubic, and its roots have room
pub record SplitCubic (m : ℕ) (hs p out : List ℕ) : Type 0 where
  pub given : SmallSolvable m hs p out
  pub three : length p ≡ 3
  pub level : ℕ
  pub parts : Parts m p level

module _ {m : ℕ} {ls ts hs p out : List ℕ} (l : Lent m ls ts) (s : SplitCubic m hs p out) where
  -- what the search for a level asks
  pub split-asks : {g : List ℕ} → 3 < length g → CubicPartable m p g
  split-asks h = record {
    cubic = record { small = s.given.small; three = s.three; room = h };
    level = s.level;
    parts = s.parts;
  }

  -- the part at a level that parts it
  pub split-piece : {n : ℕ} {g : List ℕ} → 3 < length g → CubicParted m p n g → Pieces m hs p (take n g) out
  split-piece {n} {g} h d =
      let long : length (take n g) ≡ n = length-take-le n g (omega (arith, d.less)) in
      record {
        given = s.given;
        three = s.three;
        least = omega (arith, d.least);
        less = omega (arith, d.less);
        with = trace_of (G m) m (2 ^ d.level);
        small = trace_of-below (numbers_of l) m (2 ^ d.level) d.below;
        is = d.low;
      }

-- ---- the part that splits

module _ {m : ℕ} {ls ts hs p out : List ℕ} (l : Lent m ls ts) (s : SmallSolvable m hs p out) (two : 2 < length p) {n : ℕ} {g : List ℕ} (room : 3 < length g) (d : GcdOf m p (field_poly (G m) m) n g)
  where
    M : OnNumbers (G m) (2 ^ m)
    M = numbers_of l

    -- the coefficients are elements
    part_small : Below (2 ^ m) (take n g)
    part_small = subst (Below (2 ^ m)) (sym d.low) (gcd-below M p (field_poly (G m) m) s.small (field_poly-below M m))

    -- the degree
    part-long : length (take n g) ≡ n
    part-long = length-take-le n g (omega (arith, d.count))

    -- it has all the roots
    part-roots : roots_at m (monic (G m) (take n g)) ≡ roots_at m (monic (G m) p)
    part-roots = ap (λ r. roots_at m (monic (G m) r)) d.low ∙ roots_of-begin M m refl M.one_below (field_laws l) p s.small

    -- of degree at most 2
    pub split-low : n < 3 → Lowly m hs (take n g) out
    split-low h =
        record { degree = l.degree; halves = s.halves; small = part_small; low = omega (arith, part-long); room = omega (arith, part-long, s.room) }

    -- its roots are those of the cubic
    pub split-out : {k : ℕ} {o : List ℕ} → Front (roots_at m (monic (G m) (take n g))) k o → RootsOut m p k o
    split-out f = front_out (take n g) l.degree s.small part-roots f

    -- of degree 3
    whole : 3 ≤ n → take 3 g ≡ take n g
    whole h = let c = d.count in let e : 3 ≡ n = omega arith in ap (λ i. take i g) e

    -- then some level parts it
    pub split-given : 3 ≤ n → SplitCubic m hs (take 3 g) out
    split-given h =
        let c = d.count in
        let long : length (take 3 g) ≡ 3 = length-take-le 3 g (omega arith) in
        let e : take 3 g ≡ gcd (G m) p (field_poly (G m) m) = whole h ∙ d.low in
        let w = parting-roots M m refl refl (λ x y. refl) (small_of l).degree-pos (field_laws l) p s.small M.one_below (omega (arith, ap length e)) in
        record {
          given = record { halves = s.halves; small = subst (Below (2 ^ m)) (sym (whole h)) part_small; low = omega arith; room = s.room };
          three = long;
          level = w.0;
          parts = subst (λ r. Parts m r w.0) (sym e) (record { level = w.1; least = w.2.0; less = w.2.1 });
        }

    -- it has the roots of the cubic
    pub whole_out : {k : ℕ} {o : List ℕ} → 3 ≤ n → RootsOut m (take 3 g) k o → RootsOut m p k o
    whole_out {k} {o} h r =
        let long : length (take 3 g) ≡ 3 = length-take-le 3 g (omega arith) in
        let e : roots_at m (monic (G m) (take 3 g)) ≡ roots_at m (monic (G m) p) =
        ap (λ u. roots_at m (monic (G m) u)) (whole h) ∙ part-roots in
        record { count = omega (arith, r.count); members = λ x. subst (λ u. Memᴰ x (take k o) ↔ Memᴰ x u) e (r.members x) }
