-- Degrees 0 to 2, as the code comes to them.
--   quadratic-asks              what the quadratic solver asks
--   quadratic-list              the roots are the values of its answer
--   front-none, front-one, front-two   lists of no, one and two numbers at the front
--   front-within                they stand there
--   quadratic-one-root, quadratic-two-roots   the roots of a quadratic at the front
--   low-none, low-one           degree 0 and 1
--   low-asks, low-two           degree 2
--   front_out                   a list of the roots is the roots in some order
-- Assumes nothing.
use mathlib.Core.Path.{◌≡◌, sym, ap, ◌∙◌, subst}
use mathlib.Core.Logic.{◌≢◌}
use mathlib.Core.Bool.{true}
use mathlib.Core.List.{List, [], ◌∷◌, ◌++◌}
use Prim.Native.Nat.{ℕ, ◌^◌, ◌≤◌, ◌<◌}
use native.Mathlib.Omega.{arith}
use lib.ListN.{length, get_or, take, set, length-set, length-take}
use lib.Seq.{take-suc-set}
use Rattle.algebra.specs.Field.{OnNumbers}
use Rattle.algebra.specs.Polynomial.{Below}
use Rattle.algebra.specs.Routines.{monic}
use Rattle.algebra.proofs.RootList.{roots_of-none, roots_of-one, roots_of-count}
use Rattle.field.specs.Rows.{known, IsRow, ListedRow}
use Rattle.field.proofs.Known.{listed}
use Rattle.field.specs.declared.rows.Row.{Row}
use Rattle.field.specs.Field.{field_of, G, roots_at}
use Rattle.field.specs.Tables.{Halves}
use Rattle.field.specs.Quadratics.{roots_in, roots_of_quadratic}
use Rattle.field.specs.declared.solver.Quadratic.{Quadratic}
use Rattle.field.proofs.Instance.{known-numbers}
use Rattle.poly_small.specs.Roots.{Front, RootsOut, Halvable, Lowly}

-- ---- numbers at the front

-- no number
pub front-none : (out : List ℕ) {rs : List ℕ} → rs ≡ [] → Front rs 0 out
front-none out e = record { count = sym (ap length e); front = sym e }

-- one number
front-one : (out : List ℕ) (x : ℕ) {rs : List ℕ} → 0 < length out → rs ≡ x ∷ [] → Front rs 1 (set out 0 x)
front-one out x h e = record { count = sym (ap length e); front = take-suc-set out 0 x h ∙ sym e }

-- two numbers
front-two : (out : List ℕ) (x y : ℕ) {rs : List ℕ} → 1 < length out → rs ≡ x ∷ y ∷ [] → Front rs 2 (set (set out 0 x) 1 y)
front-two out x y h e = record {
  count = sym (ap length e);
  front = take-suc-set (set out 0 x) 1 y (omega (arith, length-set out 0 x)) ∙ ap (λ u. u ++ y ∷ []) (take-suc-set out 0 x (omega arith)) ∙ sym e;
}

-- they stand there
pub front-within : {rs : List ℕ} {k : ℕ} {o : List ℕ} → Front rs k o → k ≤ length o
front-within {rs} {k} {o} f = omega (arith, f.count, ap length f.front, length-take k o)

-- ---- the quadratic

-- what the solver asks
pub quadratic-asks : {m a b : ℕ} {row : Row} {hs out : List ℕ} → Halvable m hs a b out → IsRow m row
    → ListedRow row.degree row.poly × Halves (field_of row.degree row.poly) hs × (a < 2 ^ row.degree) × (b < 2 ^ row.degree)
quadratic-asks {m} {a} {b} {row} {hs} h r =
    subst (λ (d : ℕ). ListedRow d row.poly × Halves (field_of d row.poly) hs × (a < 2 ^ d) × (b < 2 ^ d)) (sym r.degree)
    (r.list, subst (λ (n : ℕ). Halves (field_of m n) hs) r.list.poly h.halves, h.small-a, h.small_b)

-- the roots are the values of the answer
pub quadratic-list : (m a b : ℕ) {row : Row} {q r : Quadratic} → IsRow m row → roots_in q ≡ roots_of_quadratic (field_of row.degree row.poly) a b → q ≡ r
    → roots_at m (b ∷ a ∷ 1 ∷ []) ≡ roots_in r
quadratic-list m a b {row} i h s =
    ap (λ (n : ℕ). roots_of_quadratic (field_of m n) a b) i.list.poly
    ∙ ap (λ (d : ℕ). roots_of_quadratic (field_of d row.poly) a b) (sym i.degree) ∙ sym h ∙ ap roots_in s

-- one root
pub quadratic-one-root : {m a b : ℕ} {hs out : List ℕ} (x : ℕ) {rs : List ℕ} → Halvable m hs a b out → rs ≡ x ∷ [] → Front rs 1 (set out 0 x)
quadratic-one-root {out = out} x h e = front-one out x (omega (arith, h.room)) e

-- two roots
pub quadratic-two-roots : {m a b : ℕ} {hs out : List ℕ} (x y : ℕ) {rs : List ℕ} → Halvable m hs a b out → rs ≡ x ∷ y ∷ [] → Front rs 2 (set (set out 0 x) 1 y)
quadratic-two-roots {out = out} x y h e = front-two out x y (omega (arith, h.room)) e

-- ---- a list of low coefficients

module _ {m : ℕ} {hs p out : List ℕ} (l : Lowly m hs p out) where
  -- the field's laws
  N : OnNumbers (G m) (2 ^ m)
  N = known-numbers (listed m l.degree)

  -- a constant has no root
  pub low-none : length p ≡ 0 → Front (roots_at m (monic (G m) p)) 0 out
  low-none e = front-none out (go p e)
    where
      go : (p : List ℕ) → length p ≡ 0 → roots_at m (monic (G m) p) ≡ []
      go [] e = roots_of-none N
      go (x ∷ p) e = absurd (omega arith)

  -- z + c has the root c
  pub low-one : length p ≡ 1 → Front (roots_at m (monic (G m) p)) 1 (set out 0 (get_or p 0 0))
  low-one e = front-one out (get_or p 0 0) (omega (arith, l.room)) (go p l.small e)
    where
      go : (p : List ℕ) → Below (2 ^ m) p → length p ≡ 1 → roots_at m (monic (G m) p) ≡ get_or p 0 0 ∷ []
      go [] s e = absurd (omega arith)
      go (x ∷ []) s e = roots_of-one N x s.0
      go (x ∷ y ∷ p) s e = absurd (omega arith)

  -- the degree that is left
  two : length p ≢ 0 → length p ≢ 1 → length p ≡ 2
  two a b = let h = l.low in omega arith

  -- what a quadratic asks
  pub low-asks : length p ≢ 0 → length p ≢ 1 → Halvable m hs (get_or p 1 0) (get_or p 0 0) out
  low-asks a b = let s = go p l.small (two a b) in record { degree = l.degree; halves = l.halves; small-a = s.0; small_b = s.1; room = omega (arith, two a b, l.room) }
    where
      go : (p : List ℕ) → Below (2 ^ m) p → length p ≡ 2 → (get_or p 1 0 < 2 ^ m) × (get_or p 0 0 < 2 ^ m)
      go [] s e = absurd (omega arith)
      go (x ∷ []) s e = absurd (omega arith)
      go (x ∷ y ∷ p) s e = (s.1.0, s.0)

  -- a quadratic's roots
  pub low-two : {k : ℕ} {o : List ℕ} → length p ≢ 0 → length p ≢ 1 → Front (roots_at m (get_or p 0 0 ∷ get_or p 1 0 ∷ 1 ∷ [])) k o
      → Front (roots_at m (monic (G m) p)) k o
  low-two {k} {o} a b = go p (two a b)
    where
      go : (p : List ℕ) → length p ≡ 2 → Front (roots_at m (get_or p 0 0 ∷ get_or p 1 0 ∷ 1 ∷ [])) k o → Front (roots_at m (monic (G m) p)) k o
      go [] e f = absurd (omega arith)
      go (x ∷ []) e f = absurd (omega arith)
      go (x ∷ y ∷ []) e f = f
      go (x ∷ y ∷ z ∷ p) e f = absurd (omega arith)

-- ---- the roots, in some order

-- a list of the roots of monic p, where monic r has the same
pub front_out : {m : ℕ} {p : List ℕ} (r : List ℕ) {k : ℕ} {o : List ℕ} → known m ≡ true → Below (2 ^ m) p
    → roots_at m (monic (G m) r) ≡ roots_at m (monic (G m) p) → Front (roots_at m (monic (G m) r)) k o → RootsOut m p k o
front_out {m} {p} r {k} {o} d h e f =
    let s : take k o ≡ roots_at m (monic (G m) p) = f.front ∙ e in
    record {
      count = omega (arith, f.count, ap length e, roots_of-count (known-numbers (listed m d)) p h);
      members = λ x. rw s (λ t. t, λ t. t);
    }
