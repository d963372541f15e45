-- The first vectors, of coefficients that are the same in every lane: butterflies of one block, and two blocks.
--   words_same, words-other    the vector at a place after a store
--   first-from                 one butterfly
--   firsts-from, firsts-turn   one after the other
--   two_from, two-turn         the vectors of two blocks, one after the other
-- Assumes nothing.
use mathlib.Core.Path.{◌≡◌, refl, sym, ap, ap₂, ◌∙◌, subst}
use mathlib.Core.List.{List, ◌++◌, append_assoc}
use Prim.Native.Nat.{ℕ, suc, ◌+◌, ◌*◌, ◌-◌, ◌^◌, ◌<◌, ◌≤◌}
use native.Mathlib.Nat.{suc-mul, mul-le-mul_right}
use native.Mathlib.Decide.{ℕ_discrete, dec_lt}
use native.Mathlib.Omega.{arith}
use lib.Bits.{bit_xor}
use lib.ListN.{get_or, length, take, drop, get_or-append}
use lib.Seq.{paste, length-paste, drop-paste, get_or-take, get_or-drop, length-take-le, take_all}
use Rattle.field.specs.Field.{mul}
use Rattle.field.proofs.Ring.{FullDegree, mul_comm}
use Rattle.poly_values.specs.Planes.{lane, words_at, sum_words, spread_words, field_by, Multiple, Spread, First, Firsts, TwoBlocks}
use Rattle.poly_values.proofs.Planes.{lane-sum, sum-words}
use Rattle.poly_values.proofs.Rows.{words-at}
use Rattle.poly_values.proofs.Lists.{length-tabulate, tabulate-below}
use Rattle.poly_values.proofs.Scalars.{spread-is}

-- the vector where it was stored
pub words_same : (p v : List ℕ) (at n : ℕ) → at + n ≤ length p → length v ≡ n → words_at n (paste p at v n) at ≡ v
words_same p v at n h e =
    words-at n (take at p) (take n v) (drop (at + n) p) at (length-take-le at p (omega arith)) (length-take-le n v (omega arith)) ∙ take_all n v (omega arith)

-- a number before and behind
get_or-before : (p v : List ℕ) (at n i : ℕ) → at ≤ length p → i < at → get_or (paste p at v n) i 0 ≡ get_or p i 0
get_or-before p v at n i h k =
    ap (λ l. get_or l i 0) (append_assoc (take at p) (take n v) (drop (at + n) p))
    ∙ get_or-append (take at p) (take n v ++ drop (at + n) p) 0 i (omega (arith, length-take-le at p h)) ∙ get_or-take at p i 0 k

get_or-behind : (p v : List ℕ) (at n i : ℕ) → at ≤ length p → length v ≡ n → at + n ≤ i → get_or (paste p at v n) i 0 ≡ get_or p i 0
get_or-behind p v at n i h e k =
    let d : i ≡ at + n + (i - (at + n)) = omega arith in
    ap (λ j. get_or (paste p at v n) j 0) d ∙ sym (get_or-drop (at + n) (paste p at v n) (i - (at + n)) 0)
    ∙ ap (λ l. get_or l (i - (at + n)) 0) (drop-paste p at v n h (omega arith)) ∙ get_or-drop (at + n) p (i - (at + n)) 0 ∙ ap (λ j. get_or p j 0) (sym d)

-- a vector at another place
pub words-other : (m : ℕ) (p v : List ℕ) (i k : ℕ) → i * m + m ≤ length p → length v ≡ m → (k ≡ i → ⊥) → words_at m (paste p (i * m) v m) (k * m) ≡ words_at m p (k * m)
words-other m p v i k h e d = go (dec_lt k i)
  where
    go : Dec (k < i) → words_at m (paste p (i * m) v m) (k * m) ≡ words_at m p (k * m)
    go (yes b) =
        let w : suc k * m ≤ i * m = mul-le-mul_right m b in
        tabulate-below m (λ j. get_or (paste p (i * m) v m) (k * m + j) 0) (λ j. get_or p (k * m + j) 0)
        (λ j l. get_or-before p v (i * m) m (k * m + j) (omega arith) (omega (arith, suc-mul k m)))
    go (no b) =
        let c : suc i ≤ k = omega (arith, d, b) in
        let w : suc i * m ≤ k * m = mul-le-mul_right m c in
        tabulate-below m (λ j. get_or (paste p (i * m) v m) (k * m + j) 0) (λ j. get_or p (k * m + j) 0)
        (λ j l. get_or-behind p v (i * m) m (k * m + j) (omega arith) e (omega (arith, suc-mul i m)))

module _ (q : List ℕ) (monic : FullDegree (field_by q)) where
  pub first-from : {x y i j : ℕ} {e a b m s t p p₁ p₂ : List ℕ} → x < 2 ^ length q → y < 2 ^ length q → i < j → j * length q + length q ≤ length p
      → b ≡ spread_words (length q) y → Multiple q y e m → a ≡ spread_words (length q) x → s ≡ sum_words (length q) a m → t ≡ sum_words (length q) s b
      → p₁ ≡ paste p (i * length q) s (length q) → p₂ ≡ paste p₁ (j * length q) t (length q) → First q e x y i j p p₂
  first-from {x} {y} {i} {j} {e} {a} {b} {m} {s} {t} {p} {p₁} {p₂} hx hy hij room eb em ea es et e₁ e₂ =
      record {
        long = long₂ ∙ long₁;
        low = λ l h. ap (lane l) low-is ∙ lane-s l h;
        up = λ l h. ap (lane l) up_is ∙ lane-t l h ∙ ap (λ v. bit_xor (lane l v) y) (sym low-is);
        others = λ k ni nj. ap (λ w. words_at n w (k * n)) e₂ ∙ words-other n p₁ t j k (omega (arith, long₁)) nt nj
            ∙ ap (λ w. words_at n w (k * n)) e₁ ∙ words-other n p s i k below ns ni;
      }
    where
      n : ℕ
      n = length q

      below : i * n + n ≤ length p
      below = let w : suc i * n ≤ j * n = mul-le-mul_right n hij in omega (arith, suc-mul i n)

      ns : length s ≡ n
      ns = ap length es ∙ length-tabulate n _

      nt : length t ≡ n
      nt = ap length et ∙ length-tabulate n _

      long₁ : length p₁ ≡ length p
      long₁ = ap length e₁ ∙ length-paste p (i * n) s n below (omega (arith, ns))

      long₂ : length p₂ ≡ length p₁
      long₂ = ap length e₂ ∙ length-paste p₁ (j * n) t n (omega (arith, long₁)) (omega (arith, nt))

      A : Spread q x a
      A = spread-is q x hx ea

      B : Spread q y b
      B = spread-is q y hy eb

      lane-s : (l : ℕ) → l < 64 → lane l s ≡ bit_xor x (mul (field_by q) (lane l e) y)
      lane-s l h = ap (lane l) (es ∙ sum-words n a m A.long em.long) ∙ lane-sum l a m ∙ ap₂ bit_xor (A.lanes l h) (em.lanes l ∙ mul_comm (field_by q) monic y (lane l e))

      lane-t : (l : ℕ) → l < 64 → lane l t ≡ bit_xor (lane l s) y
      lane-t l h = ap (lane l) (et ∙ sum-words n s b ns B.long) ∙ lane-sum l s b ∙ ap (bit_xor (lane l s)) (B.lanes l h)

      up_is : words_at n p₂ (j * n) ≡ t
      up_is = ap (λ w. words_at n w (j * n)) e₂ ∙ words_same p₁ t (j * n) n (omega (arith, long₁)) nt

      low-is : words_at n p₂ (i * n) ≡ s
      low-is =
          ap (λ w. words_at n w (i * n)) e₂ ∙ words-other n p₁ t j i (omega (arith, long₁)) nt (λ z. omega arith)
          ∙ ap (λ w. words_at n w (i * n)) e₁ ∙ words_same p s (i * n) n below ns

pub firsts-from : (q e a : List ℕ) (h : ℕ) (p : List ℕ) → Firsts q e a h 1 p p
firsts-from q e a h p = record { long = refl; lows = λ i o k l d. absurd (omega arith); ups = λ i o k l d. absurd (omega arith) }

pub firsts-turn : (q e a : List ℕ) (h : ℕ) {w v : ℕ} {p r s : List ℕ} → w < h → Firsts q e a h w p r → First q e (get_or a w 0) (get_or a (h + w) 0) w (h + w) r s → v ≡ suc w
    → Firsts q e a h v p s
firsts-turn q e a h {w} {v} {p} {r} {s} k f g z = record {
  long = g.long ∙ f.long;
  lows = λ i o d l b. low i o (omega arith) (ℕ_discrete i w) l b;
  ups = λ i o d l b. up i o (omega arith) (ℕ_discrete i w) l b;
}
  where
    n : ℕ
    n = length q

    low : (i : ℕ) → 0 < i → i < suc w → Dec (i ≡ w) → (l : ℕ) → l < 64 → lane l (words_at n s (i * n)) ≡ bit_xor (get_or a i 0) (mul (field_by q) (lane l e) (get_or a (h + i) 0))
    low i o d (yes c) l b = subst (λ (i : ℕ). lane l (words_at n s (i * n)) ≡ bit_xor (get_or a i 0) (mul (field_by q) (lane l e) (get_or a (h + i) 0))) (sym c) (g.low l b)
    low i o d (no c) l b = ap (lane l) (g.others i c (λ t. omega arith)) ∙ f.lows i o (omega (arith, c)) l b

    up : (i : ℕ) → 0 < i → i < suc w → Dec (i ≡ w) → (l : ℕ) → l < 64 → lane l (words_at n s ((h + i) * n)) ≡ bit_xor (lane l (words_at n s (i * n))) (get_or a (h + i) 0)
    up i o d (yes c) l b = subst (λ (i : ℕ). lane l (words_at n s ((h + i) * n)) ≡ bit_xor (lane l (words_at n s (i * n))) (get_or a (h + i) 0)) (sym c) (g.up l b)
    up i o d (no c) l b =
        ap (lane l) (g.others (h + i) (λ t. omega arith) (λ t. c (omega arith))) ∙ f.ups i o (omega (arith, c)) l b
        ∙ ap (λ v. bit_xor (lane l v) (get_or a (h + i) 0)) (sym (g.others i c (λ t. omega arith)))

-- ---- two blocks

pub two_from : (q b a : List ℕ) (h : ℕ) (p : List ℕ) → TwoBlocks q b a h 0 p p
two_from q b a h p = record { long = refl; rows = λ i k l d. absurd (omega arith) }

pub two-turn : (q b a : List ℕ) (h : ℕ) {w v : ℕ} {s m t p r u : List ℕ} → TwoBlocks q b a h w p r → get_or a w 0 < 2 ^ length q → s ≡ spread_words (length q) (get_or a w 0)
    → Multiple q (get_or a (h + w) 0) b m → t ≡ sum_words (length q) s m → w * length q + length q ≤ length p → u ≡ paste r (w * length q) t (length q) → v ≡ suc w
    → TwoBlocks q b a h v p u
two-turn q b a h {w} {v} {s} {m} {t} {p} {r} {u} f small es em et room eu ev = record {
  long = ap length eu ∙ length-paste r (w * n) t n within (omega (arith, nt)) ∙ f.long;
  rows = λ i k l d. at i (omega arith) (ℕ_discrete i w) l d;
}
  where
    n : ℕ
    n = length q

    within : w * n + n ≤ length r
    within = omega (arith, f.long)

    nt : length t ≡ n
    nt = ap length et ∙ length-tabulate n _

    S : Spread q (get_or a w 0) s
    S = spread-is q (get_or a w 0) small es

    at : (i : ℕ) → i < suc w → Dec (i ≡ w) → (l : ℕ) → l < 64 → lane l (words_at n u (i * n)) ≡ bit_xor (get_or a i 0) (mul (field_by q) (get_or a (h + i) 0) (lane l b))
    at i k (yes c) l d =
        ap (λ (j : ℕ). lane l (words_at n u (j * n))) c ∙ ap (λ z. lane l (words_at n z (w * n))) eu ∙ ap (lane l) (words_same r t (w * n) n within nt ∙ et ∙ sum-words n s m S.long em.long)
        ∙ lane-sum l s m ∙ ap₂ bit_xor (S.lanes l d) (em.lanes l) ∙ ap (λ (j : ℕ). bit_xor (get_or a j 0) (mul (field_by q) (get_or a (h + j) 0) (lane l b))) (sym c)
    at i k (no c) l d = ap (λ z. lane l (words_at n z (i * n))) eu ∙ ap (lane l) (words-other n r t w i within nt c) ∙ f.rows i (omega (arith, c)) l d
