-- The higher of two records against their limits, and the highest of many, one list of entries behind the other.
--   Limited          a record has a limit;  highest-limited  so has the highest of every list
--   product-fits     a product of steps and a limit fits
--   lower-trans      s/l < t/k and t/k < u/j give s/l < u/j, by products;  least-trans  so with ≤
--   higher-first, higher-second   the first where it does not stand lower, and the second where it does
--   better-none      with none behind it, the highest stays
--   better-assoc     OF THREE IT DOES NOT MATTER WHICH TWO ARE COMPARED FIRST
--   competes-limit   who competes has a limit
--   highest-append   THE HIGHEST OF TWO LISTS is the better of the highest of each
-- Assumes nothing.
use Rattle.std.proofs.Common.{◌≡◌, ℕ, zero, suc, ◌+◌, ◌*◌, ◌^◌, ◌<◌, ◌≤◌, Bool, true, false, cond, not, ◌&&◌, eqb, List, [], ◌∷◌, ◌++◌, length, sym, refl, ap, ◌∙◌, true≢false, add-zero, mul-le-mul_right, mul-le-mul, lt_of_mul-lt-mul_right, mul-lt-mul_of_pos_right, mul_right_comm, le_of_mul-le-mul_right, arith, ltb-false, ltb-true, le-ltb, lt-ltb}
use Rattle.std.specs.Prelude.{⊤, Option, Some, None}
use Rattle.job_sheet.specs.Entries.{Entry}
use Rattle.job_sheet.specs.Figures.{Peak, peak_of, competes, stands_lower, higher, better, highest_from}

-- ---- fractions by products

-- of two numbers of 16 bits
pub product-fits : {s l : ℕ} → s < 2 ^ 16 → l < 2 ^ 16 → s * l < 2 ^ 32
product-fits {s} {l} a b =
    let h : s * l ≤ 65535 * 65535 =
    mul-le-mul (let x : s ≤ 65535 = omega arith in x) (let y : l ≤ 65535 = omega arith in y) in
    omega arith

-- the second has a limit
lower-trans : (s l t k u j : ℕ) → 0 < l → s * k < t * l → t * j < u * k → s * j < u * l
lower-trans s l t k u j h a b =
    let one : s * k * j ≤ t * l * j = mul-le-mul_right j (omega arith) in
    let two : t * j * l < u * k * l = mul-lt-mul_of_pos_right b h in
    lt_of_mul-lt-mul_right k
    (omega (arith, one, two, mul_right_comm s k j, mul_right_comm t l j, mul_right_comm u k l))

-- the second has a limit
pub least-trans : (s l t k u j : ℕ) → 0 < k → t * l ≤ s * k → u * k ≤ t * j → u * l ≤ s * j
least-trans s l t k u j h a b =
    let one : t * l * j ≤ s * k * j = mul-le-mul_right j a in
    let two : u * k * l ≤ t * j * l = mul-le-mul_right l b in
    le_of_mul-le-mul_right
    (omega (arith, one, two, mul_right_comm s k j, mul_right_comm t l j, mul_right_comm u k l)) h

-- ---- the higher of two

pub higher-second : (p q : Peak) → stands_lower p q ≡ true → higher p q ≡ q
higher-second p q e = rw e

pub higher-first : (p q : Peak) → stands_lower p q ≡ false → higher p q ≡ p
higher-first p q e = rw e

-- one that competes has a limit
unfoldable pub Limited : Option Peak → Type 0
Limited None = ⊤
Limited (Some p) = 0 < p.limit

-- with none behind it, the highest stays
pub better-none : (p : Option Peak) → better p None ≡ p
unfolding better
better-none None = refl
better-none (Some p) = refl

better-limited : (p : Peak) (q : Option Peak) → 0 < p.limit → Limited q → Limited (better (Some p) q)
unfolding better Limited
better-limited p None h l = h
better-limited p (Some q) h l = go (stands_lower p q)
  where
    go : (b : Bool) → 0 < (cond b q p).limit
    go true = l
    go false = h

module _ (p h q : Peak) (lp : 0 < p.limit) (lh : 0 < h.limit) where
  three : (a b : Bool) → stands_lower p h ≡ a → stands_lower h q ≡ b → higher p (higher h q) ≡ higher (higher p h) q
  three true true e f =
      let below : stands_lower p q ≡ true =
      lt-ltb _ _
      (lower-trans p.steps p.limit h.steps h.limit q.steps q.limit lp (ltb-true _ _ e) (ltb-true _ _ f)) in
      rw (higher-second h q f, higher-second p h e, higher-second h q f, higher-second p q below)
  three true false e f = rw (higher-first h q f, higher-second p h e, higher-first h q f)
  three false true e f = rw (higher-second h q f, higher-first p h e)
  three false false e f =
      let above : stands_lower p q ≡ false =
      le-ltb _ _
      (least-trans p.steps p.limit h.steps h.limit q.steps q.limit lh (ltb-false _ _ e) (ltb-false _ _ f)) in
      rw (higher-first h q f, higher-first p h e, higher-first p q above)

pub better-assoc : (p h q : Option Peak) → Limited p → Limited h → better p (better h q) ≡ better (better p h) q
unfolding better Limited
better-assoc None h q lp lh = refl
better-assoc (Some p) None q lp lh = refl
better-assoc (Some p) (Some h) None lp lh = refl
better-assoc (Some p) (Some h) (Some q) lp lh = ap Some (three p h q lp lh (stands_lower p h) (stands_lower h q) refl refl)

-- ---- the highest of many

pub competes-limit : (m : ℕ) (e : Entry) → competes m e ≡ true → 0 < e.limit
competes-limit m e c = go (eqb e.field m) (eqb e.number 0) e.limit refl c
  where
    go : (a b : Bool) (l : ℕ) → e.limit ≡ l → ((a && b) && not (eqb e.limit 0)) ≡ true → 0 < e.limit
    go true true zero z t = absurd (true≢false (sym (rw z at t)))
    go true true (suc l) z t = omega arith
    go true false l z t = absurd (true≢false (sym t))
    go false b l z t = absurd (true≢false (sym t))

highest-limited : (m k : ℕ) (es : List Entry) → Limited (highest_from m k es)
unfolding highest_from Limited
highest-limited m k [] = tt
highest-limited m k (e ∷ es) = go (competes m e) refl (highest-limited m (suc k) es)
  where
    go : (b : Bool) → competes m e ≡ b → Limited (highest_from m (suc k) es)
        → Limited (cond b (better (Some (peak_of k e)) (highest_from m (suc k) es)) (highest_from m (suc k) es))
    go true c f = better-limited (peak_of k e) (highest_from m (suc k) es) (competes-limit m e c) f
    go false c f = f

pub highest-append : (m k : ℕ) (es ds : List Entry)
    → highest_from m k (es ++ ds) ≡ better (highest_from m k es) (highest_from m (k + length es) ds)
unfolding highest_from better Limited
highest-append m k [] ds = ap (λ n. highest_from m n ds) (sym (add-zero k))
highest-append m k (e ∷ es) ds =
    go (competes m e) refl
    (highest-append m (suc k) es ds ∙ ap (λ i. better (highest_from m (suc k) es) (highest_from m i ds)) n)
  where
    n : suc k + length es ≡ k + suc (length es)
    n = omega arith

    go : (b : Bool) → competes m e ≡ b
        → highest_from m (suc k) (es ++ ds) ≡ better (highest_from m (suc k) es) (highest_from m (k + suc (length es)) ds)
        → cond b (better (Some (peak_of k e)) (highest_from m (suc k) (es ++ ds))) (highest_from m (suc k) (es ++ ds))
        ≡ better (cond b (better (Some (peak_of k e)) (highest_from m (suc k) es)) (highest_from m (suc k) es))
        (highest_from m (k + suc (length es)) ds)
    go true c more =
        ap (better (Some (peak_of k e))) more
        ∙ better-assoc (Some (peak_of k e)) (highest_from m (suc k) es) (highest_from m (k + suc (length es)) ds)
        (competes-limit m e c) (highest-limited m (suc k) es)
    go false c more = more
