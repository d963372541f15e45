-- Trace sums modulo the polynomial, one a level: what the loop over levels keeps, and why a begun table may be stepped
-- with them.
--   Levelling, Reaching, levelling-from, levelling-asks, levelling-on, levelling-end   the sums of the levels below k are
--   written
--   sums-long, sum-at, traced-at     where the sum of a level stands
--   level-value                      at a root of the polynomial it is the value of Tr(a^i z)
--   level-below, level-long          its coefficients are elements, and how many they are
--   BEGUN-SAME                       so it parts each factor of a begun table as Tr(a^i z) does
--   powers-few, powers-fit           the degree is at most the limit, and the sums of all levels have their room
--   Advancing, Advanced              a step with the sum of its level;  advance-asks, advance-fits, advance-ready  what it asks
--   Going, going-from, going-asks, going_on, GoingBy, turn-asks, turn-held, turn-ready, turn-on   what the engine's loop
--                                    keeps
-- Assumes nothing.
use mathlib.Core.Path.{◌≡◌, refl, sym, ap, ap₂, ◌∙◌, subst}
use mathlib.Core.Bool.{Bool, true}
use mathlib.Core.Option.{some}
use mathlib.Core.List.{List, [], ◌∷◌, ◌++◌, map, append_assoc}
use Prim.Native.Nat.{ℕ, zero, suc, ◌+◌, ◌-◌, ◌*◌, ◌^◌, ◌≤◌, ◌<◌, max}
use native.Mathlib.Nat.{mul-le-mul, mul-le-mul_right, suc-mul, le_trans}
use native.Mathlib.Decide.{dec_lt}
use native.Mathlib.Omega.{arith}
use lib.Dec.{T}
use lib.ListN.{length, get_or, take, drop, replicate, length-append, length-map, length-take, length-drop, length-replicate, take-append-drop}
use lib.Seq.{drop_at, take_all, take-append-le, drop-append-le, length-take-le}
use Rattle.algebra.specs.Field.{OnNumbers, power, trace}
use Rattle.algebra.specs.Trial.{All, up_from}
use Rattle.algebra.specs.Polynomial.{Below, add, eval, is_root, roots_of, trace_of}
use Rattle.algebra.specs.Routines.{monic, rem, norm, gcd, euclid, monic_roots}
use Rattle.algebra.proofs.Trial.{all_keep, all_map, distinct-keep, keep-passed}
use Rattle.algebra.proofs.Lengths.{length-rem, length-add, length-add-left}
use Rattle.algebra.proofs.StaysBelow.{add-below, eval-below, keep-below, monic-below, norm-below, power_below, rem_below, replicate-below, roots_of-below, trace_of-below}
use Rattle.field.specs.Rows.{known}
use Rattle.algebra.proofs.NumberMonic.{norm-made}
use Rattle.algebra.proofs.NumberEvaluation.{eval_add, eval-top}
use Rattle.algebra.proofs.NumberDivision.{eval-rem}
use Rattle.algebra.proofs.NumberSteps.{eval-trace_of, split-same}
use Rattle.algebra.proofs.RootList.{eval-one, roots_of-distinct, roots_of-norm}
use Rattle.slices.proofs.Lists.{take-zeros, drop-zeros}
use Rattle.input.proofs.Fields.{degree-within, known-field}
use Rattle.input.specs.Limit.{limit, widest}
use Rattle.input.specs.Polynomials.{PolynomialIn}
use Rattle.table_rules.specs.Groups.{group}
use Rattle.table_rules.specs.Entries.{entry_at, first_above}
use Rattle.table_rules.specs.Layout.{by_factor}
use Rattle.table_rules.specs.Table.{Table, decode}
use Rattle.table_rules.specs.Splitting.{trace_bit_at, first_factor, halving_at}
use Rattle.table_rules.specs.Demand.{groups_after}
use Rattle.table_rules.proofs.Layouts.{by_factor-lawful}
use Rattle.table_rules.proofs.Soundness.{decode-encode}
use Rattle.table_rules.proofs.Demand.{demand-3}
use Rattle.field.specs.Field.{G, roots_at}
use Rattle.poly.specs.Lent.{Lent, LogRow, held}
use Rattle.poly_powers.specs.Powers.{trace_sum}
use Rattle.poly_powers.specs.Asking.{Summable}
use Rattle.poly.proofs.Logs.{field_of, numbers_of, held-long}
use Rattle.poly_powers.proofs.TraceLoops.{rows_fit, next_place, part-front, part-long}
use Rattle.poly_powers.proofs.TraceValues.{trace_sum-below, power_rows-long, power_rows-row, trace-value}
use Rattle.table_rules.specs.Sizes.{slots}
use Rattle.table_slots.specs.Verdicts.{Chosen}
use Rattle.table_step.specs.Parting.{StepReady}
use Rattle.table_slots.specs.Slots.{width_of, taken_of, level_at, factor_at}
use Rattle.table_begin.specs.SplitPart.{Powered}
use Rattle.table_step.proofs.Commons.{level-fits, level-power}
use Rattle.table_step.proofs.Replacing.{factor-is, level-below-width}
use Rattle.find_solve.specs.Solving.{Stepping, Traced, Traceable, TracedTo, Reached, Held, held_at, Running, Solvable, level_sum, level_sums}
use Rattle.find_solve.specs.declared.Sums.{Sums}
use Rattle.table_rules.specs.Splitting.{slots_stepped}
use Rattle.find_solve.proofs.Running.{width-now, long-now, run_on}

-- ---- the sum of a level

-- a sum is no longer than its terms
add_most : (m n : ℕ) (p q : List ℕ) → length p ≤ n → length q ≤ n → length (add (G m) p q) ≤ n
add_most m n p q h g = go (dec_lt (length p) (length q))
  where
    go : Dec (length p < length q) → length (add (G m) p q) ≤ n
    go (yes j) = omega (arith, length-add (G m) p q (omega arith))
    go (no j) = omega (arith, length-add-left (G m) p q (omega arith))

-- nor is a sum of rows
sum-most : (m n k b : ℕ) (rows : List ℕ) → length (trace_sum m n k b rows) ≤ n
unfolding trace_sum
sum-most m n zero b rows = omega arith
sum-most m n (suc k) b rows =
    let h : length (take n rows) ≤ n = simp length-take (omega arith) in
    add_most m n (map ((G m).mul b) (held m (take n rows))) (trace_sum m n k ((G m).mul b b) (drop n rows))
    (omega (arith, length-map (held m (take n rows)) ((G m).mul b), held-long m (take n rows))) (sum-most m n k ((G m).mul b b) (drop n rows))

-- as long as a row
level-long : (m n : ℕ) (rows : List ℕ) (k : ℕ) → length (level_sum m n rows k) ≡ n
unfolding level_sum
level-long m n rows k =
    let z : length (replicate {A = ℕ} n 0) ≡ n = length-replicate n 0 in
    length-add-left (G m) (replicate n 0) (trace_sum m n m (power (G m) 2 k) rows) (omega (arith, sum-most m n m (power (G m) 2 k) rows)) ∙ z

-- and its coefficients are elements
level-below : {m : ℕ} {ls ts : List ℕ} → Lent m ls ts → (n : ℕ) (rows : List ℕ) (k : ℕ) → Below (2 ^ m) (level_sum m n rows k)
unfolding level_sum
level-below {m} l n rows k =
    let N : OnNumbers (G m) (2 ^ m) = numbers_of l in
    add-below N (replicate n 0) (trace_sum m n m (power (G m) 2 k) rows) (replicate-below (2 ^ m) n 0 N.zero-below)
    (trace_sum-below l n m (power (G m) 2 k) rows (power_below N 2 k (field_of l).two))

-- ---- `reach`

-- the sums of the levels below k are written, of those from r to i
pub record Levelling (m n : ℕ) (rows : List ℕ) (i r : ℕ) (traces₀ traces : List ℕ) (k at : ℕ) : Type 0 where
  pub last : k ≤ max r (i + 1)
  pub given : Traceable m n rows traces k i
  pub place : at ≡ k * n
  pub long : length traces ≡ length traces₀

pub levelling-from : {m : ℕ} {rows traces : List ℕ} {n k i : ℕ} → Traceable m n rows traces k i → Levelling m n rows i k traces traces k (k * n)
levelling-from g = record { last = omega arith; given = g; place = refl; long = refl }

module _ {m : ℕ} {ls ts : List ℕ} {n : ℕ} {rows : List ℕ} {i r : ℕ} {traces₀ traces : List ℕ} {k at : ℕ} (lent : Lent m ls ts) (p : Levelling m n rows i r traces₀ traces k at) where
  -- there is room for one more
  pub levelling-room : k ≤ i → at + n ≤ length traces
  levelling-room h = rows_fit k m n (omega (arith, p.given.level)) p.given.room p.place

  -- its place holds zeros
  zeros-at : k ≤ i → take (at + n - at) (drop at traces) ≡ replicate n 0
  zeros-at h =
      let r = levelling-room h in
      let d : at + n - at ≡ n = omega arith in
      ap₂ (λ j l. take j l) d (ap (λ j. drop j traces) p.place ∙ p.given.traced.rest) ∙ take-zeros n (length traces - k * n) (omega (arith, p.place))

  -- twice the level indexes the antilog table
  pub levelling-fits : k ≤ i → 2 * k < length ts
  levelling-fits h = level-fits {p = []} lent (record { small = tt; few = omega arith; level = omega (arith, p.given.level) })

  -- a^k
  base : k ≤ i → get_or ts (2 * k) 0 ≡ power (G m) 2 k
  base h = level-power {p = []} lent (record { small = tt; few = omega arith; level = omega (arith, p.given.level) })

  -- the sum can be added there
  pub levelling-asks : k ≤ i → Summable m rows m (get_or ts (2 * k) 0) (take (at + n - at) (drop at traces))
  levelling-asks h =
      let z = zeros-at h in
      record {
        element = subst (λ x. x < 2 ^ m) (sym (base h)) (power_below (numbers_of lent) 2 k (field_of lent).two);
        logs = p.given.logs;
        room-rows = subst (λ j. m * j ≤ length rows) (sym (ap length z ∙ length-replicate n 0)) p.given.rows_long;
      }

  -- one level more
  pub levelling-on : {y : List ℕ} → k ≤ i
      → y ≡ add (G m) (take (at + n - at) (drop at traces)) (trace_sum m (length (take (at + n - at) (drop at traces))) m (get_or ts (2 * k) 0) rows)
      → Levelling m n rows i r traces₀ (take at traces ++ (y ++ drop (at + n - at) (drop at traces))) (k + 1) ((k + 1) * n)
  unfolding level_sum level_sums
  levelling-on {y} h e =
      let fit = levelling-room h in
      let z = zeros-at h in
      let d : at + n - at ≡ n = omega arith in
      let s : k + 1 ≡ suc k = omega arith in
      let to : y ≡ level_sum m n rows k =
      e ∙ ap₂ (λ u b. add (G m) u (trace_sum m (length u) m b rows)) z (base h) ∙ ap (λ j. add (G m) (replicate n 0) (trace_sum m j m (power (G m) 2 k) rows)) (length-replicate n 0) in
      let ly : length y ≡ n = ap length to ∙ level-long m n rows k in
      let t₁ : List ℕ = take at traces ++ (y ++ drop (at + n - at) (drop at traces)) in
      let l₁ : length t₁ ≡ length traces = ap (λ j. length (take at traces ++ (y ++ drop j (drop at traces)))) d ∙ part-long at n y traces fit ly in
      let q : at + n ≡ (k + 1) * n = next_place k n p.place in
      let fr : take (at + n) t₁ ≡ take at traces ++ y = part-front at n (at + n - at) y traces fit ly in
      let bk : drop (at + n) t₁ ≡ replicate (length traces - (at + n)) 0 =
      ap (drop (at + n)) (sym (append_assoc (take at traces) y (drop (at + n - at) (drop at traces))))
      ∙ drop_at (take at traces ++ y) (drop (at + n - at) (drop at traces)) (at + n) (length-append (take at traces) y ∙ ap₂ (λ a b. a + b) (length-take-le at traces (omega arith)) ly)
      ∙ ap₂ (λ j l. drop j l) d (ap (λ j. drop j traces) p.place ∙ p.given.traced.rest) ∙ drop-zeros n (length traces - k * n)
      ∙ ap (λ j. replicate j 0) (let w : length traces - k * n - n ≡ length traces - (at + n) = omega (arith, p.place) in w) in
      record {
        last = omega arith;
        given = record {
          logs = p.given.logs;
          rows_long = p.given.rows_long;
          room = subst (λ j. m * n ≤ j) (sym l₁) p.given.room;
          within = omega (arith, p.given.level);
          level = p.given.level;
          traced = record {
            front = ap (λ j. take j t₁) (sym q) ∙ fr
                ∙ ap₂ (λ u v. u ++ v) (ap (λ j. take j traces) p.place ∙ p.given.traced.front) to ∙ ap (level_sums m n rows) (sym s);
            rest = ap (λ j. drop j t₁) (sym q) ∙ bk ∙ ap (λ j. replicate j 0) (ap₂ (λ a b. a - b) (sym l₁) q);
          };
        };
        place = refl;
        long = l₁ ∙ p.long;
      }

  -- at the end they all are
  pub levelling-end : {j : ℕ} → r ≤ k → i < k → j ≡ max r (i + 1) → TracedTo m n rows i j traces
  levelling-end {j} g h e =
      let s : k ≡ j = omega (arith, p.last) in
      subst (λ x. TracedTo m n rows i x traces) s (record { above = h; within = p.given.within; traced = p.given.traced })

-- the same of the sums and their rows as one
pub record Reaching (m : ℕ) (s₀ s : Sums) (i k : ℕ) : Type 0 where
  pub places : s.n ≡ s₀.n
  pub rows_are : s.rows.now ≡ s₀.rows.now
  pub from : s.ready ≡ s₀.ready
  pub levels : Levelling m s.n s.rows.now i s.ready s₀.traces s.traces k (k * s.n)

-- ---- where the sum of a level stands

module _ (m n : ℕ) (rows : List ℕ) where
  sums-long : (k : ℕ) → length (level_sums m n rows k) ≡ k * n
  unfolding level_sums
  sums-long zero = omega arith
  sums-long (suc k) =
      let a : suc k * n ≡ k * n + n = suc-mul k n in
      omega (arith, length-append (level_sums m n rows k) (level_sum m n rows k), sums-long k, level-long m n rows k)

  sum-at : (k i : ℕ) → i < k → take n (drop (i * n) (level_sums m n rows k)) ≡ level_sum m n rows i
  unfolding level_sums
  sum-at zero i h = absurd (let x : ⊥ = omega arith in x)
  sum-at (suc k) i h = go (dec_lt i k) (λ j. sum-at k i j)
    where
      go : Dec (i < k) → (i < k → take n (drop (i * n) (level_sums m n rows k)) ≡ level_sum m n rows i)
          → take n (drop (i * n) (level_sums m n rows k ++ level_sum m n rows k)) ≡ level_sum m n rows i
      go (yes j) rec =
          let a : suc i * n ≤ k * n = mul-le-mul_right n j in
          let b : suc i * n ≡ i * n + n = suc-mul i n in
          let e = sums-long k in
          ap (take n) (drop-append-le (i * n) (level_sums m n rows k) (level_sum m n rows k) (omega arith))
          ∙ take-append-le n (drop (i * n) (level_sums m n rows k)) (level_sum m n rows k) (omega (arith, length-drop (i * n) (level_sums m n rows k))) ∙ rec j
      go (no j) rec =
          let e : k ≡ i = omega arith in
          ap (take n) (drop_at (level_sums m n rows k) (level_sum m n rows k) (i * n) (sums-long k ∙ ap (λ a. a * n) e))
          ∙ take_all n (level_sum m n rows k) (omega (arith, level-long m n rows k)) ∙ ap (level_sum m n rows) e

  -- in the list that holds them
  traced-at : {i k : ℕ} {traces : List ℕ} → i < k → k * n ≤ length traces → Traced m n rows k traces → take n (drop (i * n) traces) ≡ level_sum m n rows i
  traced-at {i} {k} {traces} h r t =
      let a : suc i * n ≤ k * n = mul-le-mul_right n h in
      let b : suc i * n ≡ i * n + n = suc-mul i n in
      let f = length-take-le (k * n) traces r in
      let g : drop (i * n) (take (k * n) traces ++ drop (k * n) traces) ≡ drop (i * n) (take (k * n) traces) ++ drop (k * n) traces =
      drop-append-le (i * n) (take (k * n) traces) (drop (k * n) traces) (omega arith) in
      ap (λ u. take n (drop (i * n) u)) (sym (take-append-drop (k * n) traces)) ∙ ap (take n) g
      ∙ take-append-le n (drop (i * n) (take (k * n) traces)) (drop (k * n) traces) (omega (arith, length-drop (i * n) (take (k * n) traces)))
      ∙ ap (λ u. take n (drop (i * n) u)) t.front ∙ sum-at k i h

-- ---- its value at a root

-- what holds of all in two ways
all_both : {A : Type 0} (P Q : A → Type 0) (s : List A) → All P s → All Q s → All (λ x. P x × Q x) s
all_both P Q [] h g = tt
all_both P Q (x ∷ s) h g = ((h.0, g.0), all_both P Q s h.1 g.1)

module _ {m n : ℕ} {f ls ts rows : List ℕ} (l : Lent m ls ts) (hf : Below (2 ^ m) f) (g : Powered m f n rows) where
  abbrev N : OnNumbers (G m) (2 ^ m)
  N = numbers_of l

  abbrev z : List ℕ
  z = 0 ∷ 1 ∷ []

  -- the polynomial made monic
  small_low : Below (2 ^ m) g.low
  small_low = norm-below N (length f) f hf g.made

  small-z : Below (2 ^ m) z
  small-z = (N.zero-below, (N.one_below, tt))

  -- a^i is an element
  small_power : (i : ℕ) → power (G m) 2 i < 2 ^ m
  small_power i = power_below N 2 i (field_of l).two

  module _ (i r : ℕ) (hr : r < 2 ^ m) (root : eval (G m) (monic (G m) g.low) r ≡ 0) where
    -- z modulo the polynomial is r there
    z-value : eval (G m) (rem (G m) g.low z) r ≡ r
    z-value = eval-rem N g.low z small_low small-z r hr root ∙ eval-one N 0 r N.zero-below hr ∙ N.zero-add r hr

    zeros-value : eval (G m) (replicate n 0) r ≡ 0
    unfolding eval
    zeros-value = eval-top N [] n tt r hr

    -- and the sum of the level is Tr(a^i r)
    level-value : eval (G m) (level_sum m n rows i) r ≡ eval (G m) (trace_of (G m) m (power (G m) 2 i)) r
    unfolding level_sum
    level-value =
        let b : ℕ = power (G m) 2 i in
        let hb = small_power i in
        let w : List ℕ = rem (G m) g.low z in
        let t : List ℕ = trace_sum m n m b rows in
        let ht = trace_sum-below l n m b rows hb in
        let same : eval (G m) t r ≡ trace (G m) m ((G m).mul b r) =
        ap₂ (λ k u. eval (G m) (trace_sum m k m b u) r) (sym g.long) g.rows_are
        ∙ trace-value l g.low small_low r hr root m b w hb (rem_below N g.low z small_low small-z) (length-rem (G m) g.low z)
        ∙ ap (λ x. trace (G m) m ((G m).mul b x)) z-value in
        eval_add N (replicate n 0) t (replicate-below (2 ^ m) n 0 N.zero-below) ht r hr
        ∙ ap (λ x. (G m).add x (eval (G m) t r)) zeros-value ∙ N.zero-add (eval (G m) t r) (eval-below N t r ht hr) ∙ same
        ∙ sym (eval-trace_of N m b r hb hr)

  -- the roots are roots of the polynomial made monic
  all-roots : All (λ r. (r < 2 ^ m) × (eval (G m) (monic (G m) g.low) r ≡ 0)) (roots_at m f)
  unfolding roots_of
  all-roots =
      let F : List ℕ = monic (G m) g.low in
      let small : Below (2 ^ m) F = monic-below N g.low small_low in
      let rs : List ℕ = roots_at m F in
      let both : All (λ r. (r < 2 ^ m) × T (is_root (G m) F r)) rs =
      all_both (λ r. r < 2 ^ m) (λ r. T (is_root (G m) F r)) rs (roots_of-below (G m) (2 ^ m) F) (keep-passed (is_root (G m) F) (up_from 0 (2 ^ m))) in
      subst (All (λ r. (r < 2 ^ m) × (eval (G m) F r ≡ 0))) (roots_of-norm N f hf g.made)
      (all_map (λ r h. (h.0, (N.zero_test (eval (G m) F r) (eval-below N F r small h.0)).0 h.1)) rs both)

  -- so the sum parts the product over a group as Tr(a^i z) does
  group-same : (i : ℕ) (w : List Bool) → let p : List ℕ = monic_roots (G m) (group (trace_bit_at m) w (roots_at m f)) in
      gcd (G m) p (level_sum m n rows i) ≡ gcd (G m) p (trace_of (G m) m (power (G m) 2 i))
  group-same i w =
      let b : ℕ = power (G m) 2 i in
      split-same N (group (trace_bit_at m) w (roots_at m f)) (level_sum m n rows i) (trace_of (G m) m b)
      (keep-below (2 ^ m) _ (roots_at m f) (roots_of-below (G m) (2 ^ m) f)) (level-below l n rows i) (trace_of-below N m b (small_power i))
      (distinct-keep _ (roots_at m f) (roots_of-distinct (G m) (2 ^ m) f))
      (all_keep (λ r. eval (G m) (level_sum m n rows i) r ≡ eval (G m) (trace_of (G m) m b) r) _ (roots_at m f)
      (all_map (λ r h. level-value i r h.0 h.1) (roots_at m f) all-roots))

  -- what holds of the empty list and of the product over each group holds of each factor
  each-entry : (Q : List ℕ → Type 0) → Q [] → ((w : List Bool) → Q (monic_roots (G m) (group (trace_bit_at m) w (roots_at m f)))) → (ws : List (List Bool)) (k : ℕ)
      → Q (entry_at (map (λ w. (length w, monic_roots (G m) (group (trace_bit_at m) w (roots_at m f)))) ws) k).1
  each-entry Q empty whole [] k = empty
  each-entry Q empty whole (w ∷ ws) zero = whole w
  each-entry Q empty whole (w ∷ ws) (suc k) = each-entry Q empty whole ws k

  -- THE LAW: the factor that a step splits is parted by the sum of any level as by the trace
  begun-same : {c : ℕ} {table : List ℕ} {o : ℕ} → Stepping m c f table → Chosen table o → (i : ℕ)
      → gcd (G m) (factor_at table o) (level_sum m n rows i) ≡ (halving_at m).low i (factor_at table o)
  unfolding gcd euclid
  begun-same {c} {table} {o} s h i =
      let k : ℕ = taken_of table in
      let t : Table = groups_after m c (roots_at m f) k in
      let is : decode by_factor table ≡ t = ap (decode by_factor) s.slots-are ∙ decode-encode by_factor-lawful slots t in
      let D = (demand-3 m s.field c s.least f).order k in
      let b : ℕ = power (G m) 2 i in
      let Q : List ℕ → Type 0 = λ p. gcd (G m) p (level_sum m n rows i) ≡ gcd (G m) p (trace_of (G m) m b) in
      subst Q (sym (factor-is table h ∙ ap (λ u. (first_factor u).1) is))
      (subst (λ fs. Q (entry_at fs (first_above c t.factors)).1) (sym D.3) (each-entry Q refl (group-same i) D.0 (first_above c t.factors)))

-- ---- a step

-- the factor at o is the one that a step splits, and the sum at its level parts it as Tr(a^i z) does
pub record Advancing (m n : ℕ) (rows traces : List ℕ) (k : ℕ) (table : List ℕ) (o : ℕ) : Type 0 where
  pub chosen : Chosen table o
  pub width : width_of table ≡ m
  pub few : n ≤ limit
  pub traceable : Traceable m n rows traces k (level_at table o)
  pub same : gcd (G m) (factor_at table o) (level_sum m n rows (level_at table o))
      ≡ (halving_at m).low (level_at table o) (factor_at table o)

-- it is taken
pub record Advanced (m n : ℕ) (rows table : List ℕ) (k : ℕ) (traces table' : List ℕ) : Type 0 where
  pub stepped : table' ≡ slots_stepped by_factor table
  pub within : k ≤ m
  pub traced : Traced m n rows k traces

module _ {m : ℕ} {ls ts : List ℕ} {n : ℕ} {rows traces : List ℕ} {k : ℕ} {table : List ℕ} {o : ℕ} (lent : Lent m ls ts) (g : Advancing m n rows traces k table o) where
  module _ {i : ℕ} (at : i ≡ level_at table o) where
    -- the sums up to the level can be taken
    pub advance-asks : Traceable m n rows traces k i
    advance-asks = subst (Traceable m n rows traces k) (sym at) g.traceable

    -- that of the level has its place
    pub advance-fits : i * n + n ≤ length traces
    advance-fits = rows_fit i m n advance-asks.level g.traceable.room refl

    -- and what stands there can be lent to the step
    pub advance-ready : {j : ℕ} {traces₁ : List ℕ} → TracedTo m n rows i j traces₁ → length traces₁ ≡ length traces
        → StepReady m table o (take n (drop (i * n) traces₁))
    advance-ready {j} {traces₁} t e =
        let r : j * n ≤ length traces₁ = subst (λ x. j * n ≤ x) (sym e) (le_trans (mul-le-mul_right n t.within) g.traceable.room) in
        let is : level_sum m n rows i ≡ take n (drop (i * n) traces₁) = sym (traced-at m n rows t.above r t.traced) in
        let few : length (level_sum m n rows i) ≤ limit = omega (arith, level-long m n rows i, g.few) in
        subst (StepReady m table o) is (record {
          chosen = g.chosen;
          width = sym g.width;
          small = level-below lent n rows i;
          few = few;
          same = ap (λ x. gcd (G m) (factor_at table o) (level_sum m n rows x)) at ∙ g.same;
        })

-- ---- `run_table`

-- the degree of the polynomial is at most the limit
powers-few : {m : ℕ} {f low : List ℕ} → PolynomialIn m f → norm (G m) (length f) f ≡ some low → length low ≤ limit
powers-few {m} {f} t e = omega (arith, (norm-made (known-field m t.field).numbers f t.small e).shorter, t.few)

-- so that the sums of all levels have their room
pub powers-fit : (m n : ℕ) → known m ≡ true → n ≤ limit → m * n ≤ widest * limit
powers-fit m n k h = mul-le-mul {n₂ = widest} {m₂ = limit} (degree-within m k) h

-- a begun table after some steps, with the sums of the levels below k
pub record Going (m c : ℕ) (f : List ℕ) (n : ℕ) (rows traces₀ table₀ traces table : List ℕ) (k : ℕ) : Type 0 where
  pub stepping : Stepping m c f table
  pub long-table : length table ≡ length table₀
  pub long-traces : length traces ≡ length traces₀
  pub within : k ≤ m
  pub traced : Traced m n rows k traces

module _ {m c : ℕ} {f ls ts : List ℕ} {n : ℕ} {rows traces₀ table₀ : List ℕ} (lent : Lent m ls ts) (zeros : traces₀ ≡ replicate (widest * limit) 0)
    (g : Running m c f n rows table₀) where
  pub going-from : Going m c f n rows traces₀ table₀ traces₀ table₀ 0
  unfolding level_sums
  going-from =
      let z : 0 * n ≡ 0 = omega arith in
      let e : length traces₀ - 0 * n ≡ (widest * limit) = omega (arith, ap length zeros, length-replicate {A = ℕ} (widest * limit) 0) in
      record {
        stepping = g.stepping;
        long-table = refl;
        long-traces = refl;
        within = omega arith;
        traced = record {
          front = ap (λ j. take j traces₀) z;
          rest = ap (λ j. drop j traces₀) z ∙ zeros ∙ ap (λ j. replicate j 0) (sym e);
        };
      }

  module _ {traces table : List ℕ} {k : ℕ} (w : Going m c f n rows traces₀ table₀ traces table k) {o : ℕ} (h : Chosen table o) where
    -- what the next step asks
    pub going-asks : Advancing m n rows traces k table o
    going-asks =
        let q = g.powers in
        let few : n ≤ limit = subst (λ j. j ≤ limit) q.long (powers-few g.polynomial q.made) in
        let small = small_low lent g.polynomial.small q in
        let z1 : List ℕ = rem (G m) q.low (0 ∷ 1 ∷ []) in
        let lz : length z1 ≡ length q.low = length-rem (G m) q.low (0 ∷ 1 ∷ []) in
        let hz : Below (2 ^ m) z1 = rem_below (numbers_of lent) q.low (0 ∷ 1 ∷ []) small (small-z lent g.polynomial.small q) in
        let long : length rows ≡ m * n = ap length q.rows_are ∙ power_rows-long lent q.low small m z1 lz ∙ ap (λ j. m * j) q.long in
        let fit : m * n ≤ widest * limit = powers-fit m n g.polynomial.field few in
        let width = width-now w.stepping in
        record {
          chosen = h;
          width = width;
          few = few;
          traceable = record {
            logs = subst (LogRow m) (sym q.rows_are) (power_rows-row lent q.low small m z1 hz);
            rows_long = omega arith;
            room = omega (arith, w.long-traces, ap length zeros, length-replicate {A = ℕ} (widest * limit) 0);
            within = w.within;
            level = omega (arith, level-below-width table h, width);
            traced = w.traced;
          };
          same = begun-same lent g.polynomial.small q w.stepping h (level_at table o);
        }

    -- and what it leaves
    pub going_on : {traces₁ table₁ : List ℕ} {j : ℕ} → Advanced m n rows table j traces₁ table₁ → length traces₁ ≡ length traces → Going m c f n rows traces₀ table₀ traces₁ table₁ j
    going_on a e =
        let s = run_on w.stepping h.more a.stepped in
        record {
          stepping = s;
          long-table = long-now s ∙ sym (long-now w.stepping) ∙ w.long-table;
          long-traces = e ∙ w.long-traces;
          within = a.within;
          traced = a.traced;
        }

-- the same with the sums and their rows as one
pub record GoingBy (m c : ℕ) (f : List ℕ) (n : ℕ) (rows table₀ table : List ℕ) (s : Sums) : Type 0 where
  pub places : s.n ≡ n
  pub rows_are : s.rows.now ≡ rows
  pub going : Going m c f s.n s.rows.now (replicate (widest * limit) 0) table₀ s.traces table s.ready

module _ {m c : ℕ} {f ls ts : List ℕ} {n : ℕ} {rows table₀ table : List ℕ} {s : Sums} (lent : Lent m ls ts)
    (g : Running m c f n rows table₀) (w : GoingBy m c f n rows table₀ table s) where
  -- over the rows of the sums
  by-sums : Running m c f s.n s.rows.now table₀
  by-sums = rw (w.places, w.rows_are) g

  module _ {o : ℕ} (h : Chosen table o) {i : ℕ} (at : i ≡ level_at table o) where
    adv : Advancing m s.n s.rows.now s.traces s.ready table o
    adv = going-asks lent refl by-sums w.going h

    -- the sums up to the level can be taken
    pub turn-asks : Traceable m s.n s.rows.now s.traces s.ready i
    turn-asks = advance-asks lent adv at

    module _ {s' : Sums} (r : Reached m s i s') where
      -- that of the level stands in its place
      pub turn-held : Held s' i
      turn-held = subst (λ j. i * j + j ≤ length s'.traces) (sym r.places) (omega (arith, advance-fits lent adv at, r.long))

      -- and parts the factor
      pub turn-ready : {t : List ℕ} → t ≡ held_at s' i → StepReady m table o t
      turn-ready e = rw (e, r.places) (advance-ready lent adv at r.traced r.long)

      -- a turn
      pub turn-on : {table' : List ℕ} → table' ≡ slots_stepped by_factor table → GoingBy m c f n rows table₀ table' s'
      turn-on e = record {
        places = r.places ∙ w.places;
        rows_are = r.rows_are ∙ w.rows_are;
        going = rw (r.places, r.rows_are) (going_on lent refl by-sums w.going h (record { stepped = e; within = r.traced.within; traced = r.traced.traced }) r.long);
      }

-- and the rows of its powers have their room
pub powered-fit : {m c : ℕ} {f hs roots rows : List ℕ} {n : ℕ} → Solvable m c f hs roots → Powered m f n rows → m * n ≤ widest * limit
powered-fit {m} {n = n} g p = powers-fit m n g.polynomial.field (subst (λ j. j ≤ limit) p.long (powers-few g.polynomial p.made))
