-- What a trace sum of rows means: at a root r of p, where the rows hold the powers w, w^2, w^4, .. modulo p, it is the
-- trace of b w(r).
--   trace_sum-below   its coefficients are elements
--   power_rows-long   how long the rows are;  power_rows-row  they are logs
--   TRACE-VALUE      the law
-- Assumes nothing.
use mathlib.Core.Path.{◌≡◌, refl, sym, ap, ap₂, ◌∙◌}
use mathlib.Core.List.{List, [], ◌∷◌, ◌++◌, map}
use Prim.Native.Nat.{ℕ, zero, suc, ◌+◌, ◌*◌, ◌^◌, ◌<◌}
use native.Mathlib.Nat.{suc-mul}
use native.Mathlib.Omega.{arith}
use lib.ListN.{length, get_or, take, drop, length-append, length-map}
use lib.Seq.{take_at, drop_at}
use Rattle.algebra.specs.Field.{OnNumbers, trace}
use Rattle.algebra.specs.Polynomial.{Below, add, eval}
use Rattle.algebra.specs.Routines.{monic, rem, square}
use Rattle.algebra.proofs.Lengths.{length-rem}
use Rattle.algebra.proofs.StaysBelow.{add-below, eval-below, rem_below, scale-below, square-below}
use Rattle.algebra.proofs.NumberElements.{square-mul}
use Rattle.algebra.proofs.NumberEvaluation.{eval_add, eval-scale, eval-square}
use Rattle.algebra.proofs.NumberDivision.{eval-rem}
use Rattle.field.specs.Field.{field_at, G}
use Rattle.field.specs.Tables.{log_of}
use Rattle.poly.specs.Lent.{Lent, LogRow, IsLog, log_row, held}
use Rattle.poly_powers.specs.Powers.{power_rows, trace_sum}
use Rattle.poly.proofs.Logs.{numbers_of, held-row, held_below, row-is-row}

module _ {m : ℕ} {ls ts : List ℕ} (l : Lent m ls ts) where
  abbrev N : OnNumbers (G m) (2 ^ m)
  N = numbers_of l

  -- its coefficients are elements, whatever the rows hold
  pub trace_sum-below : (n k b : ℕ) (rows : List ℕ) → b < 2 ^ m → Below (2 ^ m) (trace_sum m n k b rows)
  unfolding trace_sum
  trace_sum-below n zero b rows h = tt
  trace_sum-below n (suc k) b rows h =
      add-below N (map ((G m).mul b) (held m (take n rows))) (trace_sum m n k ((G m).mul b b) (drop n rows))
      (scale-below N b (held m (take n rows)) h (held_below l (take n rows))) (trace_sum-below n k ((G m).mul b b) (drop n rows) (N.mul-below b b h h))

  module _ (p : List ℕ) (hp : Below (2 ^ m) p) where
    -- the next power
    next_small : (w : List ℕ) → Below (2 ^ m) w → Below (2 ^ m) (rem (G m) p (square (G m) w))
    next_small w hw = rem_below N p (square (G m) w) hp (square-below N w hw)

    next-long : (w : List ℕ) → length (rem (G m) p (square (G m) w)) ≡ length p
    next-long w = length-rem (G m) p (square (G m) w)

    -- the rows stand one behind the other
    pub power_rows-long : (k : ℕ) (w : List ℕ) → length w ≡ length p → length (power_rows m p k w) ≡ k * length p
    unfolding power_rows
    power_rows-long zero w e = omega arith
    power_rows-long (suc k) w e =
        let a : suc k * length p ≡ k * length p + length p = suc-mul k (length p) in
        omega (
          arith,
          length-append (log_row m w) (power_rows m p k (rem (G m) p (square (G m) w))),
          length-map w (log_of (field_at m)),
          power_rows-long k (rem (G m) p (square (G m) w)) (next-long w),
        )

    -- and are logs
    pub power_rows-row : (k : ℕ) (w : List ℕ) → Below (2 ^ m) w → LogRow m (power_rows m p k w)
    unfolding power_rows
    power_rows-row zero w hw = record { entry = λ i h. absurd (let x : ⊥ = omega arith in x) }
    power_rows-row (suc k) w hw =
        let rest : List ℕ = power_rows m p k (rem (G m) p (square (G m) w)) in
        let a : LogRow m (log_row m w) = row-is-row l w hw in
        let b : LogRow m rest = power_rows-row k (rem (G m) p (square (G m) w)) (next_small w hw) in
        record { entry = λ i h. both (log_row m w) rest a b i h }
      where
        both : (u v : List ℕ) → LogRow m u → LogRow m v → (i : ℕ) → i < length (u ++ v) → IsLog m (get_or (u ++ v) i 0)
        both [] v a b i h = b.entry i h
        both (x ∷ u) v a b zero h = a.entry 0 (omega arith)
        both (x ∷ u) v a b (suc i) h = both u v (record { entry = λ j g. a.entry (suc j) (omega arith) }) b i (omega arith)

    module _ (r : ℕ) (hr : r < 2 ^ m) (root : eval (G m) (monic (G m) p) r ≡ 0) where
      -- the square of a remainder has the square of its value
      next-value : (w : List ℕ) → Below (2 ^ m) w → eval (G m) (rem (G m) p (square (G m) w)) r ≡ (G m).mul (eval (G m) w r) (eval (G m) w r)
      next-value w hw = eval-rem N p (square (G m) w) hp (square-below N w hw) r hr root ∙ eval-square N w hw r hr

      -- THE LAW
      pub trace-value : (k b : ℕ) (w : List ℕ) → b < 2 ^ m → Below (2 ^ m) w → length w ≡ length p
          → eval (G m) (trace_sum m (length p) k b (power_rows m p k w)) r ≡ trace (G m) k ((G m).mul b (eval (G m) w r))
      unfolding trace_sum power_rows eval trace
      trace-value zero b w hb hw e = refl
      trace-value (suc k) b w hb hw e =
          let w₁ : List ℕ = rem (G m) p (square (G m) w) in
          let rest : List ℕ = power_rows m p k w₁ in
          let n : ℕ = length p in
          let long : length (log_row m w) ≡ n = length-map w (log_of (field_at m)) ∙ e in
          let v : ℕ = eval (G m) w r in
          let hv : v < 2 ^ m = eval-below N w r hw hr in
          let bb : ℕ = (G m).mul b b in
          let hbb : bb < 2 ^ m = N.mul-below b b hb hb in
          let first : held m (take n (log_row m w ++ rest)) ≡ w = ap (held m) (take_at (log_row m w) rest n long) ∙ held-row l w hw in
          let behind : drop n (log_row m w ++ rest) ≡ rest = drop_at (log_row m w) rest n long in
          ap₂ (λ x y. eval (G m) (add (G m) (map ((G m).mul b) x) (trace_sum m n k bb y)) r) first behind
          ∙ eval_add N (map ((G m).mul b) w) (trace_sum m n k bb rest) (scale-below N b w hb hw) (trace_sum-below n k bb rest hbb) r hr
          ∙ ap₂ (G m).add (eval-scale N b w hb hw r hr)
          (trace-value k bb w₁ hbb (next_small w hw) (next-long w)
          ∙ ap (λ x. trace (G m) k x) (ap ((G m).mul bb) (next-value w hw) ∙ sym (square-mul N b v hb hv)))
