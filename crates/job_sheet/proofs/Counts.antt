-- Counts and sums over entries: with one entry more, at the front or at the end, and one list behind the other.
--   bit                        1 where a test holds, else 0
--   count-first, sum_first     with an entry before them
--   count-append, sum-append   of two lists: the sum
--   count-more, sum_more       with an entry behind them: 1, or its figure, where it passes the test
--   count_yes, count_no, sum-yes, sum-no   by what the test says
--   sum_bound                  a sum grows by no more than the figure of the one that is added
--   count-few                  there are no more than entries
--   accepted-zero              an accepted entry has the number 0
--   highest-more, highest-same   the highest with one entry more, accepted in the field or not
-- Assumes nothing.
use Rattle.std.proofs.Common.{◌≡◌, ℕ, zero, suc, ◌+◌, ◌≤◌, Bool, true, false, cond, not, ◌&&◌, eqb, List, [], ◌∷◌, ◌++◌, length, sym, refl, ap, ◌∙◌, true≢false, add-zero, arith, eq-eqb, ne_eqb, eqb-true}
use Rattle.job_sheet.specs.Entries.{Entry}
use Rattle.job_sheet.specs.Figures.{count_of, sum_of, accepted_in, competes, peak_of, better, highest_from}
use Rattle.job_sheet.specs.Adding.{risen}
use Rattle.job_sheet.proofs.Better.{better-none, highest-append}

abbrev pub bit : Bool → ℕ
bit b = cond b 1 0

module _ (t : Entry → Bool) where
  pub count-first : (e : Entry) (es : List Entry) → count_of t (e ∷ es) ≡ bit (t e) + count_of t es
  unfolding count_of
  count-first e es = go (t e)
    where
      go : (b : Bool) → cond b (suc (count_of t es)) (count_of t es) ≡ bit b + count_of t es
      go true = omega arith
      go false = omega arith

  pub count-append : (es ds : List Entry) → count_of t (es ++ ds) ≡ count_of t es + count_of t ds
  unfolding count_of
  count-append [] ds = omega arith
  count-append (e ∷ es) ds = omega (arith, count-first e (es ++ ds), count-first e es, count-append es ds)

  pub count-few : (es : List Entry) → count_of t es ≤ length es
  unfolding count_of
  count-few [] = omega arith
  count-few (e ∷ es) = go (t e) (count-few es)
    where
      go : (b : Bool) → count_of t es ≤ length es → cond b (suc (count_of t es)) (count_of t es) ≤ suc (length es)
      go true h = omega arith
      go false h = omega arith

  module _ (es : List Entry) (e : Entry) where
    pub count-more : count_of t (es ++ e ∷ []) ≡ count_of t es + bit (t e)
    unfolding count_of
    count-more = count-append es (e ∷ [])

    pub count_yes : t e ≡ true → count_of t (es ++ e ∷ []) ≡ count_of t es + 1
    count_yes y = count-more ∙ ap (λ b. count_of t es + bit b) y

    pub count_no : t e ≡ false → count_of t (es ++ e ∷ []) ≡ count_of t es
    count_no n = count-more ∙ ap (λ b. count_of t es + bit b) n ∙ add-zero (count_of t es)

module _ (f : Entry → ℕ) (t : Entry → Bool) where
  pub sum_first : (e : Entry) (es : List Entry) → sum_of f t (e ∷ es) ≡ cond (t e) (f e) 0 + sum_of f t es
  unfolding sum_of
  sum_first e es = go (t e)
    where
      go : (b : Bool) → cond b (f e + sum_of f t es) (sum_of f t es) ≡ cond b (f e) 0 + sum_of f t es
      go true = refl
      go false = omega arith

  pub sum-append : (es ds : List Entry) → sum_of f t (es ++ ds) ≡ sum_of f t es + sum_of f t ds
  unfolding sum_of
  sum-append [] ds = omega arith
  sum-append (e ∷ es) ds = omega (arith, sum_first e (es ++ ds), sum_first e es, sum-append es ds)

  module _ (es : List Entry) (e : Entry) where
    sum_more : sum_of f t (es ++ e ∷ []) ≡ sum_of f t es + cond (t e) (f e) 0
    unfolding sum_of
    sum_more = omega (arith, sum-append es (e ∷ []), sum_first e [])

    pub sum-yes : t e ≡ true → sum_of f t (es ++ e ∷ []) ≡ sum_of f t es + f e
    sum-yes y = sum_more ∙ ap (λ b. sum_of f t es + cond b (f e) 0) y

    pub sum-no : t e ≡ false → sum_of f t (es ++ e ∷ []) ≡ sum_of f t es
    sum-no n = sum_more ∙ ap (λ b. sum_of f t es + cond b (f e) 0) n ∙ add-zero (sum_of f t es)

    pub sum_bound : (b : ℕ) → (t e ≡ true → f e ≤ b) → sum_of f t (es ++ e ∷ []) ≤ sum_of f t es + b
    sum_bound b h = go (t e) refl
      where
        go : (c : Bool) → t e ≡ c → sum_of f t (es ++ e ∷ []) ≤ sum_of f t es + b
        go true y = omega (arith, sum-yes y, h y)
        go false n = omega (arith, sum-no n)

-- ---- accepted entries

pub accepted-zero : (m : ℕ) (e : Entry) → accepted_in m e ≡ true → e.number ≡ 0
accepted-zero m e y = go (eqb e.field m) (eqb e.number 0) refl y
  where
    go : (a b : Bool) → eqb e.number 0 ≡ b → (a && b) ≡ true → e.number ≡ 0
    go true true t y = eqb-true e.number 0 t
    go true false t y = absurd (true≢false (sym y))
    go false b t y = absurd (true≢false (sym y))

module _ (m : ℕ) (es : List Entry) (e : Entry) where
  -- the last entry alone
  highest-last : highest_from m 1 (es ++ e ∷ []) ≡ better (highest_from m 1 es) (highest_from m (suc (length es)) (e ∷ []))
  highest-last =
      let n : 1 + length es ≡ suc (length es) = omega arith in
      highest-append m 1 es (e ∷ []) ∙ ap (λ i. better (highest_from m 1 es) (highest_from m i (e ∷ []))) n

  none-added : competes m e ≡ false → highest_from m 1 (es ++ e ∷ []) ≡ highest_from m 1 es
  unfolding highest_from
  none-added c = highest-last ∙ rw c (better-none (highest_from m 1 es))

  pub highest-same : accepted_in m e ≡ false → highest_from m 1 (es ++ e ∷ []) ≡ highest_from m 1 es
  highest-same n = none-added (ap (λ b. b && not (eqb e.limit 0)) n)

  pub highest-more : accepted_in m e ≡ true
      → highest_from m 1 (es ++ e ∷ []) ≡ risen (highest_from m 1 es) (peak_of (suc (length es)) e)
  unfolding risen highest_from better
  highest-more y = go e.limit refl
    where
      go : (l : ℕ) → e.limit ≡ l
          → highest_from m 1 (es ++ e ∷ []) ≡ risen (highest_from m 1 es) (peak_of (suc (length es)) e)
      go zero z =
          let b : eqb e.limit 0 ≡ true = eq-eqb e.limit 0 z in
          let c : competes m e ≡ false = rw (y, b) in
          none-added c ∙ rw b
      go (suc l) z =
          let b : eqb e.limit 0 ≡ false = ne_eqb e.limit 0 (λ x. omega arith) in
          let c : competes m e ≡ true = rw (y, b) in
          highest-last ∙ rw (c, b)
