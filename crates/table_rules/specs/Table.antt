-- The work table (docs/RULES.md sections 4.1 and 4.5): what its slots hold, and when they are sound.
--   Table      field degree, cutoff in force, steps taken, factors
--   step_limit  what slot 3 may be: m times the whole part of s/(c+1);  limit_of  of a table
--   head_slots  the slots in front of the factors: m, the cutoff in force, the number of factors, the steps taken
--   slots_for   how many slots a table has whose degrees may sum up to the limit: 100 for 32, 196 for 64
--   padded     n slots: zeros behind a list
--   encode     the slots of a table;  decode  the table that slots hold
--   every      does a test hold of each element?
--   sound      the rules of RULES 4.5, over the layout, the known fields and the limit
-- Assumes nothing.
use Rattle.std.specs.Prelude.{Bool, true, ◌&&◌, List, [], ◌∷◌, ◌++◌, map, ℕ, suc, ◌+◌, ◌-◌, ◌*◌, ◌/◌, ◌^◌, leb, eqb, length, get_or, drop, replicate}
use Rattle.slices.specs.Bounded.{all_below, all_zero}
use Rattle.input.specs.Cutoff.{highest_cutoff}
use Rattle.table_rules.specs.Layout.{factor_slots, Factor, StatedFactor, factor_of, degree_sum, stated_sum, Layout}

pub record Table : Type 0 where
  pub width : ℕ
  pub cutoff : ℕ
  pub taken : ℕ
  pub factors : List Factor

abbrev pub step_limit : ℕ → ℕ → ℕ → ℕ
step_limit m c s = m * (s / suc c)

abbrev pub limit_of : Table → ℕ
limit_of t = step_limit t.width t.cutoff (degree_sum t.factors)

abbrev pub head_slots : ℕ
head_slots = 4

-- a factor of degree 1 takes three
abbrev pub slots_for : ℕ → ℕ
slots_for limit = head_slots + suc factor_slots * limit

abbrev pub padded : ℕ → List ℕ → List ℕ
padded n l = l ++ replicate (n - length l) 0

unfoldable pub every : {A : Type 0} → (A → Bool) → List A → Bool
every t [] = true
every t (x ∷ l) = t x && every t l

module _ (Y : Layout) where
  unfoldable pub encode : ℕ → Table → List ℕ
  encode slots t =
      padded slots (t.width ∷ Y.mark t.cutoff ∷ length t.factors ∷ t.taken ∷ Y.write t.factors)

  unfoldable pub decode : List ℕ → Table
  decode l = record {
    width = get_or l 0 0;
    cutoff = Y.unmark (get_or l 1 0);
    taken = get_or l 3 0;
    factors = map factor_of (Y.read (get_or l 2 0) (drop head_slots l));
  }

  -- A TABLE IS SOUND if slot 0 is a known degree; slot 1 is 1 to 3; slot 2 is at most the limit; levels are at most m;
  -- degrees are at least 1, with sum s at most the limit; coefficients are below 2^m; slot 3 is at most m times the
  -- whole part of s/(c+1); all remaining slots are 0
  unfoldable pub sound : (ℕ → Bool) → ℕ → List ℕ → Bool
  sound known limit l =
      let m : ℕ = get_or l 0 0 in
      let c : ℕ = Y.unmark (get_or l 1 0) in
      let n : ℕ = get_or l 2 0 in
      let fs : List StatedFactor = Y.read n (drop head_slots l) in
      let s : ℕ = stated_sum fs in
      eqb (length l) (slots_for limit)
      && known m
      && (leb 1 c && leb c highest_cutoff)
      && leb n limit
      && every (λ f. leb f.level m) fs
      && (every (λ f. leb 1 f.degree) fs && leb s limit)
      && every (λ f. all_below (2 ^ m) f.coefficients) fs
      && leb (get_or l 3 0) (step_limit m c s)
      && all_zero (Y.rest n (drop head_slots l))
