-- `level`: what its calls ask, and what they leave.
--   back_long, back-front   a list that was written to the front of an array, as it is lent again
--   level-NAME              the calls
-- Assumes nothing.
use mathlib.Core.Path.{◌≡◌, ◌∙◌, refl, sym, ap, subst}
use mathlib.Core.Logic.{◌≢◌}
use mathlib.Core.List.{List, [], ◌∷◌, ◌++◌}
use Prim.Native.Nat.{ℕ, ◌+◌, ◌-◌, ◌/◌, ◌^◌, ◌≤◌, ◌<◌}
use native.Mathlib.Omega.{arith}
use lib.ListN.{length, take, drop, get_or, length-append}
use lib.Seq.{take_at}
use Rattle.algebra.specs.Trial.{All}
use Rattle.algebra.specs.Polynomial.{Below}
use Rattle.field.specs.Field.{G}
use Rattle.input.specs.Limit.{limit}
use Rattle.poly.specs.Lent.{Lent}
use Rattle.poly.proofs.Parts.{part-rest}
use Rattle.poly_resultants.specs.Maps.{digits, low, high, image}
use Rattle.poly_resultants.specs.Levels.{room, Polynomial, Maps, Mapped, Fours, Tries, Climbs, Descends, Descended, Lifts, Levelled}
use Rattle.poly_resultants.proofs.Shapes.{length_digits, length-halves, length-odds, length-image}
use Rattle.poly_resultants.proofs.Numbers.{digits-below, evens-below, odds-below, image-below, led-image}
use Rattle.poly_resultants.proofs.Descending.{norm-zeros, image-few, level-up}

-- ---- what was written to the front of an array

pub back_long : (y rest : List ℕ) {n : ℕ} → length y ≡ n → n ≤ length (y ++ rest)
back_long y rest e = omega (arith, length-append y rest)

pub back-front : (y rest : List ℕ) {n : ℕ} → length y ≡ n → take n (y ++ rest) ≡ y
back-front y rest {n} e = take_at y rest n e

module _ {m : ℕ} {ls ts chain : List ℕ} {end : ℕ} {f out : List ℕ} (lent : Lent m ls ts) (a : Climbs m chain end f out) where
  -- ---- no map is left

  pub level-tries : Tries m f out × Fours m end
  level-tries = (record { poly = a.poly; space = a.space }, a.fours)

  pub level-tried : {k : ℕ} {out' : List ℕ} → length chain ≡ 0 → Levelled m [] end f k out' → Levelled m chain end f k out'
  level-tried {k} {out'} e l = subst (λ s. Levelled m s end f k out') (sym (none chain e)) l
    where
      none : (s : List ℕ) → length s ≡ 0 → s ≡ []
      none [] e = refl
      none (x ∷ s) e = absurd (omega (arith, e))

  -- ---- a map is left

  pub level-low : length f - length f / 2 ≤ limit / 2 + 1
  level-low = let l = a.poly.limited in omega arith

  pub level-high : length f / 2 ≤ limit / 2 + 1
  level-high = let l = a.poly.limited in omega arith

  module _ (some : length chain ≢ 0) where
    -- the first map, and the others
    parted : chain ≡ get_or chain 0 0 ∷ drop 1 chain
    parted = go chain some
      where
        go : (s : List ℕ) → length s ≢ 0 → s ≡ get_or s 0 0 ∷ drop 1 s
        go [] h = absurd (h refl)
        go (x ∷ s) h = refl

    steps : All (λ b. (0 < b) × (b < 2 ^ m)) (get_or chain 0 0 ∷ drop 1 chain)
    steps = subst (All (λ b. (0 < b) × (b < 2 ^ m))) parted a.steps

    pub level-maps : {p q : List ℕ} → length p ≡ length f - length f / 2 → length q ≡ length f / 2 → Maps m (get_or chain 0 0) f p q
    level-maps j k = record {
      positive = steps.0.0;
      small = steps.0.1;
      poly = a.poly;
      low = j;
      high = k;
    }

    module _ {g p q : List ℕ} (t : Mapped m (get_or chain 0 0) f g p q) where
      digits_long : length (digits (G m) (get_or chain 0 0) f) ≡ length f
      digits_long = length_digits (G m) (get_or chain 0 0) f

      pub low-long : length p ≡ length f - length f / 2
      low-long = omega (arith, ap length t.low, length-halves (digits (G m) (get_or chain 0 0) f), length-odds (digits (G m) (get_or chain 0 0) f), digits_long)

      pub high-long : length q ≡ length f / 2
      high-long = ap length t.high ∙ length-odds (digits (G m) (get_or chain 0 0) f) ∙ ap (λ n. n / 2) digits_long

      pub low_fits : (rest : List ℕ) → length f - length f / 2 ≤ length (p ++ rest)
      low_fits rest = back_long p rest low-long

      pub high_fits : (rest : List ℕ) → length f / 2 ≤ length (q ++ rest)
      high_fits rest = back_long q rest high-long

      poly-image : Polynomial m g
      poly-image = subst (Polynomial m) (sym t.image) (record {
        small = image-below m lent.degree (get_or chain 0 0) f steps.0.1 a.poly.small;
        least = let l = a.poly.least in omega (arith, length-image (G m) (get_or chain 0 0) f l);
        limited = let l = a.poly.limited in omega (arith, length-image (G m) (get_or chain 0 0) f a.poly.least);
        led = led-image m lent.degree (get_or chain 0 0) f a.poly.small a.poly.least a.poly.led;
      })

      pub level-climbs : {ys : List ℕ} → room ≤ length ys → Climbs m (take (length chain - 1) (drop 1 chain)) end g ys
      level-climbs h = record {
        steps = subst (All (λ b. (0 < b) × (b < 2 ^ m))) (sym (part-rest 1 chain)) steps.1;
        fours = a.fours;
        poly = poly-image;
        space = h;
      }

      pub level-falls : length (take (length chain - 1) (drop 1 chain)) < length chain
      level-falls = omega (arith, ap length (part-rest 1 chain), ap length parted)

      module _ {p' q' ys : List ℕ} {k : ℕ} (ep : p' ≡ p) (eq : q' ≡ q)
          (l : Levelled m (take (length chain - 1) (drop 1 chain)) end g k ys) where
        -- the roots of the resultant
        below : Levelled m (drop 1 chain) end (image (G m) (get_or chain 0 0) f) k ys
        below = subst (λ s. Levelled m s end (image (G m) (get_or chain 0 0) f) k ys) (part-rest 1 chain)
            (subst (λ s. Levelled m (take (length chain - 1) (drop 1 chain)) end s k ys) t.image l)

        pub level-descends : Descends m (get_or chain 0 0) p' q' (take k ys) out
        level-descends =
            subst (λ s. Descends m (get_or chain 0 0) s q' (take k ys) out) (sym (ep ∙ t.low))
            (subst (λ s. Descends m (get_or chain 0 0) (low (G m) (get_or chain 0 0) f) s (take k ys) out) (sym (eq ∙ t.high)) (record {
              positive = steps.0.0;
              small = steps.0.1;
              low = evens-below m lent.degree (digits (G m) (get_or chain 0 0) f) digits-small;
              high = odds-below m lent.degree (digits (G m) (get_or chain 0 0) f) digits-small;
              zeros = norm-zeros m lent.degree (get_or chain 0 0) f (take k ys) below.roots;
              once = below.distinct;
              few = image-few m lent.degree (get_or chain 0 0) f a.poly;
              least = omega (arith, halved, whole);
              longest = omega (arith, halved, whole);
              space = a.space;
            }))
          where
            halved : length (high (G m) (get_or chain 0 0) f) ≡ length (digits (G m) (get_or chain 0 0) f) / 2
            halved = length-odds (digits (G m) (get_or chain 0 0) f)

            whole : length (low (G m) (get_or chain 0 0) f) + length (high (G m) (get_or chain 0 0) f) ≡ length (digits (G m) (get_or chain 0 0) f)
            whole = length-halves (digits (G m) (get_or chain 0 0) f)

            digits-small : Below (2 ^ m) (digits (G m) (get_or chain 0 0) f)
            digits-small = digits-below m lent.degree (get_or chain 0 0) f a.poly.small

        pub level-end : {n : ℕ} {out' : List ℕ} → Descended m (get_or chain 0 0) p' q' (take k ys) n out' → Levelled m chain end f n out'
        level-end {n} {out'} d =
            subst (λ s. Levelled m s end f n out') (sym parted)
            (level-up m lent.degree (get_or chain 0 0) f below
            (subst (λ s. Lifts m (get_or chain 0 0) s (high (G m) (get_or chain 0 0) f) (take k ys) (take n out')) (ep ∙ t.low)
            (subst (λ s. Lifts m (get_or chain 0 0) p' s (take k ys) (take n out')) (eq ∙ t.high) d.lifts)) d.within)
