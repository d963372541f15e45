-- The call: from the roots to the five buffers.
--   make-solves .. make-is    `make`: what each routine asks, and what is left
--   admit-all                 the tests of the five buffers, one behind the other
--   prove-told                what is known of what was let in
-- Assumes nothing.
use mathlib.Core.Path.{◌≡◌, refl, sym, ap, ap₂, subst, ◌∙◌}
use mathlib.Core.Bool.{Bool}
use mathlib.Core.List.{List, [], ◌∷◌, ◌++◌}
use Prim.Native.Nat.{ℕ, suc, ◌*◌, ◌^◌, ◌≤◌}
use native.Mathlib.Omega.{arith}
use borrow.Author.Tests.{ltb-false}
use lib.Dec.{ltb}
use lib.ListN.{drop, length, length-append, length-map, length-replicate, replicate, take}
use lib.Seq.{length-take-le, take_at}
use Rattle.refusals.specs.Order.{Passed}
use Rattle.refusals.specs.Admitting.{Admits, with_test}
use Rattle.refusals.specs.declared.Refusal.TheVariants.{Room}
use Rattle.refusals.specs.declared.Refusal.{Refusal}
use Rattle.std.specs.Prelude.{⊤, Result}
use Rattle.refusals.proofs.Admitting.{admits-also}
use Rattle.refusals.proofs.Order.{failed, others}
use Rattle.algebra.specs.Multiplicity.{multiplicity}
use Rattle.algebra.specs.Polynomial.{Below, from_roots}
use Rattle.algebra.proofs.NumberMonic.{norm-made}
use Rattle.algebra.proofs.RootList.{roots_of-ascending}
use Rattle.algebra.proofs.StaysBelow.{roots_of-below}
use Rattle.field.specs.Field.{field_at, G, multiplicities_at, roots_at}
use Rattle.slices.specs.Lists.{copied}
use Rattle.slices.proofs.Lists.{copied-front, length-copied}
use Rattle.poly.specs.Lent.{Lent}
use Rattle.field.specs.Tables.{Halves}
use Rattle.poly.proofs.Logs.{numbers_of}
use Rattle.poly.proofs.RootProducts.{product-below}
use Rattle.input.specs.Cutoff.{house_default}
use Rattle.input.specs.Limit.{limit, widest}
use Rattle.input.specs.Polynomials.{PolynomialIn, polynomial_tests}
use Rattle.input.proofs.Polynomials.{passed-rest, polynomial-told, roots_few}
use Rattle.find_multiplicities.specs.Counting.{Countable}
use Rattle.find_multiplicities.proofs.Asking.{countable}
use Rattle.find_solve.specs.Solving.{Solvable}
use Rattle.claim_rules.specs.Claims.{Claim, claim_of, spread_out}
use Rattle.claim_rules.specs.Admitting.{Sent}
use Rattle.claim_rules.proofs.Claimable.{least-times}
use Rattle.claim_rules.proofs.OneClaim.{spread-below}
use Rattle.claim_maker.specs.Calls.{Makes, buffer_sizes, prove_tests}
use Rattle.claim_maker.specs.Making.{AsField, IsPower, Makeable, Pairable, Paired, Powerable, Rooted, SplitOff, Splittable}
use Rattle.claim_maker.proofs.Powering.{reduced}

module _ {m : ℕ} {f ls ts hs roots mults h u v : List ℕ} (lent : Lent m ls ts) (halves : Halves (field_at m) hs) (makeable : Makeable m f (claim_of roots mults h u v)) where
  t : PolynomialIn m f
  t = makeable.polynomial

  -- the fronts of the buffers
  pub make-cofactor : length (take (suc limit) h) ≡ suc limit
  make-cofactor = length-take-le (suc limit) h makeable.cofactor

  pub make-first : length (take (suc limit) u) ≡ suc limit
  make-first = length-take-le (suc limit) u makeable.first

  pub make-second : length (take (suc limit) v) ≡ suc limit
  make-second = length-take-le (suc limit) v makeable.second

  -- what finding the roots asks
  pub make-solves : Solvable m house_default f hs roots × (widest * limit ≤ length (replicate {A = ℕ} (widest * limit) 0))
  unfolding t
  make-solves = (
    record { polynomial = t; least = omega arith; most = omega arith; halves = halves; room = makeable.roots },
    omega (arith, length-replicate {A = ℕ} (widest * limit) 0),
  )

  module _ {n : ℕ} {rows roots' : List ℕ} (o : Rooted m f roots n rows roots') where
    -- the roots stand in their list
    pub make-within : n ≤ length roots'
    unfolding t
    make-within =
        let few = roots_few t in
        let room = makeable.roots in
        omega (arith, o.count, ap length o.slots-are, length-copied (roots_at m f) roots (omega arith))

    -- which is as long as it was
    pub make-kept : length roots' ≡ length roots
    unfolding t
    make-kept = let few = roots_few t in let room = makeable.roots in ap length o.slots-are ∙ length-copied (roots_at m f) roots (omega arith)

    -- what z^(2^m) + z asks
    pub make-powers : Powerable m f rows (replicate (suc limit) 0)
    unfolding t
    make-powers = record { polynomial = t; degree = o.degree; powers = o.powers; room = o.room; zeros = refl }

    front : take n roots' ≡ roots_at m f
    front = ap (take n) o.slots-are ∙ copied-front (roots_at m f) roots (sym o.count)

    -- and can be counted
    pub make-counts : Countable m f (take n roots') mults
    unfolding t
    make-counts = countable roots t o.count o.slots-are makeable.times

    module _ {mults' : List ℕ} (x : mults' ≡ copied (multiplicities_at m f) mults) where
      -- as many multiplicities
      count : length (multiplicities_at m f) ≡ n
      count = length-map (roots_at m f) (multiplicity (G m) f) ∙ sym o.count

      pub make-beside : n ≤ length mults'
      unfolding t
      make-beside =
          let few = roots_few t in
          let room = makeable.times in
          omega (arith, count, o.count, ap length x, length-copied (multiplicities_at m f) mults (omega (arith, count, o.count)))

      -- what the cofactor asks
      pub make-splits : Splittable m f (take n roots') (take n mults') (take (suc limit) h)
      unfolding t
      make-splits = record {
        polynomial = t;
        all = front;
        beside = ap (take n) x ∙ copied-front (multiplicities_at m f) mults count;
        room = make-cofactor;
      }

      module _ {y : List ℕ} (s : SplitOff m f y) (k : length y ≡ length (take (suc limit) h)) where
        long-y : length y ≡ suc limit
        long-y = k ∙ make-cofactor

        pub make-room : suc limit ≤ length (y ++ drop (suc limit) h)
        make-room = omega (arith, long-y, length-append y (drop (suc limit) h))

        pub make-long : length (take (suc limit) (y ++ drop (suc limit) h)) ≡ suc limit
        make-long = length-take-le (suc limit) (y ++ drop (suc limit) h) make-room

        whole : take (suc limit) (y ++ drop (suc limit) h) ≡ y
        whole = take_at y (drop (suc limit) h) (suc limit) long-y

        -- what is z^(2^m) + z modulo f is so modulo the cofactor
        as-field : {b : List ℕ} → IsPower m f b → AsField m y b
        unfolding t
        as-field {b} p x e =
            let numbers = numbers_of lent in
            let d = norm-made numbers y s.small e in
            let q = norm-made numbers f t.small p.made in
            let roots-below : Below (2 ^ m) (spread_out (roots_at m f) (multiplicities_at m f)) = spread-below (2 ^ m) (roots_at m f) (multiplicities_at m f) (roots_of-below (G m) (2 ^ m) f) in
            reduced numbers m x p.low y f (from_roots (G m) (spread_out (roots_at m f) (multiplicities_at m f))) b d.lead q.lead d.small q.small s.small t.small
            (product-below m lent.degree (spread_out (roots_at m f) (multiplicities_at m f)) roots-below) p.small d.lead-below q.lead-below q.nonzero
            d.exact s.product q.exact p.power

        -- what u and v ask
        pub make-pairs : {b : List ℕ} → IsPower m f b → Pairable m (take (suc limit) (y ++ drop (suc limit) h)) b (take (suc limit) u) (take (suc limit) v)
        make-pairs {b} p = subst (λ l. Pairable m l b (take (suc limit) u) (take (suc limit) v)) (sym whole) (record {
          small = s.small;
          small_b = p.small;
          same = as-field p;
          bare = s.bare;
          room-h = long-y;
          room-u = make-first;
          room-v = make-second;
        })

        -- a polynomial that fills its buffer
        sent : (p : List ℕ) → Below (2 ^ m) p → length p ≡ suc limit → Sent m p
        sent p b l = record { some = omega (arith, l); few = omega (arith, l); small = b }

        -- it stands at the front
        over-front : (p b : List ℕ) → length p ≡ suc limit → p ++ drop (suc limit) b ≡ copied p b
        unfolding copied
        over-front p b l = ap (λ i. p ++ drop i b) (sym l)

        pub make-is : {a b : List ℕ} → Paired m (take (suc limit) (y ++ drop (suc limit) h)) a b → length a ≡ length (take (suc limit) u) → length b ≡ length (take (suc limit) v)
            → Makes m f n (claim_of roots mults h u v) (claim_of roots' mults' (y ++ drop (suc limit) h) (a ++ drop (suc limit) u) (b ++ drop (suc limit) v))
        unfolding t
        make-is {a} {b} p i j =
            let d : Paired m y a b = subst (λ l. Paired m l a b) whole p in
            let la : length a ≡ suc limit = i ∙ make-first in
            let lb : length b ≡ suc limit = j ∙ make-second in
            record {
              claim = claim_of (roots_at m f) (multiplicities_at m f) y a b;
              let-in = record {
                field = t.field;
                given = record { some = t.some; few = t.few; small = t.small };
                cofactor = sent y s.small long-y;
                first = sent a d.small-u la;
                second = sent b d.small-v lb;
                elements = roots_of-below (G m) (2 ^ m) f;
                nonzero = t.nonzero;
              };
              acceptable = record {
                paired = sym (length-map (roots_at m f) (multiplicity (G m) f));
                ascending = roots_of-ascending (G m) (2 ^ m) f;
                least = least-times m f t;
                product = s.product;
                coprime = d.coprime;
              };
              full = record { cofactor = long-y; first = la; second = lb; lower = d.lower };
              count = o.count;
              filled = five o.slots-are x (over-front y h long-y) (over-front a u la) (over-front b v lb);
            }
          where
            five : {a a' b b' c c' d d' e e' : List ℕ} → a ≡ a' → b ≡ b' → c ≡ c' → d ≡ d' → e ≡ e' → claim_of a b c d e ≡ claim_of a' b' c' d' e'
            five {a} {a'} {b} {b'} {c} {c'} {d} {d'} {e} {e'} x y z p q =
                ap₂ (λ i j. claim_of i j c d e) x y ∙ ap₂ (λ i j. claim_of a' b' i j e) z p ∙ ap (claim_of a' b' c' d') q

-- ---- the tests

-- of the five buffers, one behind the other
pub admit-all : (m : ℕ) (f : List ℕ) (a b c d e : ℕ) (r₁ r₂ r₃ r₄ : Result ⊤ Refusal) {r₅ : Result ⊤ Refusal}
    → Admits (polynomial_tests m f ((7, ltb a limit) ∷ [])) r₁ → r₂ ≡ with_test r₁ (ltb b limit) Room → r₃ ≡ with_test r₂ (ltb c (suc limit)) Room
    → r₄ ≡ with_test r₃ (ltb d (suc limit)) Room → r₅ ≡ with_test r₄ (ltb e (suc limit)) Room → Admits (polynomial_tests m f (buffer_sizes a b c d e)) r₅
admit-all m f a b c d e r₁ r₂ r₃ r₄ h x y z w =
    let one : List (ℕ × Bool) = (7, ltb a limit) ∷ [] in
    let two : List (ℕ × Bool) = (7, ltb a limit) ∷ (7, ltb b limit) ∷ [] in
    let three : List (ℕ × Bool) = (7, ltb a limit) ∷ (7, ltb b limit) ∷ (7, ltb c (suc limit)) ∷ [] in
    let four : List (ℕ × Bool) = (7, ltb a limit) ∷ (7, ltb b limit) ∷ (7, ltb c (suc limit)) ∷ (7, ltb d (suc limit)) ∷ [] in
    admits-also (polynomial_tests m f four) r₄ (ltb e (suc limit)) Room w
    (admits-also (polynomial_tests m f three) r₃ (ltb d (suc limit)) Room z
    (admits-also (polynomial_tests m f two) r₂ (ltb c (suc limit)) Room y
    (admits-also (polynomial_tests m f one) r₁ (ltb b limit) Room x h)))

-- what is known of what was let in
pub prove-told : (m : ℕ) (f : List ℕ) (b : Claim) → Passed (prove_tests m f b) → Makeable m f b
prove-told m f b p =
    let q = passed-rest m f p in
    let q₁ = others q in
    let q₂ = others q₁ in
    let q₃ = others q₂ in
    record {
      polynomial = polynomial-told m f p;
      roots = ltb-false (length b.roots) limit (failed q);
      times = ltb-false (length b.times) limit (failed q₁);
      cofactor = ltb-false (length b.cofactor) (suc limit) (failed q₂);
      first = ltb-false (length b.first) (suc limit) (failed q₃);
      second = ltb-false (length b.second) (suc limit) (failed (others q₃));
    }
