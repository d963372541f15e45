-- u and v.
--   pair-remains, pair-copies .. pair_is   `pair`: what each routine asks, and what is left
-- Assumes nothing.
use mathlib.Core.Path.{◌≡◌, refl, sym, ap, fun_ext, subst, ◌∙◌}
use mathlib.Core.Option.{Option, none, some}
use mathlib.Core.List.{List, []}
use Prim.Native.Nat.{ℕ, suc, ◌+◌, ◌-◌, ◌^◌, ◌≤◌}
use native.Mathlib.Omega.{arith}
use lib.ListN.{get_or, length, length-replicate, replicate, take}
use lib.Seq.{length-take-le}
use Rattle.algebra.specs.Field.{OnNumbers}
use Rattle.algebra.specs.Polynomial.{Below, add, coef, eval, field_poly, mul}
use Rattle.algebra.specs.Routines.{gcd, norm, rem}
use Rattle.algebra.proofs.NumberEvaluation.{eval-same}
use Rattle.algebra.proofs.NumberMonic.{Made, made-degree, norm-made, norm-none}
use Rattle.algebra.proofs.StaysBelow.{mul-below, take_below}
use Rattle.field.specs.Field.{G}
use Rattle.poly.specs.Lent.{Lent}
use Rattle.poly.proofs.Logs.{numbers_of}
use Rattle.slices.specs.Lists.{copied}
use Rattle.input.specs.Limit.{limit}
use Rattle.input.proofs.Fields.{known-field}
use Rattle.claim_rules.proofs.Claimable.{rootless-coprime}
use Rattle.claim_rules.proofs.Remainders.{remainder-below, remainder_of}
use Rattle.claim_rules.proofs.ShortBezout.{Pair, pair_of}
use Rattle.claim_rules.proofs.TheRemainder.{add_same, mul-same}
use Rattle.claims.specs.Checking.{Residue}
use Rattle.claims.proofs.Adding.{add_comm, cut-same}
use Rattle.claim_maker.specs.Making.{Pairable, Paired, Residable, Unitable, United}
use Rattle.claim_maker.proofs.Fitting.{copied_all}

module _ {m : ℕ} {ls ts h b u v : List ℕ} (lent : Lent m ls ts) (g : Pairable m h b u v) where
  numbers : OnNumbers (G m) (2 ^ m)
  numbers = numbers_of lent

  -- h is not 0
  made_of : (x : List ℕ) × (norm (G m) (length h) h ≡ some x)
  unfolding numbers eval
  made_of = go (norm (G m) (length h) h) refl
    where
      go : (o : Option (List ℕ)) → norm (G m) (length h) h ≡ o → (x : List ℕ) × (norm (G m) (length h) h ≡ some x)
      go none e =
          let zeros : coef (G m) h ≡ coef (G m) [] = fun_ext λ k. norm-none numbers h g.small e k in
          absurd (g.bare 0 numbers.zero-below (eval-same numbers h [] g.small tt zeros 0 numbers.zero-below))
      go (some x) e = (x, e)

  -- what the remainder asks
  pub pair-remains : Residable m h b (replicate (suc limit) 0) (replicate limit 0)
  unfolding numbers
  pair-remains =
      let d = norm-made numbers h g.small made_of.1 in
      record {
        cofactor = record { some = omega (arith, g.room-h); few = omega (arith, g.room-h); small = g.small };
        place = length made_of.0;
        nonzero = λ z. d.nonzero (sym (made-degree numbers d).0 ∙ z);
        small = g.small_b;
        same = g.same;
        room-low = omega (arith, length-replicate {A = ℕ} (suc limit) 0);
        room = omega (arith, length-replicate {A = ℕ} limit 0);
      }

  module _ {d : ℕ} {low w : List ℕ} (r : Residue m h d low w) where
    made : Made (G m) (2 ^ m) h (take d low)
    unfolding numbers
    made = norm-made numbers h g.small r.made

    long-p : length (take d low) ≡ d
    long-p = length-take-le d low r.inside

    pub pair_size : length (take d w) ≡ d
    pair_size = length-take-le d w r.within

    small-w : Below (2 ^ m) (take d w)
    small-w = subst (Below (2 ^ m)) (sym r.front) (remainder-below m lent.degree h g.small)

    w-is : take d w ≡ rem (G m) (take d low) (field_poly (G m) m)
    w-is = r.front ∙ remainder_of m h r.made

    -- no common factor
    coprime : gcd (G m) (take d low) (take d w) ≡ []
    unfolding numbers
    coprime =
        ap (gcd (G m) (take d low)) w-is
        ∙ rootless-coprime numbers m refl numbers.one_below (known-field m lent.degree).fermat h (take d low) g.small r.made g.bare

    pair : Pair (G m) (2 ^ m) (suc d) h (take d w)
    unfolding numbers
    pair =
        pair_of numbers h (take d low) (take d w) made.lead (suc d) g.small made.small small-w made.lead-below made.nonzero made.exact
        (omega (arith, pair_size, long-p)) coprime (omega (arith, long-p))

    -- the leading coefficient
    lead_is : get_or h d 0 ≡ made.lead
    unfolding numbers
    lead_is = ap (λ i. get_or h i 0) (sym long-p) ∙ (made-degree numbers made).0

    -- h up to it
    short : List ℕ
    short = take (d + 1) h

    short-same : coef (G m) short ≡ coef (G m) h
    unfolding short numbers
    short-same = cut-same m (d + 1) h λ i l. (made-degree numbers made).1 i (omega (arith, long-p))

    small-short : Below (2 ^ m) short
    unfolding short
    small-short = take_below (2 ^ m) (d + 1) h g.small

    long-short : length short ≡ suc d
    unfolding short
    long-short = length-take-le (d + 1) h (omega (arith, r.count, g.room-h)) ∙ omega arith

    pub pair-copies : (x : List ℕ) → length x ≡ length {A = ℕ} (replicate (suc limit) 0) → length h ≤ length x
    pair-copies x e = omega (arith, g.room-h, length-replicate {A = ℕ} (suc limit) 0)

    module _ {p : List ℕ} (copy : p ≡ copied h low) (k : length low ≡ suc limit) where
      p-is : p ≡ h
      p-is = copy ∙ copied_all h low (g.room-h ∙ sym k)

      front : take (d + 1) p ≡ short
      unfolding short
      front = ap (take (d + 1)) p-is

      pub pair-front : d + 1 ≤ length p
      pair-front = omega (arith, ap length p-is, r.count, g.room-h)

      -- what Euclid's algorithm asks
      unitable : Unitable m (take d w) short v u
      unfolding numbers
      unitable = record {
        reducible = record {
          small-a = small-w;
          small_b = small-short;
          some = omega (arith, long-short);
          few = omega (arith, long-short, r.count);
          below = omega (arith, long-short, pair_size);
          lead = λ z. made.nonzero (sym lead_is ∙ sym (ap (λ f. f d) short-same) ∙ ap (λ i. get_or short i 0) last ∙ z);
        };
        short = omega (arith, pair_size, r.count);
        coprime = record {
          first = pair.second;
          second = pair.first;
          small-first = pair.second-small;
          small-second = pair.first_small;
          one = ap (coef (G m)) (add_comm m (mul (G m) pair.second (take d w)) (mul (G m) pair.first short))
              ∙ add_same numbers (mul (G m) pair.first short) (mul (G m) pair.second (take d w)) (mul (G m) pair.first h) (mul (G m) pair.second (take d w))
              (mul-below numbers pair.first short pair.first_small small-short) (mul-below numbers pair.second (take d w) pair.second-small small-w)
              (mul-below numbers pair.first h pair.first_small g.small) (mul-below numbers pair.second (take d w) pair.second-small small-w)
              (mul-same numbers pair.first short pair.first h pair.first_small small-short pair.first_small g.small refl short-same) refl
              ∙ pair.one;
        };
        room-x = g.room-v;
        room-y = g.room-u;
      }
        where
          last : d ≡ length short - 1
          last = omega (arith, long-short)

      pub pair-unites : Unitable m (take d w) (take (d + 1) p) v u
      pair-unites = subst (λ l. Unitable m (take d w) l v u) (sym front) unitable

      pub pair_is : {u' v' : List ℕ} → United m (take d w) (take (d + 1) p) v' u' → Paired m h u' v'
      unfolding numbers
      pair_is {u'} {v'} s = record {
        small-u = s.small-y;
        small-v = s.small-x;
        coprime = ap (λ x. coef (G m) (add (G m) (mul (G m) u' h) (mul (G m) v' x))) (sym r.front)
            ∙ add_same numbers (mul (G m) u' h) (mul (G m) v' (take d w)) (mul (G m) u' short) (mul (G m) v' (take d w)) (mul-below numbers u' h s.small-y g.small)
            (mul-below numbers v' (take d w) s.small-x small-w) (mul-below numbers u' short s.small-y small-short) (mul-below numbers v' (take d w) s.small-x small-w)
            (mul-same numbers u' h u' short s.small-y g.small s.small-y small-short refl (sym short-same)) refl
            ∙ ap (coef (G m)) (add_comm m (mul (G m) u' short) (mul (G m) v' (take d w)))
            ∙ ap (λ l. coef (G m) (add (G m) (mul (G m) v' (take d w)) (mul (G m) u' l))) (sym front) ∙ s.one;
        lower = record {
          place = d;
          present = λ z. made.nonzero (sym lead_is ∙ z);
          above = λ j l. s.short-x j (omega (arith, ap length front, long-short));
        };
      }
