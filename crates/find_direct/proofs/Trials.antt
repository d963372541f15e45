-- Numbers tried at a monic polynomial of field 11, as the code goes.
--   Valued         at each turn v is the value of the coefficients from i on and the leading 1;  valued-from,
--                  valued-on, valued-end  so to the end
--   Scaling        coefficients times a number are written up to i;  scaling-from, scaling-on, scaling-end  so to
--                  the end
--   low-is         the low coefficients of a polynomial that was let in, divided by its leading one;  low_below  they
--                  are elements;  low-roots  the monic polynomial has the same roots
--   tried-written  roots that were tried are written
-- Assumes nothing.
use mathlib.Core.Path.{◌≡◌, refl, sym, ap, ◌∙◌, subst}
use mathlib.Core.List.{List, [], ◌∷◌, ◌++◌, map}
use Prim.Native.Nat.{ℕ, suc, ◌+◌, ◌-◌, ◌^◌, ◌≤◌, ◌<◌}
use native.Mathlib.Omega.{arith}
use lib.Bits.{bit_xor, xor_comm, xor_lt}
use lib.ListN.{length, get_or, take, drop, set, drop_of_length-le, length-map, get_or-append}
use lib.Seq.{drop-cons, length-take-le}
use Rattle.algebra.specs.Field.{OnNumbers}
use Rattle.algebra.specs.Polynomial.{Below, eval}
use Rattle.algebra.specs.Routines.{monic}
use Rattle.algebra.proofs.RootList.{roots_of-norm}
use Rattle.algebra.proofs.StaysBelow.{below_at}
use Rattle.field.specs.Rows.{known_in}
use Rattle.field.specs.Field.{field_at, mul, inverse, G, roots_at}
use Rattle.field.proofs.Ring.{mul-lt, mul-zero-r, mul-one-r}
use Rattle.field_constants.proofs.Field11.{gen11}
use Rattle.slices.specs.Lists.{copied}
use Rattle.slices.proofs.Lists.{length-copied, copied-front, copied_behind}
use Rattle.slices.proofs.Filling.{Filling, fill-from, fill_on, fill_stop, map_at}
use Rattle.input.proofs.Fields.{known-field}
use Rattle.find_direct.specs.Listing.{Leading, Listed}
use Rattle.find_direct.proofs.Leads.{leads}

pub numbers11 : OnNumbers (G 11) (2 ^ 11)
unfolding known_in
numbers11 = (known-field 11 refl).numbers

-- ---- the value

pub record Valued (p : List ℕ) (x i v : ℕ) : Type 0 where
  pub within : i < length p
  pub small : v < 2048
  pub value : v ≡ eval (G 11) (drop i p ++ (1 ∷ [])) x

-- one step of Horner's rule
horner : (p : List ℕ) (x i : ℕ) → i < length p
    → eval (G 11) (drop i p ++ (1 ∷ [])) x ≡ bit_xor (get_or p i 0) (mul (field_at 11) x (eval (G 11) (drop (suc i) p ++ (1 ∷ [])) x))
unfolding eval
horner p x i h = ap (λ (l : List ℕ). eval (G 11) (l ++ (1 ∷ [])) x) (drop-cons p i 0 h)

module _ {p : List ℕ} {x : ℕ} (small : Below 2048 p) (hx : x < 2048) where
  pub valued-from : 0 < length p → Valued p x (length p - 1) (bit_xor x (get_or p (length p - 1) 0))
  unfolding eval
  valued-from h =
      let i : ℕ = length p - 1 in
      let l : i < length p = omega arith in
      let none : drop (suc i) p ≡ [] = drop_of_length-le p {i = suc i} (omega arith) in
      let one : mul (field_at 11) x (eval (G 11) (1 ∷ []) x) ≡ x =
      ap (λ (t : ℕ). mul (field_at 11) x (bit_xor 1 t)) (mul-zero-r (field_at 11) gen11.monic x) ∙ mul-one-r (field_at 11) gen11.monic x hx in
      record {
        within = l;
        small = xor_lt 11 x (get_or p i 0) hx (below_at 2048 p small i l);
        value = xor_comm x (get_or p i 0)
            ∙ ap (bit_xor (get_or p i 0)) (sym (ap (λ (t : List ℕ). mul (field_at 11) x (eval (G 11) (t ++ (1 ∷ [])) x)) none ∙ one))
            ∙ sym (horner p x i l);
      }

  pub valued-on : {i v q : ℕ} → Valued p x i v → 0 < i → q ≡ mul (field_at 11) x v → Valued p x (i - 1) (bit_xor q (get_or p (i - 1) 0))
  valued-on {i} {v} {q} s h e =
      let j : ℕ = i - 1 in
      let l : j < length p = omega (arith, s.within) in
      let up : suc j ≡ i = omega arith in
      record {
        within = l;
        small = xor_lt 11 q (get_or p j 0) (subst (λ (t : ℕ). t < 2048) (sym e) (mul-lt (field_at 11) gen11.monic x v)) (below_at 2048 p small j l);
        value = xor_comm q (get_or p j 0)
            ∙ ap (bit_xor (get_or p j 0)) (e ∙ ap (mul (field_at 11) x) (s.value ∙ ap (λ (t : ℕ). eval (G 11) (drop t p ++ (1 ∷ [])) x) (sym up)))
            ∙ sym (horner p x j l);
      }

pub valued-end : {p : List ℕ} {x i v : ℕ} → Valued p x i v → i ≡ 0 → v ≡ eval (G 11) (monic (G 11) p) x
valued-end {p} {x} s e = s.value ∙ ap (λ (t : ℕ). eval (G 11) (drop t p ++ (1 ∷ [])) x) e

-- ---- the monic polynomial

pub record Scaling (v : ℕ) (f p₀ p : List ℕ) (i : ℕ) : Type 0 where
  pub within : i ≤ length f
  pub room : length f ≤ length p₀
  pub filling : Filling (copied (map (mul (field_at 11) v) f) p₀) p₀ p i

pub scaling-from : {v : ℕ} {f p : List ℕ} → length f ≤ length p → Scaling v f p p 0
scaling-from {v} {f} {p} h =
    let w : List ℕ = map (mul (field_at 11) v) f in
    record { within = omega arith; room = h; filling = fill-from (copied w p) p (length-copied w p (omega (arith, length-map f (mul (field_at 11) v)))) }

module _ {v : ℕ} {f p₀ p : List ℕ} {i : ℕ} (s : Scaling v f p₀ p i) where
  pub scaling-room : i < length f → i < length p
  scaling-room h = omega (arith, s.room, s.filling.long)

  pub scaling-on : {x : ℕ} → i < length f → x ≡ mul (field_at 11) v (get_or f i 0) → Scaling v f p₀ (set p i x) (i + 1)
  unfolding copied
  scaling-on h e =
      let w : List ℕ = map (mul (field_at 11) v) f in
      record {
        within = omega arith;
        room = s.room;
        filling = fill_on s.filling (omega (arith, s.room))
            (e ∙ sym (get_or-append w (drop (length w) p₀) 0 i (omega (arith, length-map f (mul (field_at 11) v))) ∙ map_at (mul (field_at 11) v) f i h));
      }

  pub scaling-end : length f ≤ i → p ≡ copied (map (mul (field_at 11) v) f) p₀
  scaling-end h = fill_stop s.filling (copied_behind i (map (mul (field_at 11) v) f) p₀ (omega (arith, length-map f (mul (field_at 11) v))))

scaled-below : (v : ℕ) (l : List ℕ) → Below 2048 (map (mul (field_at 11) v) l)
scaled-below v [] = tt
scaled-below v (x ∷ l) = (mul-lt (field_at 11) gen11.monic v x, scaled-below v l)

module _ {n : ℕ} {f : List ℕ} (g : Leading n f) (least : 4 ≤ n) (v : ℕ) {p : List ℕ} (q : List ℕ)
    (ep : p ≡ copied (map (mul (field_at 11) v) (take (n - 1) f)) q) where
  -- the low coefficients stand in front
  low-is : take (n - 1) p ≡ map (mul (field_at 11) v) (take (n - 1) f)
  low-is =
      ap (take (n - 1)) ep
      ∙ copied-front (map (mul (field_at 11) v) (take (n - 1) f)) q
      (length-map (take (n - 1) f) (mul (field_at 11) v) ∙ length-take-le (n - 1) f (omega (arith, g.top.within)))

  -- what the trial asks of them
  pub low_below : Below 2048 (take (n - 1) p)
  low_below = subst (Below 2048) (sym low-is) (scaled-below v (take (n - 1) f))

  module _ (ev : v ≡ inverse (field_at 11) (get_or f (n - 1) 0)) where
    low-roots : roots_at 11 (monic (G 11) (take (n - 1) p)) ≡ roots_at 11 f
    low-roots =
        ap (λ (l : List ℕ). roots_at 11 (monic (G 11) l)) (low-is ∙ ap (λ (t : ℕ). map (mul (field_at 11) t) (take (n - 1) f)) ev)
        ∙ roots_of-norm numbers11 f g.polynomial.small (leads g (n - 1) (let e : n ≡ suc (n - 1) = omega arith in e))

    pub tried-written : {xs roots roots' : List ℕ} → length xs ≡ n - 1 → roots_at 11 (monic (G 11) (take (n - 1) p)) ≡ xs
        → roots' ≡ copied xs roots → Listed (roots_at 11 f) roots (n - 1) roots'
    tried-written {xs} {roots} long r w =
        let e : xs ≡ roots_at 11 f = sym r ∙ low-roots in
        record { count = sym long ∙ ap length e; slots-are = w ∙ ap (λ (l : List ℕ). copied l roots) e }
