-- The way up and down a chain of maps x^2 + b x, and what the routines may take for granted. Only numbers below 2^m
-- are followed, so that factors without roots and repeated roots do no harm.
--   most             how many roots there can be;  room  the slots that a list of roots needs on the way
--   Solves b y xs    xs are the x with x^2 + b x = y, each once
--   Lifts b p q ys xs   xs are the x with x^2 + b x = y for a y of ys and p(y) + x q(y) = 0, each once
--   Norm0            the resultant of p and q is 0 at y
--   Put n out xs     xs were written behind the first n elements of out
--   Written P        a list for which P holds was
--   Few              no more than `most` x have p(y) + x q(y) = 0
--   Noted            the number x, whose value is v, was written behind the first n elements of out where v is 0
--   Fours            the numbers below e can be tried, four in a row
--   Tried            the first n elements of out are the roots of f below x
--   Boths, Aboves, Descends, Maps, Tries, Blocks, Climbs   what the routines may take for granted
--   Mapped           g, p and q hold the resultant of f, A and B
--   Descended        the first k elements of out are the roots above ys
--   Levelled         the first k elements of out are roots of f, each once, and all whose tower of maps ends below e
-- Assumes nothing.
use Rattle.std.specs.Prelude.{◌≡◌, ◌↔◌, cond, ℕ, suc, ◌+◌, ◌-◌, ◌/◌, ◌%◌, ◌^◌, ◌≤◌, ◌<◌, eqb, length, take}
use mathlib.Core.List.{List, Memᴰ, [], ◌∷◌, ◌++◌}
use Rattle.std.specs.Int.Bits.{bit_xor}
use Rattle.algebra.specs.Trial.{All, Distinct, keep, up_from}
use Rattle.algebra.specs.Polynomial.{eval, is_root, Below}
use Rattle.field.specs.Field.{field_at, G, mul}
use Rattle.input.specs.Limit.{limit}
use Rattle.poly_resultants.specs.Maps.{quad, tower, low, high, image, Led}

abbrev pub most : ℕ
most = limit

-- two more are written at a time
abbrev pub room : ℕ
room = most + 2

-- both, or none
pub record Solves (m b y : ℕ) (xs : List ℕ) : Type 0 where
  pub exact : (x : ℕ) → Memᴰ x xs ↔ ((x < 2 ^ m) × (quad (G m) b x ≡ y))
  pub distinct : Distinct xs

-- p(y) + x q(y), at the y below x
abbrev pub value_by : ℕ → ℕ → List ℕ → List ℕ → ℕ → ℕ
value_by m b p q x = bit_xor (eval (G m) p (quad (G m) b x)) (mul (field_at m) x (eval (G m) q (quad (G m) b x)))

-- the roots above
pub record Lifts (m b : ℕ) (p q ys xs : List ℕ) : Type 0 where
  pub exact : (x : ℕ) → Memᴰ x xs ↔ ((x < 2 ^ m) × Memᴰ (quad (G m) b x) ys × (value_by m b p q x ≡ 0))
  pub distinct : Distinct xs

-- p^2 + y q^2 + b p q
abbrev pub norm_by : ℕ → ℕ → List ℕ → List ℕ → ℕ → ℕ
norm_by m b p q y =
    bit_xor
    (bit_xor (mul (field_at m) (eval (G m) p y) (eval (G m) p y))
    (mul (field_at m) y (mul (field_at m) (eval (G m) q y) (eval (G m) q y))))
    (mul (field_at m) b (mul (field_at m) (eval (G m) p y) (eval (G m) q y)))

-- what stands there afterwards
pub record Put (n : ℕ) (out xs : List ℕ) (k : ℕ) (out' : List ℕ) : Type 0 where
  pub count : k ≡ n + length xs
  pub long : length out' ≡ length out
  pub front : take k out' ≡ take n out ++ xs

-- some such list
pub record Written (P : List ℕ → Type 0) (n : ℕ) (out : List ℕ) (k : ℕ) (out' : List ℕ) : Type 0 where
  pub list : List ℕ
  pub holds : P list
  pub put : Put n out list k out'

-- of whatever list
abbrev pub Few : ℕ → ℕ → List ℕ → List ℕ → Type 0
Few m b p q = (xs : List ℕ) → Distinct xs → All (λ x. (x < 2 ^ m) × (value_by m b p q x ≡ 0)) xs → length xs ≤ most

-- ---- what the routines may take for granted

-- x^2 + b x = y can be solved, and two numbers written behind the first n
pub record Boths (m : ℕ) (b y : ℕ) (out : List ℕ) (n : ℕ) : Type 0 where
  pub positive : 0 < b
  pub small : b < 2 ^ m
  pub element : y < 2 ^ m
  pub space : n + 2 ≤ length out

-- and y is a root of the resultant
pub record Aboves (m : ℕ) (b : ℕ) (p q : List ℕ) (y : ℕ) (out : List ℕ) (n : ℕ) : Type 0 where
  pub boths : Boths m b y out n
  pub low : Below (2 ^ m) p
  pub high : Below (2 ^ m) q
  pub zero : norm_by m b p q y ≡ 0
  pub least : length q ≤ length p
  pub longest : length p ≤ suc (length q)

-- each of ys is one
pub record Descends (m : ℕ) (b : ℕ) (p q ys out : List ℕ) : Type 0 where
  pub positive : 0 < b
  pub small : b < 2 ^ m
  pub low : Below (2 ^ m) p
  pub high : Below (2 ^ m) q
  pub zeros : All (λ y. (y < 2 ^ m) × (norm_by m b p q y ≡ 0)) ys
  pub once : Distinct ys
  pub few : Few m b p q
  pub least : length q ≤ length p
  pub longest : length p ≤ suc (length q)
  pub space : room ≤ length out

-- what the way down leaves
pub record Descended (m b : ℕ) (p q ys : List ℕ) (k : ℕ) (out : List ℕ) : Type 0 where
  pub within : k ≤ length out
  pub lifts : Lifts m b p q ys (take k out)

-- a polynomial with a leading coefficient, of a degree from 1 to the limit
pub record Polynomial (m : ℕ) (f : List ℕ) : Type 0 where
  pub small : Below (2 ^ m) f
  pub least : 1 < length f
  pub limited : length f ≤ suc limit
  pub led : Led (G m) f

-- a map can be made, of f, with its digits to p and q
pub record Maps (m : ℕ) (b : ℕ) (f p q : List ℕ) : Type 0 where
  pub positive : 0 < b
  pub small : b < 2 ^ m
  pub poly : Polynomial m f
  pub low : length p ≡ length f - length f / 2
  pub high : length q ≡ length f / 2

-- and was
pub record Mapped (m b : ℕ) (f g p q : List ℕ) : Type 0 where
  pub image : g ≡ image (G m) b f
  pub low : p ≡ low (G m) b f
  pub high : q ≡ high (G m) b f

-- numbers can be tried
pub record Tries (m : ℕ) (f out : List ℕ) : Type 0 where
  pub poly : Polynomial m f
  pub space : room ≤ length out

-- one number
abbrev pub Noted : ℕ → ℕ → ℕ → List ℕ → ℕ → List ℕ → Type 0
Noted v x n out k out' = Put n out (cond (eqb v 0) (x ∷ []) []) k out'

-- all below e
pub record Fours (m e : ℕ) : Type 0 where
  pub least : 4 ≤ e
  pub fours : e % 4 ≡ 0
  pub within : e ≤ 2 ^ m

-- those below x were
pub record Tried (m : ℕ) (f out : List ℕ) (x n : ℕ) (out' : List ℕ) : Type 0 where
  pub long : length out' ≡ length out
  pub front : n ≤ length out'
  pub passed : take n out' ≡ keep (is_root (G m) f) (up_from 0 x)

-- and four more can be
pub record Blocks (m : ℕ) (f : List ℕ) (x : ℕ) (out : List ℕ) (n : ℕ) : Type 0 where
  pub given : Tries m f out
  pub tried : Tried m f out x n out
  pub positive : 0 < x
  pub within : x + 3 < 2 ^ m

-- what is left of the maps, and where they end
pub record Climbs (m : ℕ) (chain : List ℕ) (e : ℕ) (f out : List ℕ) : Type 0 where
  pub steps : All (λ b. (0 < b) × (b < 2 ^ m)) chain
  pub fours : Fours m e
  pub poly : Polynomial m f
  pub space : room ≤ length out

-- what a level leaves
pub record Levelled (m : ℕ) (chain : List ℕ) (e : ℕ) (f : List ℕ) (k : ℕ) (out : List ℕ) : Type 0 where
  pub within : k ≤ length out
  pub roots : All (λ x. (x < 2 ^ m) × (eval (G m) f x ≡ 0)) (take k out)
  pub whole : (x : ℕ) → x < 2 ^ m → eval (G m) f x ≡ 0 → tower (G m) chain x < e → Memᴰ x (take k out)
  pub distinct : Distinct (take k out)
