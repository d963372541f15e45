-- What a contract sees of a turn: the line without the unused room behind it, and where reading goes on.
-- Assumes nothing.
use Rattle.std.specs.Prelude.{List, ℕ, Option}

pub record Turn : Type 0 where
  pub text : List ℕ
  pub next : Option ℕ
