-- How many bytes came from standard input.
use Prim.Native.Nat.{ℕ}
use Rattle.std.specs.Prelude.{Result, Ok, Err}
use Rattle.job_streams.specs.declared.Broken.{Broken}

-- So many came up to the end, or ahead of a read that failed.
abbrev pub came : Result ℕ Broken → ℕ
came (Ok n) = n
came (Err e) = e.bytes
