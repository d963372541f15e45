-- The measure of `decimal` is the number: a tenth of ten or more is less.
-- Assumes nothing.
use Rattle.job_text.proofs.+decimal.Given as goal

abbrev pub decreases-decimal : goal.decreases-decimal
decreases-decimal l = l.x
