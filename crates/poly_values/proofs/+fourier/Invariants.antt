-- `poly_values::fourier` meets its contract, by the number of levels.
-- Assumes nothing.
use Rattle.poly_values.proofs.+fourier.Given as goal

abbrev pub decreases-fourier : goal.decreases-fourier
decreases-fourier l = l.k
