-- The theory of polynomials over a field of characteristic 2, from the bottom up.

-- plain trial of numbers
pub mod Trial
-- over an abstract field: elements, the ring of coefficient sequences, lists as polynomials
pub mod Elements
pub mod Series
pub mod Signs
pub mod Coefficients
pub mod Evaluation
pub mod Degree
pub mod Lengths
-- divisibility, roots, division, greatest common divisors
pub mod Divisibility
pub mod Factors
pub mod Quadratics
pub mod CommonDivisors
pub mod Congruence
pub mod Division
pub mod MakingMonic
pub mod Euclid
pub mod Bezout
pub mod Quotients
-- how many times a root can be taken out
pub mod Multiplicity
-- splitting, traces, the whole field
pub mod Splitting
pub mod Modular
pub mod WholeField
pub mod Trace
pub mod TraceBits
-- carried to lists of numbers below q, the form that contracts cite
pub mod Crossing
pub mod StaysBelow
pub mod NumberElements
pub mod NumberEvaluation
pub mod NumberDivision
pub mod NumberSteps
pub mod NumberTrace
pub mod NumberMonic
pub mod RootList
pub mod NumberMultiplicity
pub mod Parting
pub mod Example
