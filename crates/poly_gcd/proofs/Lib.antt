-- Why: what the loop holds at each turn, the cofactor, and what the outcomes mean in the words of the theory.
pub mod EuclidLoops
pub mod Cofactors
pub mod Meaning
