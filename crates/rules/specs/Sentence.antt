-- The sentence about points, in reading order: what it says; of which texts it holds; what holds of every certificate that was
-- read; the proof: senses, fractions as whole numbers, left sides, denominators, each rule, all rows, the claim, certificates as
-- texts spell them; and three certificates, in whole numbers.
pub mod Points
pub mod Formed
