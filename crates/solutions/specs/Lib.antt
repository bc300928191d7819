-- What a reader has to believe of solutions in tables, in reading order: the points that they are; what comes of their objectives.
pub mod Points
pub mod Objectives
