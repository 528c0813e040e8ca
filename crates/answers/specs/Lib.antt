-- The answer of a stage: rows stand for the sets of the stages; a stage by its operation; a stage over lent buffers.
pub mod Refusal
pub mod RowSets
pub mod Operate
pub mod Stage
pub mod Scratch
