-- Operations on machines of a stack in slots: what they ask of the lent buffers, and what they leave.
pub mod Apply
