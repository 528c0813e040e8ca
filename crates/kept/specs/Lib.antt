-- The machines of a book in the making, as they lie in the lent buffers.
pub mod Stored
