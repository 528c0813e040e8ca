-- Machines in slots one behind another, as a stack and the registers hold them; what bringing an operand into a slot asks and leaves.
pub mod Stack
pub mod Operand
