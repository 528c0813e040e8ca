-- What stands behind machines in slots of bytes: a slot, a slot that is changed alone, the given machines in slots.
pub mod Slot
pub mod Aside
pub mod GivenSlots
