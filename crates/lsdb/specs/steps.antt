-- Steps of the code, which no public contract cites.
pub mod View
pub mod Reading
pub mod OneSlot
pub mod OneSection
pub mod SlotIndex
pub mod IndexKeys
pub mod Indexes
pub mod Counting
pub mod Filtering
