pub mod PushingLemmas
pub mod InsertingLemmas
pub mod Viewing
pub mod Keys
pub mod Attached
pub mod AttachedViews
pub mod StubLinks
pub mod Alone
