pub mod Crossing
pub mod DueLaws
pub mod FarLaws
pub mod PendingLaws
pub mod RowLaws
pub mod TreeLaws
