pub mod Random
pub mod Kind
pub mod Day
pub mod Cases
pub mod Pages
