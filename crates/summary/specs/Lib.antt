pub mod Counted
pub mod Said
pub mod Reports
