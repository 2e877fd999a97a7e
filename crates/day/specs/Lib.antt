pub mod Said
pub mod Reports
pub mod Days
