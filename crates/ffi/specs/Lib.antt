pub mod Numbers
pub mod Caches
pub mod Reports
pub mod States
pub mod Challenges
pub mod Contests
