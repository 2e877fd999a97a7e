pub mod Rules
mod Wholes
mod Opened
