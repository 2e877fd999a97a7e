mod Mapped
mod Keeping
mod Against
mod Wholes
mod Never
mod Begun
mod Caches
