-- Which chain a page is in. Assumes nothing: these are definitions.
--     product n       n times 2^64 over the golden ratio, modulo 2^64: numbers in a row are spread evenly
--     mixed n         the bits of n, mixed by two multiplications: with one there are strides of numbers that fall together
--     spread page     pages of one block of 4,096 are spread evenly from a place that is the block's own
--     home k page     the chain of page, below 4 * k
use Rattle.std.specs.Prelude.{ℕ, ◌+◌, ◌*◌, ◌/◌, ◌%◌, ◌^◌, bit_xor}

abbrev pub product : ℕ → ℕ
product n = n * 0x9e3779b97f4a7c15 % 2 ^ 64

unfoldable pub mixed : ℕ → ℕ
mixed n = bit_xor (product n) (product n / 2 ^ 32) * 0xd6e8feb86659fd93 % 2 ^ 64

unfoldable pub spread : ℕ → ℕ
spread page = (product (page % 4096) + mixed (page / 4096)) % 2 ^ 64

unfoldable pub home : ℕ → ℕ → ℕ
home k page = spread page / 2 ^ 32 * (4 * k) / 2 ^ 32
