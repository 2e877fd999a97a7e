-- Pages in bytes and back. Assumes nothing.
--     pages_back       the bytes of pages request them
--     bytes_back       bytes that are whole requests are the bytes of these
--     small_requests   what bytes request are pages
use Rattle.std.proofs.Common.{◌≡◌, ℕ, ◌/◌, ◌%◌, ◌<◌, List, [], ◌∷◌, refl, ap, arith}
use Rattle.trace.specs.Requests.{page_of, requests_in, left_over}
use Rattle.convert.specs.Days.{bytes_of}
use Rattle.convert.specs.Claims.{Below}

pub pages_back : (pages : List ℕ) → Below 4294967296 pages → requests_in (bytes_of pages) ≡ pages
unfolding requests_in bytes_of
pages_back [] small = refl
pages_back (page ∷ pages) small =
    let wide : page < 4294967296 = small.0 in
    let is : page_of (page % 256) (page / 256 % 256) (page / 65536 % 256) (page / 16777216 % 256) ≡ page = omega arith in
    rw is (ap (λ (l : List ℕ). page ∷ l) (pages_back pages small.1))

pub bytes_back : (bytes : List ℕ) → Below 256 bytes → left_over bytes ≡ [] → bytes_of (requests_in bytes) ≡ bytes
unfolding requests_in left_over bytes_of
bytes_back [] small none = refl
bytes_back (a ∷ []) small none = cc
bytes_back (a ∷ b ∷ []) small none = cc
bytes_back (a ∷ b ∷ c ∷ []) small none = cc
bytes_back (a ∷ b ∷ c ∷ d ∷ rest) small none =
    let ha : a < 256 = small.0 in
    let hb : b < 256 = small.1.0 in
    let hc : c < 256 = small.1.1.0 in
    let hd : d < 256 = small.1.1.1.0 in
    let ea : page_of a b c d % 256 ≡ a = omega arith in
    let eb : page_of a b c d / 256 % 256 ≡ b = omega arith in
    let ec : page_of a b c d / 65536 % 256 ≡ c = omega arith in
    let ed : page_of a b c d / 16777216 % 256 ≡ d = omega arith in
    rw (ea, eb, ec, ed) (ap (λ (l : List ℕ). a ∷ b ∷ c ∷ d ∷ l) (bytes_back rest small.1.1.1.1 none))

pub small_requests : (bytes : List ℕ) → Below 256 bytes → Below 4294967296 (requests_in bytes)
unfolding requests_in
small_requests [] small = tt
small_requests (a ∷ []) small = tt
small_requests (a ∷ b ∷ []) small = tt
small_requests (a ∷ b ∷ c ∷ []) small = tt
small_requests (a ∷ b ∷ c ∷ d ∷ rest) small =
    let ha : a < 256 = small.0 in
    let hb : b < 256 = small.1.0 in
    let hc : c < 256 = small.1.1.0 in
    let hd : d < 256 = small.1.1.1.0 in
    (omega arith, small_requests rest small.1.1.1.1)
