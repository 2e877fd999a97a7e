use Rattle.std.proofs.Common.{◌≡◌, ◌-◌, ◌*◌, true, refl, arith}
use Rattle.std.proofs.lemmas.Bool.Decides.{nat_tests}
use Rattle.picture.specs.Pictured.{picture, drawable}
use Rattle.picture.proofs.pictures.draw.Goals as goal

pub returns : goal.returns
unfolding picture
returns c =
    let m = c.args.m in
    let test : drawable c.args.row.now m ≡ true = grind (arith, nat_tests) in
    let many : 2 * m - m ≡ m = omega arith in
    let new = c.new.ensures in
    let told = c.in_ok-tell.ensures.lines refl in
    record { drawn = (test, rw (many, new.top_is, new.apart_is, new.places_is, c.min.ensures) at told) }
