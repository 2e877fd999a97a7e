use Rattle.std.proofs.Common.{refl}
use Rattle.picture.proofs.Assembled.{drawn_told}
use Rattle.picture.proofs.pictures.Picture.tell.Goals as goal

pub returns : goal.returns
returns c =
    let p = c.args.self.now in
    record {
      lines = λ ok. drawn_told _ _ _ _ _ _ _ _ p.house.now p.known.now p.scale.top p.scale.apart p.scale.places c.args.k _ _ c.in_ok-write.ensures.bytes
          (c.in_ok-tell_fetches.ensures.lines refl) (c.in_ok-tell_places.ensures.lines refl) c.height.ensures.value (c.in_ok-tell_line.ensures.lines refl)
          c.height-2.ensures.value (c.in_ok-tell_line-2.ensures.lines refl) (c.in_ok-tell_mark.ensures.lines refl) c.in_ok-write-2.ensures.bytes;
    }
