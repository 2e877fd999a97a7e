use Rattle.std.proofs.Common.{arith}
use Rattle.std.proofs.lemmas.Bool.Decides.{nat_tests}
use Rattle.picture.proofs.Assembled.{mark_told, mark_none}
use Rattle.picture.proofs.pictures.Picture.tell_mark.Goals.{then-k-eq0-via-then-k-eq0, then-k-eq0-via-else-k-eq0+then-k-self}
use Rattle.picture.proofs.pictures.Picture.tell_mark.Goals as goal

pub returns-then-k-eq0 : goal.returns-then-k-eq0
returns-then-k-eq0 c =
    record {
      lines = λ ok. mark_none _ _ _ _ _ _ (elim c.then-k-eq0.branch [
        | then-k-eq0-via-then-k-eq0 w ↦ grind (arith, nat_tests)
        | then-k-eq0-via-else-k-eq0+then-k-self w ↦ grind (arith, nat_tests)
      ]);
    }

pub returns : goal.returns
returns c =
    record {
      lines = λ ok. mark_told _ _ _ _ c.args.self.now.scale.top c.args.self.now.scale.places c.args.k _ _ _ (omega arith) (omega arith)
          c.middle-x.ensures.value c.height.ensures.value c.height-2.ensures.value c.in_ok-write.ensures.bytes;
    }
