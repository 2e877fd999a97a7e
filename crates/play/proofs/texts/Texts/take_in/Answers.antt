-- What is taken are the bytes of the pages that the piece names.
use Rattle.std.proofs.Common.{◌≡◌, ℕ, List, length, take, subst, ap, ◌∙◌, arith}
use Rattle.text.specs.Texts.{pages_from, after}
use Rattle.text.specs.Readers.{state_of}
use Rattle.play.proofs.Named.{whole_piece, named_front}
use Rattle.play.proofs.texts.Texts.take_in.Goals as goal

pub returns-in_err-take-clause-went : goal.returns-in_err-take-clause-went
returns-in_err-take-clause-went g c =
    let long : length c.args.self.now.buf ≡ 65536 = omega arith in
    let named = λ (n : ℕ). pages_from (state_of c.args.self.now.reader) (take n c.args.piece.now) in
    let front = named_front _ long _ named _ c.pack_text-n.ensures.value c.pack_text-n.ensures.written in
    subst (λ (l : List ℕ). g.S.Step.goes c.args.step.now l c.take.new.self) front c.take.ensures.went

pub returns-clause-went : goal.returns-clause-went
returns-clause-went g c =
    let long : length c.args.self.now.buf ≡ 65536 = omega arith in
    let named = λ (n : ℕ). pages_from (state_of c.args.self.now.reader) (take n c.args.piece.now) in
    let front = named_front _ long _ named _ c.pack_text-n.ensures.value c.pack_text-n.ensures.written in
    subst (λ (l : List ℕ). g.S.Step.goes c.args.step.now l c.take.new.self) front c.take.ensures.went

pub returns-clause-after : goal.returns-clause-after
returns-clause-after g c =
    let long : length c.args.self.now.buf ≡ 65536 = omega arith in
    λ ok. c.pack_text-n.ensures.after ∙ ap (λ (n : ℕ). after (state_of c.args.self.now.reader) (take n c.args.piece.now)) (whole_piece _ long)
