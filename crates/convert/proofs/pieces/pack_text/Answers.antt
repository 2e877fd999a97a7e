-- What the piece names is packed whole.
use Rattle.std.proofs.Common.{◌≡◌, ℕ, ◌/◌, ◌≤◌, min, length, take, replicate, arith}
use Rattle.std.proofs.lemmas.List.{length-take, length-replicate}
use Rattle.text.specs.Texts.{pages_from}
use Rattle.text.specs.Readers.{state_of}
use Rattle.convert.proofs.Parts.{named_packed}
use Rattle.convert.proofs.pieces.pack_text.Goals as goal

pub returns-clause-written : goal.returns-clause-written
returns-clause-written c =
    let read = c.read-count.ensures in
    let room : length (take c.min.result (replicate {A = ℕ} 16384 0)) ≡ min (length c.args.out.now / 4) 16384 = omega (arith, length-take {A = ℕ}, length-replicate {A = ℕ} 16384 0) in
    let few : c.read-count.result ≤ length c.args.out.now / 4 = omega (arith, length-take {A = ℕ}, length-replicate {A = ℕ} 16384 0) in
    named_packed _ _ _ _ (λ n. pages_from (state_of c.args.reader.now) (take n c.args.text.now)) _ _ c.read-count.result _
    room read.written read.value few c.pack.ensures.value c.pack.ensures.after
