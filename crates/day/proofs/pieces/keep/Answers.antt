use Rattle.std.proofs.Common.{◌≡◌, ℕ, ◌+◌, ◌-◌, ◌^◌, min, length, take, drop, sym, refl, ap, ◌∙◌, arith}
use Rattle.trace.specs.Requests.{requests_in}
use Rattle.trace.proofs.Groups.{length_requests}
use Rattle.day.proofs.Decoded.{requests_small}
use Rattle.day.proofs.Keeping.{kept_more}
use Rattle.day.proofs.pieces.keep.Goals as goal

pub returns : goal.returns
returns c =
    let bytes = c.args.bytes.now in
    let first = c.args.first.now in
    let held = c.min-held.result in
    let long = length_requests bytes in
    let total : c.saturating_add.result ≡ min (c.args.total + length (requests_in bytes)) (2 ^ 64 - 1) = c.saturating_add.ensures ∙ ap (λ (n : ℕ). min (c.args.total + n) (2 ^ 64 - 1)) (sym long) in
    record {
      value = total;
      after = kept_more first (requests_in bytes) c.args.total held c.decode.result c.saturating_add.result (length first - held) (take (length first - held) (drop held first)) c.decode.new.out (omega arith) c.min-held.ensures refl refl (c.decode.ensures.value ∙ ap (λ (n : ℕ). min n (length (take (length first - held) (drop held first)))) (sym long)) c.decode.ensures.after total;
      small = requests_small bytes c.type_inv.bytes;
    }
