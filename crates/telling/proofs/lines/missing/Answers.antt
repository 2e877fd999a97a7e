use Rattle.std.proofs.Common.{not, rules}
use Rattle.std.proofs.lemmas.Iterator.{YieldsList-from_slice}
use Rattle.std.proofs.lemmas.Iterator.Consumers.{YieldsList-from_enumerate}
use Rattle.std.proofs.lemmas.Iterator.Search.{find_from_yields_List}
use Rattle.paging.specs.Lists.{has}
use Rattle.telling.proofs.Gone.{gone_found}
use Rattle.telling.proofs.lines.missing.Goals as goal

pub returns : goal.returns
returns c =
    let before = c.args.before.now in
    let after = c.args.after.now in
    let walk = YieldsList-from_enumerate (YieldsList-from_slice before (search rules)) (search rules) in
    let found = find_from_yields_List (λ p. not (has after p.1)) _ _ c.find.result c.find.ensures.ran walk (λ x b q called. search rules) in
    let same = gone_found before after 0 in
    record { value = search rules }
