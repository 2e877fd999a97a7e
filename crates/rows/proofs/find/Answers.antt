use Rattle.std.proofs.Common.{◌≡◌, eqb, rules}
use Rattle.std.specs.List.{position}
use Rattle.std.proofs.lemmas.Iterator.{YieldsList-from_slice}
use Rattle.std.proofs.lemmas.Iterator.Search.{position_from_yields_List}
use Rattle.rows.proofs.Looked.{finds}
use Rattle.rows.proofs.find.Goals as goal
use borrow.Author.Tests.{tests}

pub returns : goal.returns
returns c =
    let same : c.position.result ≡ position (λ x. eqb x c.args.page) c.args.row.now =
    position_from_yields_List (λ x. eqb x c.args.page) _ _ c.position.result c.position.ensures.ran (YieldsList-from_slice c.args.row.now cc) (λ x b q k. search (rules, tests)) in
    record { value = rw same (finds c.args.page c.args.row.now) }
