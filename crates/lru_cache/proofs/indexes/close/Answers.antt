use Rattle.std.proofs.Common.{ℕ, ◌+◌, List, ◌∷◌, ◌++◌, length, drop, ap, ◌∙◌}
use Rattle.recency.specs.Row as recent
use Rattle.lru_cache.specs.Rows.{row_of}
use Rattle.lru_cache.proofs.Written.{row_written}
use Rattle.lru_cache.proofs.indexes.close.Goals as goal

pub returns : goal.returns
unfolding row_of
returns c =
    let k = c.args.k in
    let rest = drop (2 + k) c.args.cache.now in
    let put = c.put-n in
    record {
      after = row_written k put.result c.args.cache.now put.new.places c.requires.long
          ∙ ap (λ (n : ℕ). k ∷ n ∷ (put.new.places ++ rest)) put.ensures.value
          ∙ ap (λ (xs : List ℕ). k ∷ length (recent.pages c.args.index.now) ∷ (xs ++ rest)) put.ensures.after;
    }
