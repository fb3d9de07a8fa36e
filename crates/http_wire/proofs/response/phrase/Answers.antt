use Rattle.std.proofs.Common.{ap, sym, List, ℕ, Option}
use Rattle.std.specs.Prelude.{unwrap_or, []}
use Rattle.http_wire.proofs.PhraseLemmas.{no_phrase}
use Rattle.http_wire.proofs.response.phrase.Goals as goal

pub returns-in-Err : goal.returns-in-Err
returns-in-Err c = ap (λ (phrase : Option (List ℕ)). unwrap_or phrase []) (sym (no_phrase c.args.status c.in-Err.ensures))
