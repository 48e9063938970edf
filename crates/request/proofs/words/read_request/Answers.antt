use Rattle.std.proofs.Common.{map, ap}
use Rattle.std.specs.Prelude.{string_bytes}
use Rattle.request.specs.Request.{named_words}
use Rattle.request.proofs.Parses.{read_as}
use Rattle.request.proofs.words.read_request.Goals as goal

pub returns-clause-value : goal.returns-clause-value
returns-clause-value c =
    read_as (map (λ s. s.now) c.as_slice.result.now) (map (λ s. s.now) c.in_ok-all.all.items)
    (named_words (map string_bytes c.args.words.now)) c.read_named.result
    (ap (map (λ s. s.now)) c.as_slice.ensures.value) c.in_ok-all.ensures c.read_named.ensures.value
