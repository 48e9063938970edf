use Rattle.std.proofs.Common.{map}
use Rattle.clap.specs.Words.{found_of, rows_of}
use Rattle.request.proofs.Parses.{bad_reads, words_ask, words_refused}
use Rattle.request.proofs.words.read_named.Goals as goal

pub returns-in_err-matches-clause-value : goal.returns-in_err-matches-clause-value
returns-in_err-matches-clause-value c =
    words_refused (map (λ s. s.now) c.args.words.now) c.in_err-matches.field-0.0 c.from_residual.result
    c.in_err-matches.ensures.kinds c.from_residual.ensures.1

pub returns-in_err-request_in-clause-value : goal.returns-in_err-request_in-clause-value
returns-in_err-request_in-clause-value c =
    bad_reads (map (λ s. s.now) c.args.words.now) (rows_of (found_of c.in_ok-matches.matches)) _
    c.from_residual-in_err-request_in.result
    c.in_ok-matches.ensures.kinds c.in_ok-matches.ensures.matches c.in_err-request_in.ensures.value
    c.from_residual-in_err-request_in.ensures.1

pub returns-clause-value : goal.returns-clause-value
returns-clause-value c =
    words_ask (map (λ s. s.now) c.args.words.now)
    (rows_of (found_of c.in_ok-matches.matches)) c.in_ok-request_in.field-0 c.in_ok-matches.ensures.kinds
    c.in_ok-matches.ensures.matches
    c.in_ok-request_in.ensures.value
