-- A request has at most 366 days.
use Rattle.std.proofs.Common.{◌≡◌, ℕ, ◌≤◌, List, [], ◌∷◌, Option, None, Some, Result, Ok, Err, IfOk, IfSome, arith, inl}
use Rattle.std.proofs.Common.{inr, option_map, subst}
use Rattle.std.specs.Prelude.{◌&&◌, codes, nat_le, unwrap_or}
use Rattle.std.specs.Option.{ok_or}
use Rattle.std.proofs.lemmas.Bool.{and_parts, cases_Bool, leb-true}
use Rattle.clap.specs.Words.{Kinds, Row, Text, fault_of, first_of, matches_of}
use Rattle.dossier_csv.specs.Columns.{number_of}
use Rattle.request.specs.Command.{parcours}
use Rattle.request.specs.Request.{◌>>=◌, bad_words, between, deadlines_option, given, mode_option, named_words}
use Rattle.request.specs.Request.{number_option, numbers_option, picker_option, request_in, request_of}
use Rattle.request.specs.Request.{request_of_named, where_sound}
use Rattle.request.specs.declared.request.Request.{Request}
use Rattle.outcome_laws.proofs.TypeOf.{TypeOf}

-- the fault of words, a type that its crate does not export
abbrev BadWords : Type 0
BadWords = TypeOf bad_words

-- few days are asked for
abbrev FewDays : Request → Type 0
FewDays request = request.days ≤ 366

step : {A B : Type 0} {P : A → Type 0} (Q : B → Type 0) (r : Result A BadWords) (next : A → Result B BadWords)
    → IfOk r P → ((x : A) → P x → IfOk (next x) Q) → IfOk (r >>= next) Q
step Q (Ok x) next here goes = goes x here
step Q (Err bad) next here goes = tt

any : {A B : Type 0} (Q : B → Type 0) (r : Result A BadWords) (next : A → Result B BadWords)
    → ((x : A) → IfOk (next x) Q) → IfOk (r >>= next) Q
any Q (Ok x) next goes = goes x
any Q (Err bad) next goes = tt

between_few : (least most : ℕ) (o : Option ℕ) → IfSome (between least most o) (λ n. n ≤ most)
between_few least most None = tt
between_few least most (Some n) =
    elim (cases_Bool (nat_le least n && nat_le n most)) [
      | inl is ↦ let parts = and_parts _ _ is in rw is (leb-true n most parts.1)
      | inr not_so ↦ rw not_so tt
    ]

some_few : (most : ℕ) (o : Option ℕ) → IfSome o (λ n. n ≤ most)
    → IfOk (ok_or (option_map Some o) bad_words) (λ v. IfSome v (λ n. n ≤ most))
some_few most None few = tt
some_few most (Some n) few = few

given_few : (least most : ℕ) (o : Option Text)
    → IfOk (given (λ text. between least most (number_of text)) o) (λ v. IfSome v (λ n. n ≤ most))
given_few least most None = tt
given_few least most (Some text) =
    some_few most (between least most (number_of text)) (between_few least most (number_of text))

number_few : (name : Text) (least most : ℕ) (rows : List Row)
    → IfOk (number_option name least most rows) (λ v. IfSome v (λ n. n ≤ most))
unfolding number_option
number_few name least most rows = given_few least most (first_of name rows)

one_or_few : (o : Option ℕ) → IfSome o (λ n. n ≤ 366) → unwrap_or o 1 ≤ 366
one_or_few None few = omega arith
one_or_few (Some n) few = few

request_few : (rows : List Row) → IfOk (request_in rows) (λ request. request.days ≤ 366)
unfolding request_in
request_few rows =
    any FewDays (numbers_option rows) _ (λ numbers.
    any FewDays (mode_option numbers rows) _ (λ mode.
    step FewDays (number_option (codes "days") 1 366 rows) _ (number_few (codes "days") 1 366 rows) (λ days few.
    any FewDays (picker_option rows) _ (λ picker.
    any FewDays (deadlines_option rows) _ (λ deadlines. one_or_few days few)))))

sound_few : (kinds : Kinds) (r : Result Request BadWords) (request : Request) → IfOk r (λ q. q.days ≤ 366)
    → where_sound kinds r ≡ Some request → request.days ≤ 366
sound_few [] (Ok q) request few is =
    let same : q ≡ request = cc in
    subst (λ (q : Request). q.days ≤ 366) same few
sound_few [] (Err bad) request few is = absurd (cc)
sound_few (fault ∷ faults) r request few is = absurd (cc)

pub days_few : (words : List Text) (request : Request) → request_of words ≡ Some request → request.days ≤ 366
unfolding request_of_named
days_few words request is =
    let rows : List Row = matches_of parcours (named_words words) in
    sound_few (fault_of parcours (named_words words)) (request_in rows) request (request_few rows) is
