-- The command is one of which the matches and the faults are a function of the words.
use Rattle.std.proofs.Common.{◌≡◌, ◌≢◌, ◌∙◌, List, [], ◌∷◌, true, ap, refl, subst, inl, inr}
use Rattle.std.specs.Prelude.{Some, None, Result, Ok, Err, IfOk, IsErrAnd}
use Rattle.std.proofs.lemmas.Result.{IfOk-weaker}
use Rattle.clap.specs.Words.{App, FailsBy, HasKind, HasMatchesOf, Kinds, Row, Text, fault_of, found_of, is_simple}
use Rattle.clap.specs.Words.{is_simple_and_free, kind_of, matches_of, rows_of}
use Rattle.clap.specs.declared.error.Error.{Error}
use Rattle.clap.specs.declared.error.kind.ErrorKind.{ErrorKind}
use Rattle.clap.specs.declared.error.kind.ErrorKind.TheVariants.{OutOfMemory}
use Rattle.clap.specs.declared.parser.matches.ArgMatches.{ArgMatches}
use Rattle.clap.proofs.OnLiterals.{clap_on_literals}
use Rattle.request.specs.Command.{parcours}
use Rattle.request.specs.Refusals.{refusal_of}
use Rattle.request.specs.Request.{Reads, request_in, request_of_named, where_sound}
use Rattle.request.specs.declared.refusal.BadWords.{BadWords}
use Rattle.request.specs.declared.refusal.WordsRefusal.{WordsRefusal}
use Rattle.request.specs.declared.refusal.WordsRefusal.TheVariants as refusals
use Rattle.request.specs.declared.request.Request.{Request}

pub parcours_is_simple : is_simple parcours ≡ true
unfolding clap_on_literals
parcours_is_simple = refl

pub parcours_is_free : is_simple_and_free parcours ≡ true
unfolding clap_on_literals
parcours_is_free = refl

-- the clauses on a command, said of what a parse reads of it
pub matches_as : (r : Result ArgMatches Error) (a b : App) (words : List Text) → a ≡ b → is_simple b ≡ true
    → IfOk r (λ m. HasMatchesOf a words m)
    → IfOk r (λ m. rows_of (found_of m) ≡ matches_of b words)
matches_as r a b words is simple h =
    let P : App → Type 0 = λ x. IfOk r (λ m. HasMatchesOf x words m) in
    IfOk-weaker r (λ m. HasMatchesOf b words m) (λ m. rows_of (found_of m) ≡ matches_of b words) (λ m w. (w simple).0)
    (subst P is h)

pub kinds_as : (r : Result ArgMatches Error) (a b : App) (words : List Text) → a ≡ b → is_simple_and_free b ≡ true
    → (is_simple_and_free a ≡ true → FailsBy (fault_of a words) r) → FailsBy (fault_of b words) r
kinds_as r a b words is free h =
    let P : App → Type 0 = λ x. is_simple_and_free x ≡ true → FailsBy (fault_of x words) r in
    subst P is h free

-- where the error isn't running out of memory, there is a fault
bad_by_kind : (kinds : Kinds) (request : Result Request BadWords) (e : Error) (k : ErrorKind) → HasKind kinds e
    → k ≡ kind_of e → k ≢ OutOfMemory
    → where_sound kinds request ≡ None
bad_by_kind [] request e k has is not_memory =
    elim has [ inl memory ↦ absurd (not_memory (is ∙ memory)) | inr none ↦ elim none [ ] ]
bad_by_kind (f ∷ kinds) request e k has is not_memory = refl

refused_by_kind : (words : List Text) (refusal : WordsRefusal) (e : Error) → HasKind (fault_of parcours words) e
    → refusal ≡ refusal_of (kind_of e) → Reads (Err refusal) (request_of_named words)
unfolding request_of_named
refused_by_kind words refusals.OutOfMemory e has is = tt
refused_by_kind words refusals.Bad e has is =
    bad_by_kind (fault_of parcours words) (request_in (matches_of parcours words)) e (kind_of e) has refl
    (λ wanting. let never : refusals.Bad ≡ refusals.OutOfMemory = is ∙ ap refusal_of wanting in absurd (cc))

pub words_refused : (words : List Text) (e : Error) (r : Result Request WordsRefusal)
    → HasKind (fault_of parcours words) e → IsErrAnd r (λ refusal. refusal ≡ refusal_of (kind_of e))
    → Reads r (request_of_named words)
words_refused words e (Ok request) has from = absurd from
words_refused words e (Err refusal) has from = refused_by_kind words refusal e has from

-- where the command names no fault, the matches say what the words ask for
pub words_ask : (words : List Text) (rows : List Row) (request : Request) → fault_of parcours words ≡ []
    → rows ≡ matches_of parcours words
    → Ok request ≡ request_in rows → request_of_named words ≡ Some request
unfolding request_of_named
words_ask words rows request sound same is = rw (sound, ← same, ← is) refl

words_are_bad : (words : List Text) (rows : List Row) (bad : BadWords) → fault_of parcours words ≡ []
    → rows ≡ matches_of parcours words
    → Err bad ≡ request_in rows → request_of_named words ≡ None
unfolding request_of_named
words_are_bad words rows bad sound same is = rw (sound, ← same, ← is) refl

pub bad_reads : (words : List Text) (rows : List Row) (bad : BadWords) (r : Result Request WordsRefusal)
    → fault_of parcours words ≡ [] → rows ≡ matches_of parcours words
    → Err bad ≡ request_in rows → IsErrAnd r (λ refusal. refusal ≡ refusals.Bad) → Reads r (request_of_named words)
bad_reads words rows bad (Ok request) sound same is from = absurd from
bad_reads words rows bad (Err refusal) sound same is from = rw from (words_are_bad words rows bad sound same is)

-- the same of two equal lists of words
pub read_as : (ws us vs : List Text) (r : Result Request WordsRefusal) → ws ≡ us → us ≡ vs
    → Reads r (request_of_named ws) → Reads r (request_of_named vs)
read_as ws us vs r e e₂ h = let P : List Text → Type 0 = λ x. Reads r (request_of_named x) in subst P (e ∙ e₂) h
