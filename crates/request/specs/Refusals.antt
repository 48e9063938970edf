-- What an error of the command is to the reader of the words.
use Rattle.clap.specs.declared.error.kind.ErrorKind.{ErrorKind}
use Rattle.clap.specs.declared.error.kind.ErrorKind.TheVariants as kinds
use Rattle.request.specs.declared.refusal.WordsRefusal.{WordsRefusal}
use Rattle.request.specs.declared.refusal.WordsRefusal.TheVariants as refusals

-- bad words, unless memory ran out
abbrev pub refusal_of : ErrorKind → WordsRefusal
refusal_of kinds.OutOfMemory = refusals.OutOfMemory
refusal_of _ = refusals.Bad
