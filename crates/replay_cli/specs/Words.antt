-- What the program is given.
use Rattle.std.specs.Prelude.{◌≡◌, List, [], Result, Ok, Err, IfOk, MatchResult, drop}
use Rattle.std.specs.IoError.{error_kind}
use Rattle.std.specs.Vec.Iter.{into_iter_items}
use Rattle.std.specs.declared.alloc.AllocError.{AllocError}
use Rattle.std.specs.declared.io.Error.{Error}
use Rattle.std.specs.declared.io.ErrorKind.TheVariants.{OutOfMemory}
use Rattle.std.specs.declared.vec.IntoIter.{IntoIter}
use Rattle.std.specs.declared.vec.Vec.{Vec}

-- the words after the first, in their order; none where one of them is no text, which are bad words
-- too
abbrev pub words_in : {A Z E : Type 0} → Result (IntoIter A Z) E → List A
words_in (Ok args) = drop 1 (into_iter_items args)
words_in (Err error) = []

-- std says that there was no memory for the words
abbrev pub IsLack : Error → Type 0
IsLack error = error_kind error ≡ OutOfMemory

-- the words are read, or there was no memory to list them; where std gives none it says itself
-- whether that was for want of memory
abbrev pub ReadsWords : {A Z : Type 0} → Result (IntoIter A Z) Error → Result (Vec A Z) AllocError
    → Type 0
ReadsWords (Ok args) result = IfOk result (λ words. words.items ≡ drop 1 (into_iter_items args))
ReadsWords (Err error) result = MatchResult result (λ words. (words.items ≡ []) × ¬ IsLack error)
    (λ _. IsLack error)
