-- The worked texts, computed.
use Rattle.std.proofs.Common.{refl}
use Rattle.certificate.specs.Grammar.{said_from}
use Rattle.certificate.specs.WorkedTexts.{TextsOfChains, LinesOutOfPlace, NoLines, NoEnds}

pub texts_of_chains : TextsOfChains
unfolding said_from
texts_of_chains = (refl, refl, refl, refl)

pub lines_out_of_place : LinesOutOfPlace
unfolding said_from
lines_out_of_place = (refl, refl, refl, refl, refl, refl, refl, refl)

pub no_lines : NoLines
unfolding said_from
no_lines = (refl, refl, refl, refl, refl, refl, refl, refl, refl)

pub no_ends : NoEnds
unfolding said_from
no_ends = (refl, refl, refl, refl, refl, refl)
