-- The worked case of the law: its text, with a value for each variable and a product for each
-- arrow.
use Rattle.std.specs.Prelude.{◌≡◌, ◌∷◌, [], ℕ, ℤ, pos, List, Some, length}
use Rattle.admit_core.specs.Days.{first_evening}
use Rattle.admit_core.specs.State.{State}
use Rattle.cut_laws.specs.Cut.{StandAlike, cut_at}
use Rattle.morning_laws.specs.ReadOffers.{read_terms}
use Rattle.text_laws.specs.ReadBack.{HaveReadDates}
use Rattle.text_laws.specs.Witnesses.{small_evening}

-- ---- the one wish is offered on day 2, and the campaign begins anew after that evening
abbrev pub ReadOffersStandAlikeWitness : Type 0
ReadOffersStandAlikeWitness =
    let s : State = small_evening in
    let start : ℤ = pos 19876 in
    let before : List ℤ = pos 0 ∷ [] in
    let a : ℕ = 2 in
    let term : ℕ = 3 in
    (length s.marks ≡ length s.dossier.wishes)
    × (length before ≡ length s.dossier.wishes)
    × HaveReadDates s start before
    × StandAlike a (Some (record { term = term; before = before })) s
    (Some (read_terms s start before a term)) (first_evening (cut_at a s))
