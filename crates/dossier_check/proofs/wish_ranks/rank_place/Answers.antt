use Rattle.std.proofs.Common.{◌≡◌, ℕ, is_some, ap, ◌∙◌}
use Rattle.std.specs.List.{list_any}
use Rattle.admit_core.proofs.Plain.{any-map}
use Rattle.admit_core.specs.Relations.{is_boarded}
use Rattle.dossier_check.specs.Pairs.{pair_eq}
use Rattle.dossier_check.proofs.wish_ranks.rank_place.Goals as goal

pub returns-in-Some : goal.returns-in-Some
returns-in-Some c t same =
    let pair : ℕ × ℕ = (c.in-Some.school, c.args.candidate) in
    let boarded : is_some c.get_index_of.result ≡ is_boarded t pair.0 pair.1 =
    c.get_index_of.ensures.found ∙ ap (list_any (pair_eq pair)) same
    ∙ any-map (pair_eq pair) (λ b. (b.school, b.candidate)) t.boarding in
    rw c.in-Some.is boarded
