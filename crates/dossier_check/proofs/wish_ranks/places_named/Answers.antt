use Rattle.std.proofs.Common.{◌≡◌, ◌||◌, true, nat_eq, is_some, position, sym, ap, ◌∙◌}
use Rattle.std.specs.List.{list_any}
use Rattle.std.specs.Option.{option_map_or}
use Rattle.admit_core.specs.Lists.{is_among}
use Rattle.admit_core.specs.Relations.{is_ranked, programme_ids, school_ids}
use Rattle.dossier_check.proofs.Firsts.{position-map}
use Rattle.dossier_check.proofs.MayNotWish.{may_wish, no_programme, not_boarded, not_ranked}
use Rattle.dossier_check.proofs.wish_ranks.places_named.Goals as goal

pub returns-in_default : goal.returns-in_default
returns-in_default c t before known =
    no_programme t c.args.all_ranked before c.args.row.now
    (ap (list_any (nat_eq c.args.row.now.programme)) (sym known.programmes) ∙ sym c.get_index_of.ensures.found
    ∙ ap is_some c.in_default.is)

pub returns-then-not-is_ranked : goal.returns-then-not-is_ranked
returns-then-not-is_ranked c t before known =
    let row = c.args.row.now in
    let programme : is_among row.programme (programme_ids t) ≡ true =
    ap (list_any (nat_eq row.programme)) (sym known.programmes) ∙ sym c.get_index_of.ensures.found
    ∙ ap is_some c.in-Some.is in
    let school : option_map_or (λ h. is_among h (school_ids t)) row.school true ≡ true =
    (λ i. option_map_or (λ h. is_among h (sym known.schools i)) row.school true) ∙ sym c.knows_school.ensures
    ∙ c.if-not-knows_school.false in
    let at = sym c.in-Some.is ∙ c.get_index_of.ensures.index ∙ ap (position (nat_eq row.programme)) known.programmes
    ∙ position-map (nat_eq row.programme) (λ p. p.id) t.programmes in
    not_ranked t c.args.all_ranked before row programme school
    (sym (c.is_ranked.ensures t row.programme known.ranked at) ∙ c.if-not-is_ranked.true)

pub returns-in_default-rank_place : goal.returns-in_default-rank_place
returns-in_default-rank_place c t before known =
    let row = c.args.row.now in
    let programme : is_among row.programme (programme_ids t) ≡ true =
    ap (list_any (nat_eq row.programme)) (sym known.programmes) ∙ sym c.get_index_of.ensures.found
    ∙ ap is_some c.in-Some.is in
    let school : option_map_or (λ h. is_among h (school_ids t)) row.school true ≡ true =
    (λ i. option_map_or (λ h. is_among h (sym known.schools i)) row.school true) ∙ sym c.knows_school.ensures
    ∙ c.if-not-knows_school.false in
    let at = sym c.in-Some.is ∙ c.get_index_of.ensures.index ∙ ap (position (nat_eq row.programme)) known.programmes
    ∙ position-map (nat_eq row.programme) (λ p. p.id) t.programmes in
    let ranked : (c.args.all_ranked || is_ranked t row.programme row.candidate) ≡ true =
    sym (c.is_ranked.ensures t row.programme known.ranked at) ∙ c.if-not-is_ranked.false in
    not_boarded t c.args.all_ranked before row programme school ranked
    (sym (c.rank_place.ensures t known.boarded) ∙ ap is_some c.in_default-rank_place.is)

pub returns : goal.returns
returns c t before known =
    let row = c.args.row.now in
    let programme : is_among row.programme (programme_ids t) ≡ true =
    ap (list_any (nat_eq row.programme)) (sym known.programmes) ∙ sym c.get_index_of.ensures.found
    ∙ ap is_some c.in-Some.is in
    let school : option_map_or (λ h. is_among h (school_ids t)) row.school true ≡ true =
    (λ i. option_map_or (λ h. is_among h (sym known.schools i)) row.school true) ∙ sym c.knows_school.ensures
    ∙ c.if-not-knows_school.false in
    let at = sym c.in-Some.is ∙ c.get_index_of.ensures.index ∙ ap (position (nat_eq row.programme)) known.programmes
    ∙ position-map (nat_eq row.programme) (λ p. p.id) t.programmes in
    let ranked : (c.args.all_ranked || is_ranked t row.programme row.candidate) ≡ true =
    sym (c.is_ranked.ensures t row.programme known.ranked at) ∙ c.if-not-is_ranked.false in
    may_wish t c.args.all_ranked before row programme school ranked
    (sym (c.rank_place.ensures t known.boarded) ∙ ap is_some c.in-Some-rank_place.is)
