use Rattle.std.proofs.Common.{map, ap, ◌∙◌, sym, subst}
use Rattle.dossier_check.specs.Dealt.{group_places}
use Rattle.dossier_check.specs.Keys.{AreKeysOf}
use Rattle.dossier_check.specs.Outcome.{AnswersFault, first_in_named, first_in_ranks, first_from_wishes}
use Rattle.dossier_check.proofs.KeyPlaces.{are_places}
use Rattle.dossier_check.proofs.Outcomes.{after_none, first_here, handed_on, none_then, in_parts}
use Rattle.dossier_check.proofs.relations.check_slots.Goals as goal

pub returns-in_err-named-clause-fault : goal.returns-in_err-named-clause-fault
returns-in_err-named-clause-fault c =
    let t = c.args.tables.now in
    let e = c.from_residual in
    let here : AnswersFault e.result (first_in_named t) = handed_on _ _ _ e.ensures.1 c.in_err-named.ensures.fault in
    subst (AnswersFault e.result) (in_parts t) (first_here e.result (first_in_named t) _ e.ensures.0 here)

pub returns-in_err-ranks-clause-fault : goal.returns-in_err-ranks-clause-fault
returns-in_err-ranks-clause-fault c =
    let t = c.args.tables.now in
    let e = c.from_residual-in_err-ranks in
    let here : AnswersFault e.result (first_in_ranks t) = handed_on _ _ _ e.ensures.1 c.in_err-ranks.ensures.fault in
    subst (AnswersFault e.result) (in_parts t)
    (after_none e.result (first_in_named t) _ c.in_ok-named.ensures.fault
    (first_here e.result (first_in_ranks t) _ e.ensures.0 here))

pub check_wishes_on-requires-clause-known : goal.check_wishes_on-requires-clause-known
check_wishes_on-requires-clause-known c =
    record {
      keyed = c.hashing_of-keyed.ensures;
      programmes = c.in_ok-named.ensures.programmes;
      schools = c.in_ok-named.ensures.schools;
      ranked = record {
        places = c.as_slice-2.ensures.value ∙ c.in_ok-places.ensures
            ∙ (λ i. group_places (c.in_ok-named.ensures.groups i) (c.as_slice.ensures i));
        candidates = ap (map (λ l. l.items)) c.as_slice-3.ensures.value ∙ c.in_ok-ranks.ensures.dealt.candidates;
        known = c.in_ok-ranks.ensures.known;
      };
      boarded = c.in_ok-ranks.ensures.boarding;
    }

pub returns-in_err-wishes-clause-fault : goal.returns-in_err-wishes-clause-fault
returns-in_err-wishes-clause-fault c =
    let t = c.args.tables.now in
    let e = c.from_residual-in_err-wishes in
    let here : AnswersFault e.result (first_from_wishes t) =
    handed_on _ _ _ e.ensures.1 c.in_err-wishes.ensures.fault in
    subst (AnswersFault e.result) (in_parts t)
    (after_none e.result (first_in_named t) _ c.in_ok-named.ensures.fault
    (after_none e.result (first_in_ranks t) _ c.in_ok-ranks.ensures.fault here))

pub returns-clause-fault : goal.returns-clause-fault
returns-clause-fault c =
    let t = c.args.tables.now in
    sym (in_parts t)
    ∙ none_then (first_in_named t) _ c.in_ok-named.ensures.fault
    (none_then (first_in_ranks t) _ c.in_ok-ranks.ensures.fault c.in_ok-wishes.ensures.fault)

pub returns-clause-keys : goal.returns-clause-keys
returns-clause-keys c =
    let t = c.args.tables.now in
    subst (AreKeysOf t) (sym c.into_keys.ensures)
    (record {
      groups = are_places (λ g. g.id) t.groups _ c.in_ok-named.ensures.groups c.requires.groups.size;
      programmes = are_places (λ p. p.id) t.programmes _ c.in_ok-named.ensures.programmes c.requires.programmes.size;
      schools = are_places (λ h. h.id) t.schools _ c.in_ok-named.ensures.schools c.requires.schools.size;
      boarding = c.into_parts-rankings.ensures.boarding ∙ c.in_ok-ranks.ensures.boarding;
      wishes = are_places (λ w. w.id) t.wishes _ c.in_ok-wishes.ensures.wishes c.requires.wishes.size;
      state = c.in_ok-wishes.ensures.state;
    })

pub returns-clause-rankings : goal.returns-clause-rankings
returns-clause-rankings c = c.into_parts-rankings.ensures.rankings ∙ c.in_ok-ranks.ensures.dealt.rankings
