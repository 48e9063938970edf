use Rattle.dossier_check.proofs.Found.{nothing_there, read_there}
use Rattle.dossier_check.proofs.WhoIsRanked.{has_place, list_tells, no_list}
use Rattle.dossier_check.proofs.who_is_ranked.WhoIsRanked.has.Goals as goal

pub returns-in_default : goal.returns-in_default
returns-in_default c t id says at =
    let r = c.args.self.now in
    has_place t r.places.now says.places says.known id c.args.candidate c.args.programme at
    (nothing_there r.places.now c.args.programme c.get.result c.in_default.is c.get.ensures.lookup.0)

pub returns-in_default-get : goal.returns-in_default-get
returns-in_default-get c t id says at =
    let r = c.args.self.now in
    no_list t r.places.now says.places says.known id c.args.candidate c.args.programme at (λ l. l.items)
    r.candidates.now says.candidates c.in-Some.place.now
    (read_there r.places.now c.args.programme c.get.result c.in-Some.place c.in-Some.is c.get.ensures.lookup.0
    c.get.ensures.lookup.1)
    (nothing_there r.candidates.now c.in-Some.place.now c.get-2.result c.in_default-get.is c.get-2.ensures.lookup.0)

pub returns : goal.returns
returns c t id says at =
    let r = c.args.self.now in
    list_tells t r.places.now says.places says.known id c.args.candidate c.args.programme at (λ l. l.items)
    r.candidates.now says.candidates c.in-Some.place.now
    (read_there r.places.now c.args.programme c.get.result c.in-Some.place c.in-Some.is c.get.ensures.lookup.0
    c.get.ensures.lookup.1)
    c.in-Some-get.ids.now
    (read_there r.candidates.now c.in-Some.place.now c.get-2.result c.in-Some-get.ids c.in-Some-get.is
    c.get-2.ensures.lookup.0 c.get-2.ensures.lookup.1)
    c.as_slice.result.now c.as_slice.ensures.value c.is_there_by.result c.is_there_by.ensures
