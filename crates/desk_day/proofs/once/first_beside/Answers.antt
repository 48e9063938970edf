use Rattle.admit_core.specs.DossierRows.{candidate_of}
use Rattle.desk_day.proofs.OnceEach.{own_same, some_own}
use Rattle.desk_day.proofs.once.first_beside.Goals as goal

pub bounds-own-0 : goal.bounds-own-0
bounds-own-0 c =
    some_own c.args.state.now.dossier c.args.place c.own_wishes_beside-own.result.now c.own_wishes_beside-own.ensures
    c.requires

pub returns-clause-within : goal.returns-clause-within
returns-clause-within c =
    let d = c.args.state.now.dossier in
    let own = c.own_wishes_beside-own.result.now in
    (own_same d (candidate_of d c.args.place) own c.own_wishes_beside-own.ensures 0
    (some_own d c.args.place own c.own_wishes_beside-own.ensures c.requires)).0

pub returns-clause-same : goal.returns-clause-same
returns-clause-same c =
    let d = c.args.state.now.dossier in
    let own = c.own_wishes_beside-own.result.now in
    (own_same d (candidate_of d c.args.place) own c.own_wishes_beside-own.ensures 0
    (some_own d c.args.place own c.own_wishes_beside-own.ensures c.requires)).1
