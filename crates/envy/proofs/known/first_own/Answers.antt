use Rattle.std.proofs.Common.{◌<◌, ◌∙◌, List, ℕ, ap, length, subst, sym}
use Rattle.std.specs.Prelude.{slice_index_or}
use Rattle.envy.proofs.Knowing.{first_is, has_own}
use Rattle.envy.proofs.known.first_own.Goals as goal

pub bounds-own_wishes_beside-0 : goal.bounds-own_wishes_beside-0
bounds-own_wishes_beside-0 c =
    subst (λ (ks : List ℕ). 0 < length ks) (sym c.own_wishes_beside.ensures)
    (has_own c.args.state.now.dossier c.args.wish c.requires)

pub returns-clause-within : goal.returns-clause-within
returns-clause-within c =
    subst (λ n. n < length c.args.state.now.dossier.wishes)
    (sym (ap (λ (ks : List ℕ). slice_index_or ks 0 0) c.own_wishes_beside.ensures))
    (first_is c.args.state.now.dossier c.args.wish c.requires).0
