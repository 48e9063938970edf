use Rattle.std.proofs.Common.{sym, not, ap, ◌∙◌, rules}
use Rattle.admit_core.proofs.Plain.{on_err}
use Rattle.dossier_check.proofs.NotedKeys.{behind, inserted, noted-new, noted-old}
use Rattle.dossier_check.proofs.noted.note.Goals as goal

pub returns-in_err-place : goal.returns-in_err-place
returns-in_err-place g c = record {
  first = search rules;
  noted = search rules;
  told = λ before same. on_err _
      (sym (noted-new g.K.PartialEq.eq g.Q.Key.key before c.args.row.now c.args.keys.now.keys same
      (rw (← c.key_of.ensures) (ap not c.in_err-place.ensures.absent))));
}

pub returns-then-is_new : goal.returns-then-is_new
returns-then-is_new g c = record {
  first = λ before same. noted-new g.K.PartialEq.eq g.Q.Key.key before c.args.row.now c.args.keys.now.keys same
      (rw (← c.key_of.ensures) (sym c.in_ok-place.ensures.added ∙ c.if-is_new.true));
  noted = λ before same _. behind g.Q.Key.key before c.args.row.now c.key_of.result c.args.keys.now.keys
      c.insert_full.new.self.keys c.key_of.ensures
      (inserted g.K.PartialEq.eq c.key_of.result c.args.keys.now.keys c.insert_full.new.self.keys
      c.in_ok-place.ensures.keys (sym c.in_ok-place.ensures.added ∙ c.if-is_new.true)) same;
  told = search rules;
}

pub returns : goal.returns
returns g c = record {
  first = λ before same. noted-old g.K.PartialEq.eq g.Q.Key.key before c.args.row.now c.args.keys.now.keys same
      c.in_ok-place.place
      (rw (← c.key_of.ensures) (sym c.in_ok-place.ensures.added ∙ c.if-is_new.false))
      (rw (← c.key_of.ensures) c.in_ok-place.ensures.index);
  noted = search rules;
  told = search rules;
}
