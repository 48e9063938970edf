use Rattle.std.proofs.Common.{sym, ap, ◌∙◌, arith, nat_eq, option_map, rules}
use Rattle.admit_core.proofs.Plain.{on_err}
use Rattle.admit_core.specs.Faults.{row_number}
use Rattle.dossier_check.proofs.Found.{position-within}
use Rattle.dossier_check.proofs.NotedKeys.{behind, id_found, id_is_new}
use Rattle.dossier_check.proofs.row_ids.RowIds.note.Goals as goal

pub returns-in_err-place : goal.returns-in_err-place
returns-in_err-place g c = record {
  first = search rules;
  noted = search rules;
  told = λ before same. on_err _
      (id_is_new g.Q.Key.key before c.args.row.now c.args.self.now.keys c.key_of.result c.key_of.ensures same
      c.in_err-place.ensures.told);
}

pub returns-in-Some : goal.returns-in-Some
returns-in-Some g c = record {
  first = λ before same.
      ap (option_map row_number) (sym c.in-Some.is ∙ c.in_ok-place.ensures.found)
      ∙ id_found g.Q.Key.key before c.args.row.now c.args.self.now.keys c.key_of.result c.key_of.ensures same;
  noted = search rules;
  told = search rules;
}

pub returns-in-None : goal.returns-in-None
returns-in-None g c = record {
  first = λ before same.
      ap (option_map row_number) (sym c.in-None.is ∙ c.in_ok-place.ensures.found)
      ∙ id_found g.Q.Key.key before c.args.row.now c.args.self.now.keys c.key_of.result c.key_of.ensures same;
  noted = λ before same _. behind g.Q.Key.key before c.args.row.now c.key_of.result c.args.self.now.keys
      c.add.new.self.keys c.key_of.ensures (c.in_ok-place.ensures.added c.in-None.is) same;
  told = search rules;
}

pub overflow_add-result : goal.overflow_add-result
overflow_add-result g c =
    let lt = position-within (nat_eq c.key_of.result) c.args.self.now.keys c.in-Some.place
    (sym c.in_ok-place.ensures.found ∙ c.in-Some.is) in
    omega (arith, lt, c.len.ensures.len, c.len.ensures.small)
