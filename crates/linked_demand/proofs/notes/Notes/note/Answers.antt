use Rattle.std.proofs.Common.{ℕ, subst}
use Rattle.linked_demand.specs.Notes.{IsNoted, Noted, PutAt, read_from}
use Rattle.linked_demand.proofs.Putting.{noted_by}
use Rattle.linked_demand.proofs.notes.Notes.note.Goals as goal

pub returns : goal.returns
returns c =
    let claim = c.args.claim.now in
    let new = c.put_at.new.numbers.items in
    let P = λ (n : ℕ). PutAt claim n c.self.inside.notes.items new in
    let Q = λ (old : Noted). IsNoted claim c.args.place c.args.is_called old (read_from new) in
    subst Q c.self.view_is
    (noted_by claim c.args.place c.args.is_called c.self.inside.notes.items new
    (subst P c.note_of.ensures c.put_at.ensures))
