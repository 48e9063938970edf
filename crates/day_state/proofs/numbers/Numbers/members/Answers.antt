use Rattle.std.proofs.Common.{List, ◌∙◌, ap}
use Rattle.admit_core.specs.Lists.{is_among}
use Rattle.day_state.specs.declared.numbers.BundleNumber.{BundleNumber}
use Rattle.day_state.specs.Bundles.{number_at, numbers_with}
use Rattle.day_state.specs.Members.{has_number}
use Rattle.day_state.proofs.ByNumber.{of_number}
use Rattle.day_state.proofs.numbers.Numbers.members.Goals as goal

pub returns : goal.returns
returns c = λ k.
    let n = c.self.inside in
    ap (is_among k) c.of.ensures
    ∙ c.self.invariant.members_are c.args.number k
    ∙ of_number (numbers_with n.sited n.several n.entries.items) n.entries.items c.self.invariant.entries_are
    c.args.number k
    ∙ ap (λ (ns : List BundleNumber). has_number c.args.number (number_at ns k)) c.self.view_is
