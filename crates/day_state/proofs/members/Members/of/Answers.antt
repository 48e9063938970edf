use Rattle.std.proofs.Common.{ℕ, ◌∙◌, ◌+◌, ◌≡◌, List, ap, arith, length, sym}
use Rattle.std.specs.Prelude.{slice_range}
use Rattle.day_state.specs.Members.{begin_in, members_at}
use Rattle.day_state.proofs.ByNumber.{members_read}
use Rattle.day_state.proofs.members.Members.of.Goals as goal

pub returns : goal.returns
returns c =
    let wishes = c.self.inside.wishes.items in
    let begins = c.self.inside.begins.items in
    let n = c.args.number in
    let count : c.len-count.result ≡ length wishes = omega (arith, c.len-count.ensures, c.self.inside.wishes.ok.0) in
    let from : c.begin_in-from.result ≡ begin_in (length wishes) begins n =
    c.begin_in-from.ensures ∙ ap (λ m. begin_in m begins n) count in
    let to : c.begin_in-to.result ≡ begin_in (length wishes) begins (n + 1) =
    c.begin_in-to.ensures ∙ ap (λ m. begin_in m begins (n + 1)) count in
    (λ i. slice_range (c.as_slice.ensures.value i) (from i) (to i))
    ∙ sym (members_read wishes begins n)
    ∙ ap (λ (all : List (List ℕ)). members_at all n) c.self.view_is
