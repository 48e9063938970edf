use Rattle.std.proofs.Common.{ℕ, ◌<◌, ◌≡◌, true, false, List, [], ◌∷◌, ◌++◌, filter, sym, ◌∙◌, ap, arith, length, subst}
use Rattle.std.proofs.Common.{Option}
use Rattle.std.specs.Prelude.{All, is_some}
use Rattle.std.specs.List.{range_with_len}
use Rattle.std.proofs.lemmas.List.{map-append}
use Rattle.std.proofs.lemmas.List.Elements.{All-nil, All-push}
use Rattle.linked_demand.specs.declared.boarders.Boarder.{Boarder}
use Rattle.linked_demand.specs.Boarders.{IsBoarder, wishes_of}
use Rattle.linked_demand.specs.Seats.{boards_at}
use Rattle.linked_demand.proofs.Keeping.{range_kept, range_left}
use Rattle.linked_demand.proofs.boarders.boarders_by_place.Goals as goal
use Rattle.linked_demand.proofs.boarders.boarders_by_place.Goals.{in-Some+in_ok-push, in_default}

pub loop-place-preserved : goal.loop-place-preserved
loop-place-preserved c =
    let d = c.args.state.now.dossier in
    let q = boards_at d in
    let k = c.loop-place.place in
    let old = c.loop-place.boarders.items in
    let inv = c.loop-place.invariant in
    elim c.match-boarder_at.branch [
      | in-Some+in_ok-push w ↦
          let boarder = w.in-Some.boarder in
          let P = λ (bs : List Boarder). All (IsBoarder d) bs in
          let passes : q k ≡ true =
          sym c.boarder_at.ensures.boards ∙ ap (λ (o : Option Boarder). is_some o) w.in-Some.is in
          record {
            wishes =
                rw w.boarders-is
                (ap wishes_of w.in_ok-push.ensures.items
                ∙ map-append (λ (b : Boarder). b.wish) old (boarder ∷ [])
                ∙ ap (λ (ks : List ℕ). ks ++ boarder.wish ∷ []) inv.wishes
                ∙ ap (λ (j : ℕ). filter q (range_with_len 0 k) ++ j ∷ []) w.in-Some.ensures.wish
                ∙ sym (range_kept q k passes));
            each =
                rw w.boarders-is
                (subst P (sym w.in_ok-push.ensures.items)
                (All-push (IsBoarder d) old boarder inv.each w.in-Some.ensures.right));
          }
      | in_default w ↦
          let fails : q k ≡ false =
          sym c.boarder_at.ensures.boards ∙ ap (λ (o : Option Boarder). is_some o) w.in_default.is in
          record {
            wishes = rw w.boarders-is (inv.wishes ∙ sym (range_left q k fails));
            each = rw w.boarders-is inv.each;
          }
    ]

pub loop-place-init : goal.loop-place-init
loop-place-init c =
    let P = λ (bs : List Boarder). All (IsBoarder c.args.state.now.dossier) bs in
    record {
      wishes = ap wishes_of c.in_ok-boarders.ensures.items;
      each = subst P (sym c.in_ok-boarders.ensures.items) (All-nil (IsBoarder c.args.state.now.dossier));
    }

pub boarder_at-requires : goal.boarder_at-requires
boarder_at-requires c =
    let P = λ (n : ℕ). c.loop-place.place < n in
    subst P c.wish_count-count.ensures c.loop-place-test.true

pub returns : goal.returns
returns c =
    let d = c.args.state.now.dossier in
    let all : c.loop-place.place ≡ length d.wishes = omega (
      arith,
      c.loop-place-test.false,
      c.loop-place.auto.place-end,
      c.wish_count-count.ensures,
    ) in
    record {
      wishes = c.loop-place.invariant.wishes ∙ ap (λ n. filter (boards_at d) (range_with_len 0 n)) all;
      each = c.loop-place.invariant.each;
    }
