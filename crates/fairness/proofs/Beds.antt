-- Where a wish is barred below the ceiling, the free beds of its school go to better ranks.
use Rattle.std.proofs.Common.{ℕ, ◌<◌, ◌≡◌, true, not, List, inl, inr, sym, ◌∙◌, ap, arith, nat_lt, get_or, Option, Some}
use Rattle.std.proofs.Common.{None}
use Rattle.std.specs.Prelude.{◌↔◌, Contains, slice_index}
use Rattle.std.proofs.lemmas.Bool.{and_parts, cases_order, eqb-true, false≢true, ltb-true, not-true}
use Rattle.std.proofs.lemmas.List.{get_or_default}
use Rattle.admit_core.specs.declared.dossier.Wish.{Wish}
use Rattle.admit_core.specs.Days.{offered}
use Rattle.admit_core.specs.DossierRows.{DossierRows, candidates_of}
use Rattle.admit_core.specs.Proposals.{is_behind_bar, is_open}
use Rattle.admit_core.specs.State.{State, bed_holders, has_school, holds_bed, is_school, is_waiting}
use Rattle.admit_core.specs.Validity.{IsValid}
use Rattle.admit_core.proofs.DemandLaws.{not_barred_step, not_over}
use Rattle.round.proofs.Members.{among_filtered}
use Rattle.round.proofs.NewHolders.{becomes_live, entry_wish}
use Rattle.round.proofs.OfferLaws.{lowered_for_beds}
use Rattle.round.proofs.BedLaw.{one_school}
use Rattle.fairness.specs.PassPromises.{NoBedGoesToWorseRank}

-- in a school a rank tells its candidate, and a candidate their rank
pub ranks_tell : (d : DossierRows) (h : ℕ) (v w : Wish) → IsValid d → Contains d.wishes v → Contains d.wishes w
    → is_school v.school h ≡ true → is_school w.school h ≡ true
    → (v.board_rank ≡ w.board_rank) ↔ (v.candidate ≡ w.candidate)
ranks_tell d h v w valid has also v_has w_has =
    let ws = d.wishes in
    let (k, k_lt, at_k) = has in
    let (j, j_lt, at_j) = also in
    let here : get_or ws k w ≡ v = get_or_default ws k w v k_lt ∙ at_k in
    let there : get_or ws j v ≡ w = get_or_default ws j v w j_lt ∙ at_j in
    elim (cases_order k j) [
      | inl equal ↦
          let one : v ≡ w = sym at_k ∙ ap (λ (i : ℕ). get_or ws i v) equal ∙ there in
          (λ _. ap (λ (x : Wish). x.candidate) one, λ _. ap (λ (x : Wish). x.board_rank) one)
      | inr differ ↦ elim differ [
        | inl below ↦
            let apart = rw (at_k, there) at (valid.wishes_apart k j v below j_lt) in
            let school = one_school v.school w.school h v_has w_has in
            apart.ranks school.0 school.1
        | inr above ↦
            let apart = rw (at_j, here) at (valid.wishes_apart j k w above k_lt) in
            let school = one_school w.school v.school h w_has v_has in
            let both = apart.ranks school.0 school.1 in
            (λ e. sym (both.0 (sym e)), λ e. sym (both.1 (sym e)))
      ]
    ]

-- who is barred from a school ranks behind its bar
behind : (s : State) (bars : List ℕ) (w : Wish) (school : Option ℕ) (h : ℕ) → is_school school h ≡ true
    → is_behind_bar s bars w school ≡ true → slice_index bars h < w.board_rank
behind s bars w None h has t = absurd (false≢true has)
behind s bars w (Some g) h has t =
    let parts = and_parts (not (holds_bed s w.candidate g)) (nat_lt (slice_index bars g) w.board_rank) t in
    rw (eqb-true g h has) at (ltb-true (slice_index bars g) w.board_rank parts.1)

pub no_bed_goes_to_worse_rank : NoBedGoesToWorseRank
no_bed_goes_to_worse_rank s orders ceilings bars stamp w m h valid greatest has barred low =
    let after = offered s orders bars stamp in
    let over = behind s bars w w.school h has (and_parts (is_waiting m) (is_behind_bar s bars w w.school) barred).1 in
    record {
      all_taken = lowered_for_beds s orders ceilings bars stamp valid greatest h low;
      better = λ c v new listed own boards.
          let outer = among_filtered (λ x. not (holds_bed s x h)) c (bed_holders after h) new in
          let inner = among_filtered (λ x. holds_bed after x h) c (candidates_of s.dossier) outer.0 in
          let makes = becomes_live s orders bars stamp (λ (x : Wish). has_school x h) c inner.1
          (not-true (holds_bed s c h) outer.1) in
          let x = makes.entry.0 in
          let same_c : x.candidate ≡ c = eqb-true x.candidate c makes.own in
          let opens = (and_parts (is_open s bars x makes.entry.1) _ makes.offers).0 in
          let no_bed : not (holds_bed s x.candidate h) ≡ true = rw same_c outer.1 in
          let at_most = not_over s bars x x.school h makes.passes no_bed
          (not_barred_step (is_waiting makes.entry.1) (is_behind_bar s bars x x.school) opens) in
          let place = entry_wish s makes.place makes.entry makes.within makes.here in
          let rank = (ranks_tell s.dossier h v x valid listed (makes.place, place.0, place.1) boards makes.passes).1
          (own ∙ sym same_c) in
          omega (arith, at_most, over, rank);
    }
