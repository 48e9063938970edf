-- A school whose bar fell below its ceiling is full in the evening.
use Rattle.std.proofs.Common.{ℕ, ◌≤◌, ◌<◌, ◌≡◌, true, not, List, length, arith, ap, nat_eq}
use Rattle.std.specs.Prelude.{IsTrue}
use Rattle.std.proofs.lemmas.Bool.{and_parts, eqb-true}
use Rattle.admit_core.specs.declared.ranking.CallOrder.{CallOrder}
use Rattle.admit_core.specs.declared.state.Stamp.{Stamp}
use Rattle.admit_core.specs.DossierRows.{beds_of, candidates_of}
use Rattle.admit_core.specs.State.{State, bed_holders, free_beds, has_school, holds_bed}
use Rattle.admit_core.specs.Proposals.{is_proposed}
use Rattle.admit_core.specs.Days.{closing, freed_after, frees_nothing, offered}
use Rattle.admit_core.proofs.Counting.{nothing_freed, split_count}
use Rattle.admit_core.proofs.Evenings.{offer}
use Rattle.admit_core.proofs.FilledSeats.{live_stays}
use Rattle.admit_core.proofs.Holders.{holder_has_wish, holds_kept}
use Rattle.admit_core.proofs.Tests.{filter_implied}
use Rattle.linked_demand.proofs.Lining.{filter_twice}
use Rattle.round.specs.PassLaws.{new_bed_holders}

module _ (o : State) (orders : List CallOrder) (bars : List ℕ) (stamp : Stamp)
    (none : IsTrue (frees_nothing (freed_after o orders bars stamp))) where
  abbrev after : State
  after = offered o orders bars stamp

  abbrev night : State
  night = closing o orders bars stamp

  -- the automatic answers took nobody's bed
  bed_kept : (h : ℕ) → h < length o.dossier.schools → (c : ℕ) → holds_bed after c h ≡ true → holds_bed night c h ≡ true
  bed_kept h lt c held =
      let freed = freed_after o orders bars stamp in
      let parts = and_parts (nat_eq freed.seats 0) (nat_eq freed.beds 0) none in
      nothing_freed (λ x q. holds_bed after x q) (λ x q. holds_bed night x q) (length o.dossier.schools)
      (candidates_of o.dossier)
      (eqb-true freed.beds 0 parts.1) c h (holder_has_wish (λ u. has_school u h) after c held) lt held

  -- where as many became live as beds were free, all beds are taken
  pub beds_taken : (h : ℕ) → h < length o.dossier.schools
      → length (new_bed_holders o after h) ≡ free_beds o h
      → beds_of o.dossier h ≤ length (bed_holders night h)
  beds_taken h lt full =
      let cs = candidates_of o.dossier in
      let kept = split_count (λ c. holds_bed o c h) (λ c. holds_bed after c h)
      (λ c t. holds_kept (λ u. has_school u h) o (offer o orders bars stamp) c
      (λ v mv live. live_stays stamp (is_proposed o orders bars v mv) mv live) t) cs in
      let new = ap length (filter_twice (λ (c : ℕ). not (holds_bed o c h)) (λ (c : ℕ). holds_bed after c h) cs) in
      let more = filter_implied (λ c. holds_bed after c h) (λ c. holds_bed night c h) (bed_kept h lt) cs in
      omega (arith, full, kept, new, more)
