-- What is given of the slots, and what a slot has that is given nothing.
use Rattle.std.specs.Prelude.{ℕ, List, Option, None, codes, option_map}
use Rattle.std.specs.declared.vec.Vec.{Vec}
use Rattle.admit_core.specs.declared.slot.PerSlot.{PerSlot}
use Rattle.admit_core.specs.declared.slot.Slot.{Slot}
use Rattle.admit_core.specs.declared.slot.Slot.TheVariants.{Groups, Programmes, Schools, Rankings, Boarding, Wishes}
use Rattle.admit_core.specs.declared.slot.Slot.TheVariants.{State, Ceilings, Answers, Chain}

-- the bytes of a slot without rows
abbrev pub header_of : Slot → List ℕ
header_of Groups = codes "group,scholar_pct,resident_pct\n"
header_of Programmes = codes "programme,group,seats\n"
header_of Schools = codes "school,beds,ceiling\n"
header_of Rankings = codes "group,candidate,rank,scholar,resident\n"
header_of Boarding = codes "school,candidate,rank\n"
header_of Wishes = codes "wish,candidate,programme,school,preference\n"
header_of State = codes "wish,status\n"
header_of Ceilings = codes "day,school,ceiling\n"
header_of Answers = codes "day,kind,target\n"
header_of Chain = codes ""

-- the bytes that each slot was given last, where it was given some
abbrev pub GivenBytes : Type 0
GivenBytes = PerSlot (Option (List ℕ))

abbrev pub nothing_given : GivenBytes
nothing_given = record {
  groups = None;
  programmes = None;
  schools = None;
  rankings = None;
  boarding = None;
  wishes = None;
  state = None;
  ceilings = None;
  answers = None;
  chain = None;
}

abbrev pub items_of : {A : Type 0} → Option (Vec ℕ A) → Option (List ℕ)
items_of bytes = option_map (λ v. v.items) bytes

abbrev pub items_in : {A : Type 0} → PerSlot (Option (Vec ℕ A)) → GivenBytes
items_in p = record {
  groups = items_of p.groups;
  programmes = items_of p.programmes;
  schools = items_of p.schools;
  rankings = items_of p.rankings;
  boarding = items_of p.boarding;
  wishes = items_of p.wishes;
  state = items_of p.state;
  ceilings = items_of p.ceilings;
  answers = items_of p.answers;
  chain = items_of p.chain;
}
