-- The names of demanded ranks.
use Rattle.std.proofs.Common.{ℕ, ◌≡◌, List, [], ◌∷◌, map, inl, inr, refl, ap, filter, nat_le}
use Rattle.std.proofs.lemmas.Bool.{cases_Bool}
use Rattle.admit_core.specs.declared.ranking.CallOrder.{CallOrder}
use Rattle.admit_core.specs.State.{State}
use Rattle.admit_core.specs.Proposals.{demanded_ranks}
use Rattle.admit_core.specs.Boarding.{name_of}
use Rattle.proposals.specs.declared.demands.Demand.{Demand}
use Rattle.proposals.specs.Demands.{demands_of}

-- the names of the ranks up to one
names_of : (name : ℕ → ℕ) (upto : ℕ) (ranks : List ℕ)
    → map (λ (x : Demand). x.wish) (filter (λ (x : Demand). nat_le x.rank upto)
    (map (λ r. let d : Demand = record { rank = r; wish = name r } in d) ranks))
    ≡ map name (filter (λ r. nat_le r upto) ranks)
names_of name upto [] = refl
names_of name upto (r ∷ ranks) =
    let later = names_of name upto ranks in
    elim (cases_Bool (nat_le r upto)) [
      | inl passes ↦ rw passes (ap (λ (ks : List ℕ). name r ∷ ks) later)
      | inr fails ↦
          rw fails later
    ]

pub names_are : (s : State) (orders : List CallOrder) (bars : List ℕ) (h upto : ℕ)
    → map (λ (x : Demand). x.wish) (filter (λ (x : Demand). nat_le x.rank upto) (demands_of s orders bars h))
    ≡ map (name_of s orders bars h) (filter (λ r. nat_le r upto) (demanded_ranks s orders bars h))
names_are s orders bars h upto = names_of (name_of s orders bars h) upto (demanded_ranks s orders bars h)
