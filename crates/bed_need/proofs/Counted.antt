-- What a school's need is counted from, as it is read off a state and a round.
use Rattle.std.proofs.Common.{◌≡◌, ◌∙◌, ℕ, List, ap, length, subst}
use Rattle.admit_core.specs.DossierRows.{DossierRows}
use Rattle.admit_core.specs.Falls.{FallingSystem}
use Rattle.admit_core.specs.State.{State, bed_holders}
use Rattle.admit_core.specs.Validity.{IsValid}

-- those who demand a bed of a school, and those who live there
pub record AreCounted (s : State) (sys : FallingSystem) (bars : List ℕ) (h some held : ℕ) : Type 0 where
  pub valid : IsValid s.dossier
  pub coming : some ≡ length (sys.ranks bars h)
  pub live : held ≡ length (bed_holders s h)

pub are_counted : (s read : State) (d : DossierRows) (sys round : FallingSystem) (bars : List ℕ) (h some held : ℕ)
    → read ≡ s → d ≡ read.dossier → IsValid d → round ≡ sys → some ≡ length (round.ranks bars h)
    → held ≡ length (bed_holders read h) → AreCounted s sys bars h some held
are_counted s read d sys round bars h some held same of_dossier valid is coming live = record {
  valid = subst IsValid (of_dossier ∙ ap (λ (t : State). t.dossier) same) valid;
  coming = coming ∙ ap (λ (r : FallingSystem). length (r.ranks bars h)) is;
  live = live ∙ ap (λ (t : State). length (bed_holders t h)) same;
}
