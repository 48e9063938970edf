-- Without boarding: what more seats, and more answers of some, do to everyone else.
use Rattle.std.specs.Prelude.{◌≡◌, ◌≢◌, ◌≤◌, ◌<◌, ◌⊎◌, ◌∷◌, ⊤, ℕ, All, IsTrue, List, None, [], length}
use Rattle.std.specs.List.{AllZip}
use Rattle.admit_core.specs.declared.dossier.Answer.{Answer}
use Rattle.admit_core.specs.declared.dossier.AnswerKind.{AnswerKind}
use Rattle.admit_core.specs.declared.dossier.AnswerKind.TheVariants.{Accept, Quit, Refuse, Withdraw}
use Rattle.admit_core.specs.declared.dossier.Programme.{Programme}
use Rattle.admit_core.specs.declared.ranking.CallOrder.{CallOrder}
use Rattle.admit_core.specs.declared.records.DayRecord.{DayRecord}
use Rattle.admit_core.specs.CallOrder.{AreCallOrders}
use Rattle.admit_core.specs.Days.{Days, answers_of, first_evening}
use Rattle.admit_core.specs.DossierRows.{DossierRows, candidate_of}
use Rattle.admit_core.specs.State.{State, entries, is_live, is_waiting}
use Rattle.admit_core.specs.Validity.{IsValid}
use Rattle.campaign_laws.specs.AutomaticDay.{has_as_good}
use Rattle.campaign_laws.specs.Kept.{AnswersThemself}

-- the same answers in the same order, and maybe others between them
abbrev pub HasAlso : List Answer → List Answer → Type 0
HasAlso [] more = ⊤
HasAlso (a ∷ rest) [] = ⊥
HasAlso (a ∷ rest) (b ∷ more) = ((b ≡ a) × HasAlso rest more) ⊎ HasAlso (a ∷ rest) more

-- a programme of the same group, with no fewer seats and no lower call limit
pub record IsNoSmaller (p q : Programme) : Type 0 where
  pub group : q.group ≡ p.group
  pub seats : p.seats ≤ q.seats
  pub limit : p.limit ≤ q.limit

-- who gives an answer
abbrev pub giver : DossierRows → AnswerKind → ℕ → ℕ
giver d Accept target = candidate_of d target
giver d Refuse target = candidate_of d target
giver d Withdraw target = candidate_of d target
giver d Quit target = target

-- the same dossier with no fewer seats, and with all its answers and maybe more; all of candidates
-- who answer in person
pub record IsKinder (d kinder : DossierRows) : Type 0 where
  pub groups : kinder.groups ≡ d.groups
  pub wishes : kinder.wishes ≡ d.wishes
  pub statuses : kinder.statuses ≡ d.statuses
  pub programmes : AllZip IsNoSmaller d.programmes kinder.programmes
  pub answers : (day : ℕ) → HasAlso (answers_of d day) (answers_of kinder day)
  pub themselves : All (λ a. AnswersThemself kinder (giver kinder a.kind a.target)) kinder.answers

-- a candidate who answers in person and gives no answer
pub record IsSilent (d : DossierRows) (c : ℕ) : Type 0 where
  pub themself : AnswersThemself d c
  pub none : All (λ a. giver d a.kind a.target ≢ c) d.answers

-- who ranks their wishes, and so is answered for
abbrev pub RanksWishes : DossierRows → ℕ → Type 0
RanksWishes d c = All (λ w. w.candidate ≡ c → 0 < w.preference) d.wishes

-- what waits in the other evening waits in the first; who is silent there has each of their live
-- wishes there too, and who ranks their wishes has one there that they rank no worse
pub record IsNotHurt (kinder : DossierRows) (first other : State) : Type 0 where
  pub waits : AllZip (λ e f. IsTrue (is_waiting f.1) → IsTrue (is_waiting e.1)) (entries first)
      (entries other)
  pub silent : (c : ℕ) → IsSilent kinder c
      → AllZip (λ e f. e.0.candidate ≡ c → IsTrue (is_live e.1) → IsTrue (is_live f.1))
      (entries first) (entries other)
  pub ranked : (c n : ℕ) → RanksWishes kinder c → IsTrue (has_as_good first c n)
      → IsTrue (has_as_good other c n)

-- so it is after as many days of the kinder dossier
abbrev pub MoreSeatsAndAnswersHurtNobody : Type 0
MoreSeatsAndAnswersHurtNobody =
    (orders : List CallOrder) (d kinder : DossierRows) (days others : List DayRecord)
    (evening other : State)
    → IsValid d
    → IsValid kinder
    → AreCallOrders d.groups orders
    → All (λ w. w.school ≡ None) d.wishes
    → IsKinder d kinder
    → length others ≡ length days
    → Days None orders 1 (first_evening d) days evening
    → Days None orders 1 (first_evening kinder) others other
    → IsNotHurt kinder evening other
