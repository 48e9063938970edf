-- Who becomes live in a school while a wish with it is barred, and who is offered the programme and
-- school of a waiting wish.
use Rattle.std.specs.Prelude.{◌≡◌, ◌<◌, ◌&&◌, ◌==◌, ◌⊎◌, ℕ, All, Bool, IsTrue, List, None, Option, Some, false, nat_lt}
use Rattle.std.specs.Prelude.{slice_get}
use Rattle.std.specs.List.{list_any}
use Rattle.admit_core.specs.declared.dossier.Wish.{Wish}
use Rattle.admit_core.specs.declared.ranking.CallOrder.{CallOrder}
use Rattle.admit_core.specs.declared.records.DayRecord.{DayRecord}
use Rattle.admit_core.specs.declared.records.Terms.{Terms}
use Rattle.admit_core.specs.declared.state.Mark.{Mark}
use Rattle.admit_core.specs.Days.{Days}
use Rattle.admit_core.specs.DossierRows.{DossierRows}
use Rattle.admit_core.specs.Lapses.{AreTermsFor}
use Rattle.admit_core.specs.Lists.{is_among}
use Rattle.admit_core.specs.Proposals.{before, is_behind_bar, is_proposed}
use Rattle.admit_core.specs.State.{State, entries, has_school, holds_bed, holds_seat}
use Rattle.campaign_laws.specs.Moments.{Opening, moments, openings}
use Rattle.campaign_laws.specs.PassedOver.{WaitsAt}

-- in the opening of a pass the wish's candidate is behind the bar of its school
abbrev pub IsBarredIn : Wish → Opening → Type 0
IsBarredIn w o = IsTrue (is_behind_bar o.state o.bars w w.school)

-- the candidate has a better rank in the school than the wish
abbrev pub ranks_better : DossierRows → ℕ → Wish → ℕ → Bool
ranks_better d h w c =
    list_any (λ v. (v.candidate == c) && has_school v h && nat_lt v.board_rank w.board_rank)
    d.wishes

-- who is live in the school, and was not at first, ranks better there
abbrev pub CameByBetterRank : State → ℕ → Wish → State → Type 0
CameByBetterRank old h w s =
    (c : ℕ) → IsTrue (holds_bed s c h) → holds_bed old c h ≡ false
    → IsTrue (ranks_better old.dossier h w c)

-- so it is at each moment where the wish is barred in the opening of every pass
abbrev pub NoBedGoesPastBarredWishes : Type 0
NoBedGoesPastBarredWishes =
    (terms : Option Terms) (orders : List CallOrder) (d : ℕ) (old : State) (days : List DayRecord)
    (new : State) (w : Wish) (h : ℕ)
    → AreTermsFor old.dossier terms
    → Days terms orders d old days new
    → w.school ≡ Some h
    → All (IsBarredIn w) (openings terms orders old days)
    → All (CameByBetterRank old h w) (moments terms orders old days)

abbrev pub has_bed : State → ℕ → Option ℕ → Bool
has_bed s c None = false
has_bed s c (Some h) = holds_bed s c h

-- a wish for the same programme with the same school, or both with none, is proposed in an opening
-- in which its candidate is live in neither
pub record IsSameWishOffered (orders : List CallOrder) (w : Wish) (o : Opening) (y : Wish)
    : Type 0 where
  pub place : ℕ
  pub mark : Mark
  pub there : slice_get (entries o.state) place ≡ Some (y, mark)
  pub proposed : IsTrue (is_proposed o.state orders o.bars y mark)
  pub programme : y.programme ≡ w.programme
  pub school : y.school ≡ w.school
  pub no_seat : holds_seat o.state y.candidate y.programme ≡ false
  pub no_bed : has_bed o.state y.candidate y.school ≡ false

-- such a candidate stands before the wish's in the call order, or ranks better in the school
abbrev pub GoesByTheTwoLists : List CallOrder → State → Wish → Opening → Type 0
GoesByTheTwoLists orders old w o =
    (y : Wish) → IsSameWishOffered orders w o y
    → IsTrue (is_among y.candidate (before old orders w)) ⊎ (y.board_rank < w.board_rank)

-- so it is in every opening while the wish waits
abbrev pub OffersGoByTheTwoLists : Type 0
OffersGoByTheTwoLists =
    (terms : Option Terms) (orders : List CallOrder) (d : ℕ) (old : State) (days : List DayRecord)
    (new : State) (place : ℕ) (w : Wish)
    → AreTermsFor old.dossier terms
    → Days terms orders d old days new
    → WaitsAt new place w
    → All (GoesByTheTwoLists orders old w) (openings terms orders old days)
