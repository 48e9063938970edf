-- The two crossed candidates meet all that the law of automatic days asks.
use Rattle.std.proofs.Common.{ℕ, zero, suc, ◌<◌, ◌≤◌, ◌≡◌, true, false, List, [], ◌∷◌, None, length, lit≤, lit<, arith}
use Rattle.std.proofs.Common.{nat_eq, refl}
use Rattle.std.specs.Prelude.{AllPairs, ◌||◌}
use Rattle.std.specs.List.{AllByRecursion}
use Rattle.std.proofs.lemmas.Bool.{both_ways, eq-eqb}
use Rattle.std.proofs.lemmas.List.Elements.{All-from_recursion}
use Rattle.std.proofs.lemmas.List.Kept.{AllPairs-cons}
use Rattle.admit_core.specs.declared.dossier.Programme.{Programme}
use Rattle.admit_core.specs.declared.dossier.Wish.{Wish}
use Rattle.admit_core.specs.declared.state.Mark.{Mark}
use Rattle.admit_core.specs.declared.state.Status.{Status}
use Rattle.admit_core.specs.Blocking.{is_missed}
use Rattle.admit_core.specs.CallOrder.{AreCallOrders}
use Rattle.admit_core.specs.Days.{Days, first_evening}
use Rattle.admit_core.specs.DossierRows.{seats_of}
use Rattle.admit_core.specs.Faults.{first_after}
use Rattle.admit_core.specs.Ranges.{AreTables, IsAnswerRow, IsBoardRow, IsCeilingRow, IsGroupRow, IsNumber}
use Rattle.admit_core.specs.Ranges.{IsProgrammeRow, IsRankRow, IsSchoolRow, IsStateRow, IsWishRow}
use Rattle.admit_core.specs.Relations.{first_fault}
use Rattle.admit_core.specs.State.{entries, is_live, is_waiting_status, seat_holders}
use Rattle.admit_core.specs.WorkedFaults.{wish}
use Rattle.admit_core.specs.Validity.{IsValid}
use Rattle.admit_core.proofs.ByPlaces.{by_places}
use Rattle.dossier_check.proofs.Valid.{is_valid}
use Rattle.campaign_laws.specs.AutomaticDay.{IsAllAutomatic, IsStable, NotBothLive}
use Rattle.campaign_laws.specs.Crossed.{both_first, crossed, crossed_days, crossed_evening, crossed_orders}
use Rattle.campaign_laws.specs.Crossed.{crossed_rows}
use Rattle.campaign_laws.specs.Witnesses.{AutomaticEveningsAreStableWitness, IsMatchingRoomWitness, NotBothLiveWitness}
use Rattle.campaign_laws.specs.Witnesses.{StableMatchingsAreNoWorseWitness}
use Rattle.campaign_laws.proofs.AutomaticDay.{stable_matchings_are_no_worse}
use Rattle.campaign_laws.proofs.StableEvening.{automatic_evenings_are_stable}
use Rattle.campaign_laws.proofs.WorkedCampaign.{day_by, end_by}

faultless : first_fault crossed_rows ≡ None
unfolding first_after
faultless = refl

in_range : (n : ℕ) → (1 ≤ n) × (n ≤ 2000000000) → IsNumber n
in_range n both = record { from_one = both.0; at_most = both.1 }

ranges : AreTables crossed_rows
ranges = record {
  groups = record {
    size = lit≤ tt;
    each = All-from_recursion IsGroupRow crossed_rows.groups (
      record { id = in_range 1 (lit≤ tt, lit≤ tt); scholar_pct = lit≤ tt; resident_pct = lit≤ tt },
      (record { id = in_range 2 (lit≤ tt, lit≤ tt); scholar_pct = lit≤ tt; resident_pct = lit≤ tt }, tt),
    );
  };
  programmes = record {
    size = lit≤ tt;
    each = All-from_recursion IsProgrammeRow crossed_rows.programmes (
      record {
        id = in_range 10 (lit≤ tt, lit≤ tt);
        group = in_range 1 (lit≤ tt, lit≤ tt);
        seats = lit≤ tt;
        limit =
            lit≤ tt;
      },
      (
        record {
          id = in_range 20 (lit≤ tt, lit≤ tt);
          group = in_range 2 (lit≤ tt, lit≤ tt);
          seats = lit≤ tt;
          limit =
              lit≤ tt;
        },
        tt,
      ),
    );
  };
  schools = record { size = lit≤ tt; each = All-from_recursion IsSchoolRow [] tt };
  rankings = record {
    size = lit≤ tt;
    each = All-from_recursion IsRankRow crossed_rows.rankings (
      record {
        group = in_range 1 (lit≤ tt, lit≤ tt);
        candidate = in_range 102 (lit≤ tt, lit≤ tt);
        rank =
            in_range 1 (lit≤ tt, lit≤ tt);
      },
      (
        record {
          group = in_range 1 (lit≤ tt, lit≤ tt);
          candidate = in_range 101 (lit≤ tt, lit≤ tt);
          rank =
              in_range 2 (lit≤ tt, lit≤ tt);
        },
        (
          record {
            group = in_range 2 (lit≤ tt, lit≤ tt);
            candidate = in_range 101 (lit≤ tt, lit≤ tt);
            rank =
                in_range 1 (lit≤ tt, lit≤ tt);
          },
          (
            record {
              group = in_range 2 (lit≤ tt, lit≤ tt);
              candidate = in_range 102 (lit≤ tt, lit≤ tt);
              rank =
                  in_range 2 (lit≤ tt, lit≤ tt);
            },
            tt,
          ),
        ),
      ),
    );
  };
  boarding = record { size = lit≤ tt; each = All-from_recursion IsBoardRow [] tt };
  wishes = record {
    size = lit≤ tt;
    each = All-from_recursion IsWishRow crossed_rows.wishes (
      own 1 102 20 1 (in_range 1 (lit≤ tt, lit≤ tt)) (in_range 102 (lit≤ tt, lit≤ tt))
          (in_range 20 (lit≤ tt, lit≤ tt)) (lit≤ tt),
      (
        own 2 101 10 1 (in_range 2 (lit≤ tt, lit≤ tt)) (in_range 101 (lit≤ tt, lit≤ tt))
            (in_range 10 (lit≤ tt, lit≤ tt)) (lit≤ tt),
        (
          own 3 102 10 2 (in_range 3 (lit≤ tt, lit≤ tt)) (in_range 102 (lit≤ tt, lit≤ tt))
              (in_range 10 (lit≤ tt, lit≤ tt)) (lit≤ tt),
          (
            own 4 101 20 2 (in_range 4 (lit≤ tt, lit≤ tt)) (in_range 101 (lit≤ tt, lit≤ tt))
                (in_range 20 (lit≤ tt, lit≤ tt)) (lit≤ tt),
            tt,
          ),
        ),
      ),
    );
  };
  state = record { size = lit≤ tt; each = All-from_recursion IsStateRow [] tt };
  ceilings = record { size = lit≤ tt; each = All-from_recursion IsCeilingRow [] tt };
  answers = record { size = lit≤ tt; each = All-from_recursion IsAnswerRow [] tt };
}
  where
    own : (id c p n : ℕ) → IsNumber id → IsNumber c → IsNumber p → n ≤ 2000000000 → IsWishRow (wish id c p None n)
    own id c p n a b e f = record { id = a; candidate = b; programme = e; school = λ h is. absurd (cc); preference = f }

valid : IsValid crossed
valid = is_valid crossed_rows ranges faultless

called : AreCallOrders crossed.groups crossed_orders
called = (
  record { as_long = refl; each_next = by_places 2 _ (refl, (refl, tt)) (λ k. refl) },
  (record { as_long = refl; each_next = by_places 2 _ (refl, (refl, tt)) (λ k. refl) }, tt),
)

automatic : IsAllAutomatic crossed
automatic = record {
  schools = All-from_recursion (λ (w : Wish). w.school ≡ None) crossed.wishes (refl, (refl, (refl, (refl, tt))));
  ranked = All-from_recursion (λ (w : Wish). 0 < w.preference) crossed.wishes
      (lit< tt, (lit< tt, (lit< tt, (lit< tt, tt))));
  waiting = All-from_recursion (λ (x : Status). is_waiting_status x ≡ true) crossed.statuses
      (refl, (refl, (refl, (refl, tt))));
  no_limits = All-from_recursion (λ (p : Programme). p.limit ≡ 0) crossed.programmes (refl, (refl, tt));
  no_answers = refl;
}

days_hold : Days None crossed_orders 1 (first_evening crossed) crossed_days crossed_evening
days_hold = (
  crossed_evening,
  refl,
  day_by _ _ _ _ _ _ (end_by _ _ _ _ _ _ (record { are_falls = tt; settled = refl }) refl refl refl refl, refl, refl)
      refl refl refl refl,
  refl,
)

-- in the other matching nobody has two, and no programme more than its one seat
all_after : (x : Wish × Mark) (xs : List (Wish × Mark)) → AllByRecursion (NotBothLive x) xs → AllPairs NotBothLive xs
    → AllPairs NotBothLive (x ∷ xs)
all_after x xs each pairs = AllPairs-cons NotBothLive x xs (All-from_recursion (NotBothLive x) xs each) pairs

apart : AllPairs NotBothLive (entries both_first)
apart = apart_of _ _ _ _ refl refl refl
  where
    apart_of : (a b c e : Wish × Mark) → nat_eq a.0.candidate b.0.candidate ≡ false → is_live c.1 ≡ false
        → is_live e.1 ≡ false → AllPairs NotBothLive (a ∷ b ∷ c ∷ e ∷ [])
    apart_of a b c e other not_c not_e =
        all_after a (b ∷ c ∷ e ∷ []) (
          λ same live. absurd
              (both_ways (nat_eq a.0.candidate b.0.candidate) other (eq-eqb a.0.candidate b.0.candidate same)),
          (λ same live. not_c, (λ same live. not_e, tt)),
        )
        (all_after b (c ∷ e ∷ []) (λ same live. not_c, (λ same live. not_e, tt))
        (all_after c (e ∷ []) (λ same live. not_e, tt)
        (all_after e [] tt (λ i j d below lt. absurd (omega (arith, lt))))))

room : (p : ℕ) → p < length crossed.programmes → length (seat_holders both_first p) ≤ seats_of crossed p
room zero lt = lit≤ tt
room (suc zero) lt = lit≤ tt
room (suc (suc p)) lt = absurd (omega (arith, lt))

stable : IsStable crossed_orders crossed both_first
stable = record {
  matching = record {
    dossier = refl;
    marked = refl;
    one_each = apart;
    room = room;
    given_up = All-from_recursion (λ (x : Mark). (is_live x || is_missed x.status) ≡ true) both_first.marks
        (refl, (refl, (refl, (refl, tt))));
  };
  stable = refl;
}

pub no_worse_here : StableMatchingsAreNoWorseWitness
no_worse_here = (
  valid,
  called,
  automatic,
  days_hold,
  stable,
  refl,
  stable_matchings_are_no_worse crossed_orders crossed crossed_days crossed_evening both_first 101 2 valid called
      automatic days_hold stable refl,
)

pub stable_here : AutomaticEveningsAreStableWitness
stable_here = (
  valid,
  called,
  automatic,
  lit< tt,
  days_hold,
  automatic_evenings_are_stable crossed_orders crossed crossed_days crossed_evening valid called automatic (lit< tt)
      days_hold,
)

pub not_both : NotBothLiveWitness
not_both = (refl, refl, refl)

pub has_room : IsMatchingRoomWitness
has_room = (lit< tt, lit≤ tt)
