-- A small dossier with a row of each kind is valid.
use Rattle.std.proofs.Common.{ℕ, ◌≤◌, ◌≡◌, [], ◌∷◌, refl, arith, lit≤, lit<, nat_eq}
use Rattle.std.specs.List.{All, AllPairs, IsDistinct}
use Rattle.std.specs.List.Sorted.{IsNonDecreasing, IsStrictlyIncreasing}
use Rattle.std.proofs.lemmas.List.Elements.{All-cons, All-nil}
use Rattle.std.proofs.lemmas.Map.Keys.{IsDistinct-from_apart}
use Rattle.admit_core.specs.Ranges.{IsNumber}
use Rattle.admit_core.specs.Validity.{IsValidRanked, IsValidGroup, IsValidProgramme, IsValidSchool, IsValidWish}
use Rattle.admit_core.specs.Validity.{IsApart, NotBothAccepted, IsValidCeiling, NotSameDay, IsValidAnswer}
use Rattle.admit_core.specs.WorkedRows.{SmallDossier, small_dossier, programme, school, boarder}

one : {X : Type 0} (P : X → Type 0) (x : X) → P x → All P (x ∷ [])
one P x p = All-cons P x [] p (All-nil P)

no_pairs : {X : Type 0} (R : X → X → Type 0) (x : X) → AllPairs R (x ∷ [])
no_pairs R x i j d i_lt j_lt = absurd (omega arith)

one_distinct : (n : ℕ) → IsDistinct nat_eq (n ∷ [])
one_distinct n = IsDistinct-from_apart nat_eq (n ∷ []) (λ i j d i_lt j_lt. absurd (omega arith))

one_rising : (n : ℕ) → IsStrictlyIncreasing (n ∷ [])
one_rising n k lt = absurd (omega arith)

one_level : (n : ℕ) → IsNonDecreasing (n ∷ [])
one_level n i j d le lt = let a : i ≡ 0 = omega arith in let b : j ≡ 0 = omega arith in rw (a, b) (omega arith)

number : (n : ℕ) → 1 ≤ n → n ≤ 2000000000 → IsNumber n
number n a b = record { from_one = a; at_most = b }

pub small_dossier_holds : SmallDossier
small_dossier_holds =
    let d = small_dossier in
    record {
      size = record {
        groups = lit≤ tt;
        ranked = lit≤ tt;
        programmes = lit≤ tt;
        schools = lit≤ tt;
        wishes = lit≤ tt;
        ceilings = lit≤ tt;
        answers = lit≤ tt;
      };
      ids = record {
        groups = one_distinct 1;
        programmes = one_distinct 10;
        schools = one_distinct 5;
        wishes = one_distinct 1;
      };
      groups = one IsValidGroup _ (record {
        id = number 1 (lit≤ tt) (lit≤ tt);
        ranking = record {
          scholar_pct = lit≤ tt;
          resident_pct = lit≤ tt;
          ranks = one_rising 1;
          candidates = one_distinct 11;
        };
        size = lit≤ tt;
        list = one IsValidRanked _
            (record { candidate = number 11 (lit≤ tt) (lit≤ tt); rank = number 1 (lit≤ tt) (lit≤ tt) });
      });
      programmes = one (IsValidProgramme d) (programme 10 0 1)
          (record { id = number 10 (lit≤ tt) (lit≤ tt); group = lit< tt; seats = lit≤ tt; limit = lit≤ tt });
      schools = one IsValidSchool (school 5 1 9)
          (record { id = number 5 (lit≤ tt) (lit≤ tt); beds = lit≤ tt; ceiling = lit≤ tt });
      wishes = one (IsValidWish d) (boarder 1 11 0 0 1 0) (record {
        id = number 1 (lit≤ tt) (lit≤ tt);
        programme = lit< tt;
        school = λ h e. let is : 0 ≡ h = (cc) in rw (← is) (lit< tt);
        ranked = refl;
        board_rank = number 1 (lit≤ tt) (lit≤ tt);
        preference = lit≤ tt;
      });
      wishes_apart = no_pairs IsApart _;
      one_status_each = refl;
      one_accepted = no_pairs NotBothAccepted _;
      ceilings = one (IsValidCeiling d) _
          (record { day = record { from_one = lit≤ tt; at_most = lit≤ tt }; school = lit< tt; ceiling = lit≤ tt });
      ceilings_by_day = one_level 1;
      ceilings_apart = no_pairs NotSameDay _;
      answers = one (IsValidAnswer d) _
          (record { day = record { from_one = lit≤ tt; at_most = lit≤ tt }; target = refl });
      answers_by_day = one_level 1;
    }
