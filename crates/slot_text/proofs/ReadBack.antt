-- The texts of all slots are read as their rows.
use Rattle.std.proofs.Common.{ℕ, ◌<◌, ◌≤◌, ◌≡◌, Bool, true, false, List, [], ◌∷◌, length, Option, Some, None, Ok, refl}
use Rattle.std.proofs.Common.{sym, ◌∙◌, ap, subst, arith, codes}
use Rattle.std.specs.Prelude.{All}
use Rattle.std.specs.Fmt.{decimal}
use Rattle.std.specs.Option.{ForSome, ok_or}
use Rattle.std.proofs.lemmas.Fmt.{decimal_nonempty}
use Rattle.csv.specs.Reading.{strip_bom}
use Rattle.csv.specs.Records.{field_at}
use Rattle.admit_core.specs.Ranges.{AreRows, IsAnswerRow, IsBoardRow, IsCeilingRow, IsDay, IsGroupRow, IsNumber}
use Rattle.admit_core.specs.Ranges.{IsProgrammeRow, IsRankRow, IsSchoolRow, IsStateRow, IsWishRow}
use Rattle.admit_core.specs.Lines.{status_word}
use Rattle.admit_core.specs.declared.dossier.AnswerKind.{AnswerKind}
use Rattle.admit_core.specs.declared.dossier.AnswerKind.TheVariants.{Accept, Refuse, Withdraw, Quit}
use Rattle.admit_core.specs.declared.refusal.Reason.TheVariants.{NotWord}
use Rattle.admit_core.specs.declared.state.Status.{Status}
use Rattle.admit_core.specs.declared.tables.AnswerRow.{AnswerRow}
use Rattle.admit_core.specs.declared.tables.BoardRow.{BoardRow}
use Rattle.admit_core.specs.declared.tables.CeilingRow.{CeilingRow}
use Rattle.admit_core.specs.declared.tables.GroupRow.{GroupRow}
use Rattle.admit_core.specs.declared.tables.ProgrammeRow.{ProgrammeRow}
use Rattle.admit_core.specs.declared.tables.RankRow.{RankRow}
use Rattle.admit_core.specs.declared.tables.SchoolRow.{SchoolRow}
use Rattle.admit_core.specs.declared.tables.Since.{Since}
use Rattle.admit_core.specs.declared.tables.StateRow.{StateRow}
use Rattle.admit_core.specs.declared.tables.WishRow.{WishRow}
use Rattle.dossier_csv.specs.Columns.{IsSince, added_number, amounts, choice, days, flag, ids, number, optional_date}
use Rattle.dossier_csv.specs.Columns.{optional_date_from, optional_from, optional_number, percents, text_at, within}
use Rattle.dossier_csv.specs.Columns.{word, number_of}
use Rattle.dossier_csv.specs.Rows as Rows
use Rattle.dossier_csv.specs.Rows.{answer_row, board_row, ceiling_row, group_row, kind_word, kinds, programme_row}
use Rattle.dossier_csv.specs.Rows.{rank_row, school_row, statuses, wish_row}
use Rattle.dossier_csv.specs.Shape.{shape, table_of}
use Rattle.dossier_csv.proofs.Words.{each_kind, each_status}
use Rattle.text_laws.proofs.StateSlots.{number_plain, number_within, state_row_by, status_plain, text_plain}
use Rattle.text_laws.proofs.WrittenRows.{IsPlain, row_plain}
use Rattle.slot_text.specs.ReadBack.{HasDate, SlotsReadBack}
use Rattle.slot_text.specs.Texts as Texts
use Rattle.slot_text.specs.Texts.{flag_word, school_word, since_word, table_text}
use Rattle.slot_text.proofs.Dates.{date_read, date_written}
use Rattle.slot_text.proofs.Tables.{IsReadHeader, IsReadRow, table_read}

-- ---- single columns
module _ (fields : List (List ℕ)) (position n : ℕ) (is : text_at fields position ≡ decimal n) where
  number_by : (least most : ℕ) → least ≤ n → n ≤ most → n ≤ 2000000000
      → number (record { least = least; most = most }) fields position ≡ Ok n
  unfolding number
  number_by least most from to few =
      ap (λ (t : List ℕ). within (record { least = least; most = most }) position (number_of t)) is
      ∙ number_within least most position n from to few

  id_by : IsNumber n → number ids fields position ≡ Ok n
  id_by is_id = number_by 1 2000000000 is_id.from_one is_id.at_most is_id.at_most

  amount_by : n ≤ 2000000000 → number amounts fields position ≡ Ok n
  amount_by most = number_by 0 2000000000 (omega arith) most most

  percent_by : n ≤ 100 → number percents fields position ≡ Ok n
  percent_by most = number_by 0 100 (omega arith) most (omega (arith, most))

  day_by : IsDay n → number days fields position ≡ Ok n
  day_by is_day = number_by 1 366 is_day.from_one is_day.at_most (omega (arith, is_day.at_most))

flag_by : (fields : List (List ℕ)) (position : ℕ) (b : Bool) → text_at fields position ≡ flag_word b
    → flag fields position ≡ Ok b
unfolding flag
flag_by fields position true is = rw is refl
flag_by fields position false is = rw is refl

flag_plain : (b : Bool) → IsPlain (flag_word b)
flag_plain true = refl
flag_plain false = refl

kind_plain : (k : AnswerKind) → IsPlain (kind_word k)
kind_plain Accept = refl
kind_plain Refuse = refl
kind_plain Withdraw = refl
kind_plain Quit = refl

some_from : (text : List ℕ) (n : ℕ) → 0 < length text → within ids 4 (number_of text) ≡ Ok n
    → optional_from ids 4 text ≡ Ok (Some n)
some_from [] n long is = absurd (omega (arith, long))
some_from (b ∷ bs) n long is = rw is refl

school_read : (fields : List (List ℕ)) (school : Option ℕ) → text_at fields 4 ≡ school_word school
    → ForSome school IsNumber → optional_number ids fields 4 ≡ Ok school
unfolding optional_number
school_read fields None is id = ap (optional_from ids 4) is
school_read fields (Some n) is id =
    ap (optional_from ids 4) is
    ∙ some_from (decimal n) n (decimal_nonempty n (omega (arith, (id n refl).at_most)))
    (number_within 1 2000000000 4 n (id n refl).from_one (id n refl).at_most (id n refl).at_most)

school_plain : (school : Option ℕ) → ForSome school IsNumber → IsPlain (school_word school)
school_plain None id = refl
school_plain (Some n) id = number_plain n (id n refl).at_most

since_by : (fields : List (List ℕ)) (since : Option Since) → text_at fields 3 ≡ since_word since
    → ForSome since IsSince → optional_date fields 3 ≡ Ok since
unfolding optional_date
since_by fields None is date = ap (optional_date_from 3) is
since_by fields (Some d) is date = ap (optional_date_from 3) is ∙ date_read d (date d refl)

since_plain : (since : Option Since) → ForSome since IsSince → IsPlain (since_word since)
since_plain None date = refl
since_plain (Some d) date = subst IsPlain (sym (date_written d (date d refl))) (text_plain (d.year, d.month, d.day))

-- ---- rows, by their columns
group_by : (fs : List (List ℕ)) (r : GroupRow) → number ids fs 1 ≡ Ok r.id → number percents fs 2 ≡ Ok r.scholar_pct
    → number percents fs 3 ≡ Ok r.resident_pct → group_row fs ≡ Ok r
unfolding group_row
group_by fs r a b c = rw (a, b, c) refl

programme_by : (fs : List (List ℕ)) (r : ProgrammeRow) → number ids fs 1 ≡ Ok r.id → number ids fs 2 ≡ Ok r.group
    → number amounts fs 3 ≡ Ok r.seats → added_number amounts fs 4 ≡ Ok r.limit → programme_row fs ≡ Ok r
unfolding programme_row
programme_by fs r a b c d = rw (a, b, c, d) refl

school_by : (fs : List (List ℕ)) (r : SchoolRow) → number ids fs 1 ≡ Ok r.id → number amounts fs 2 ≡ Ok r.beds
    → number amounts fs 3 ≡ Ok r.ceiling → school_row fs ≡ Ok r
unfolding school_row
school_by fs r a b c = rw (a, b, c) refl

rank_by : (fs : List (List ℕ)) (r : RankRow) → number ids fs 1 ≡ Ok r.group → number ids fs 2 ≡ Ok r.candidate
    → number ids fs 3 ≡ Ok r.rank → flag fs 4 ≡ Ok r.scholar → flag fs 5 ≡ Ok r.resident → rank_row fs ≡ Ok r
unfolding rank_row
rank_by fs r a b c d e = rw (a, b, c, d, e) refl

board_by : (fs : List (List ℕ)) (r : BoardRow) → number ids fs 1 ≡ Ok r.school → number ids fs 2 ≡ Ok r.candidate
    → number ids fs 3 ≡ Ok r.rank → board_row fs ≡ Ok r
unfolding board_row
board_by fs r a b c = rw (a, b, c) refl

wish_by : (fs : List (List ℕ)) (r : WishRow) → number ids fs 1 ≡ Ok r.id → number ids fs 2 ≡ Ok r.candidate
    → number ids fs 3 ≡ Ok r.programme → optional_number ids fs 4 ≡ Ok r.school
    → number amounts fs 5 ≡ Ok r.preference → wish_row fs ≡ Ok r
unfolding wish_row
wish_by fs r a b c d e = rw (a, b, c, d, e) refl

ceiling_by : (fs : List (List ℕ)) (r : CeilingRow) → number days fs 1 ≡ Ok r.day → number ids fs 2 ≡ Ok r.school
    → number amounts fs 3 ≡ Ok r.ceiling → ceiling_row fs ≡ Ok r
unfolding ceiling_row
ceiling_by fs r a b c = rw (a, b, c) refl

answer_by : (fs : List (List ℕ)) (r : AnswerRow) → number days fs 1 ≡ Ok r.day → word kinds fs 2 ≡ Ok r.kind
    → number ids fs 3 ≡ Ok r.target → answer_row fs ≡ Ok r
unfolding answer_row
answer_by fs r a b c = rw (a, b, c) refl

-- ---- rows, as they are written
group_is : (r : GroupRow) → IsGroupRow r → IsReadRow Rows.groups Texts.groups r
unfolding field_at
group_is r is =
    let scholar : r.scholar_pct ≤ 2000000000 = omega (arith, is.scholar_pct) in
    let resident : r.resident_pct ≤ 2000000000 = omega (arith, is.resident_pct) in
    let fs : List (List ℕ) = decimal r.id ∷ decimal r.scholar_pct ∷ decimal r.resident_pct ∷ [] in
    record {
      line = row_plain (decimal r.id) (decimal r.scholar_pct) (decimal r.resident_pct ∷ []) (
        number_plain r.id is.id.at_most,
        (number_plain r.scholar_pct scholar, (number_plain r.resident_pct resident, tt)),
      );
      wide = refl;
      read = group_by fs r (id_by fs 1 r.id refl is.id) (percent_by fs 2 r.scholar_pct refl is.scholar_pct)
          (percent_by fs 3 r.resident_pct refl is.resident_pct);
    }

programme_is : (r : ProgrammeRow) → IsProgrammeRow r → IsReadRow Rows.programmes Texts.programmes r
unfolding field_at added_number
programme_is r is =
    let fs : List (List ℕ) = decimal r.id ∷ decimal r.group ∷ decimal r.seats ∷ decimal r.limit ∷ [] in
    record {
      line = row_plain (decimal r.id) (decimal r.group) (decimal r.seats ∷ decimal r.limit ∷ []) (
        number_plain r.id is.id.at_most,
        (number_plain r.group is.group.at_most, (number_plain r.seats is.seats, (number_plain r.limit is.limit, tt))),
      );
      wide = refl;
      read = programme_by fs r (id_by fs 1 r.id refl is.id) (id_by fs 2 r.group refl is.group)
          (amount_by fs 3 r.seats refl is.seats) (amount_by fs 4 r.limit refl is.limit);
    }

school_is : (r : SchoolRow) → IsSchoolRow r → IsReadRow Rows.schools Texts.schools r
unfolding field_at
school_is r is =
    let fs : List (List ℕ) = decimal r.id ∷ decimal r.beds ∷ decimal r.ceiling ∷ [] in
    record {
      line = row_plain (decimal r.id) (decimal r.beds) (decimal r.ceiling ∷ []) (
        number_plain r.id is.id.at_most,
        (number_plain r.beds is.beds, (number_plain r.ceiling is.ceiling, tt)),
      );
      wide = refl;
      read = school_by fs r (id_by fs 1 r.id refl is.id) (amount_by fs 2 r.beds refl is.beds)
          (amount_by fs 3 r.ceiling refl is.ceiling);
    }

rank_is : (r : RankRow) → IsRankRow r → IsReadRow Rows.rankings Texts.rankings r
unfolding field_at
rank_is r is =
    let fs : List (List ℕ) = decimal r.group ∷ decimal r.candidate ∷ decimal r.rank ∷ flag_word r.scholar
    ∷ flag_word r.resident ∷ [] in
    record {
      line = row_plain (decimal r.group) (decimal r.candidate)
          (decimal r.rank ∷ flag_word r.scholar ∷ flag_word r.resident ∷ []) (
            number_plain r.group is.group.at_most,
            (
              number_plain r.candidate is.candidate.at_most,
              (number_plain r.rank is.rank.at_most, (flag_plain r.scholar, (flag_plain r.resident, tt))),
            ),
          );
      wide = refl;
      read = rank_by fs r (id_by fs 1 r.group refl is.group) (id_by fs 2 r.candidate refl is.candidate)
          (id_by fs 3 r.rank refl is.rank) (flag_by fs 4 r.scholar refl) (flag_by fs 5 r.resident refl);
    }

board_is : (r : BoardRow) → IsBoardRow r → IsReadRow Rows.boarding Texts.boarding r
unfolding field_at
board_is r is =
    let fs : List (List ℕ) = decimal r.school ∷ decimal r.candidate ∷ decimal r.rank ∷ [] in
    record {
      line = row_plain (decimal r.school) (decimal r.candidate) (decimal r.rank ∷ []) (
        number_plain r.school is.school.at_most,
        (number_plain r.candidate is.candidate.at_most, (number_plain r.rank is.rank.at_most, tt)),
      );
      wide = refl;
      read = board_by fs r (id_by fs 1 r.school refl is.school) (id_by fs 2 r.candidate refl is.candidate)
          (id_by fs 3 r.rank refl is.rank);
    }

wish_is : (r : WishRow) → IsWishRow r → IsReadRow Rows.wishes Texts.wishes r
unfolding field_at
wish_is r is =
    let fs : List (List ℕ) = decimal r.id ∷ decimal r.candidate ∷ decimal r.programme ∷ school_word r.school
    ∷ decimal r.preference ∷ [] in
    record {
      line = row_plain (decimal r.id) (decimal r.candidate)
          (decimal r.programme ∷ school_word r.school ∷ decimal r.preference ∷ []) (
            number_plain r.id is.id.at_most,
            (
              number_plain r.candidate is.candidate.at_most,
              (
                number_plain r.programme is.programme.at_most,
                (school_plain r.school is.school, (number_plain r.preference is.preference, tt)),
              ),
            ),
          );
      wide = refl;
      read = wish_by fs r (id_by fs 1 r.id refl is.id) (id_by fs 2 r.candidate refl is.candidate)
          (id_by fs 3 r.programme refl is.programme) (school_read fs r.school refl is.school)
          (amount_by fs 5 r.preference refl is.preference);
    }

status_by : (fs : List (List ℕ)) (s : Status) → text_at fs 2 ≡ status_word s → word statuses fs 2 ≡ Ok s
unfolding word
status_by fs s is =
    ap (λ (t : List ℕ). ok_or (choice statuses t) (NotWord 2)) is
    ∙ ap (λ (o : Option Status). ok_or o (NotWord 2)) (each_status s)

dated_is : (r : StateRow) → IsStateRow r × Rows.IsDatedRow r → IsReadRow Rows.state Texts.dated_state r
unfolding field_at
dated_is r is =
    let fs : List (List ℕ) = decimal r.wish ∷ status_word r.status ∷ since_word r.since ∷ [] in
    record {
      line = row_plain (decimal r.wish) (status_word r.status) (since_word r.since ∷ []) (
        number_plain r.wish is.0.wish.at_most,
        (status_plain r.status, (since_plain r.since is.1, tt)),
      );
      wide = refl;
      read = state_row_by fs r.wish r.status r.since (id_by fs 1 r.wish refl is.0.wish) (status_by fs r.status refl)
          (since_by fs r.since refl is.1);
    }

plain_is : (r : StateRow) → IsStateRow r × (r.since ≡ None) → IsReadRow Rows.state Texts.plain_state r
unfolding field_at optional_date
plain_is r is =
    let fs : List (List ℕ) = decimal r.wish ∷ status_word r.status ∷ [] in
    record {
      line = row_plain (decimal r.wish) (status_word r.status) [] (
        number_plain r.wish is.0.wish.at_most,
        (status_plain r.status, tt),
      );
      wide = refl;
      read = state_row_by fs r.wish r.status None (id_by fs 1 r.wish refl is.0.wish) (status_by fs r.status refl) refl
          ∙ ap (λ (since : Option Since). Ok (record { wish = r.wish; status = r.status; since = since })) (sym is.1);
    }

ceiling_is : (r : CeilingRow) → IsCeilingRow r → IsReadRow Rows.ceilings Texts.ceilings r
unfolding field_at
ceiling_is r is =
    let day : r.day ≤ 2000000000 = omega (arith, is.day.at_most) in
    let fs : List (List ℕ) = decimal r.day ∷ decimal r.school ∷ decimal r.ceiling ∷ [] in
    record {
      line = row_plain (decimal r.day) (decimal r.school) (decimal r.ceiling ∷ []) (
        number_plain r.day day,
        (number_plain r.school is.school.at_most, (number_plain r.ceiling is.ceiling, tt)),
      );
      wide = refl;
      read = ceiling_by fs r (day_by fs 1 r.day refl is.day) (id_by fs 2 r.school refl is.school)
          (amount_by fs 3 r.ceiling refl is.ceiling);
    }

answer_is : (r : AnswerRow) → IsAnswerRow r → IsReadRow Rows.answers Texts.answers r
unfolding field_at word
answer_is r is =
    let day : r.day ≤ 2000000000 = omega (arith, is.day.at_most) in
    let fs : List (List ℕ) = decimal r.day ∷ kind_word r.kind ∷ decimal r.target ∷ [] in
    record {
      line = row_plain (decimal r.day) (kind_word r.kind) (decimal r.target ∷ []) (
        number_plain r.day day,
        (kind_plain r.kind, (number_plain r.target is.target.at_most, tt)),
      );
      wide = refl;
      read = answer_by fs r (day_by fs 1 r.day refl is.day)
          (ap (λ (o : Option AnswerKind). ok_or o (NotWord 2)) (each_kind r.kind)) (id_by fs 3 r.target refl is.target);
    }

-- ---- headers
groups_head : IsReadHeader Rows.groups Texts.groups
unfolding strip_bom table_of
groups_head =
    record {
      line = row_plain (codes "group") (codes "scholar_pct") (codes "resident_pct" ∷ []) (refl, (refl, (refl, tt)));
      back = refl;
      fields = λ x. refl;
      no_mark = λ rows. refl;
      known = λ rows. refl;
    }

programmes_head : IsReadHeader Rows.programmes Texts.programmes
unfolding strip_bom table_of
programmes_head =
    record {
      line = row_plain (codes "programme") (codes "group") (codes "seats" ∷ codes "limit" ∷ [])
          (refl, (refl, (refl, (refl, tt))));
      back = refl;
      fields = λ x. refl;
      no_mark = λ rows. refl;
      known = λ rows. refl;
    }

schools_head : IsReadHeader Rows.schools Texts.schools
unfolding strip_bom table_of
schools_head =
    record {
      line = row_plain (codes "school") (codes "beds") (codes "ceiling" ∷ []) (refl, (refl, (refl, tt)));
      back = refl;
      fields = λ x. refl;
      no_mark = λ rows. refl;
      known = λ rows. refl;
    }

rankings_head : IsReadHeader Rows.rankings Texts.rankings
unfolding strip_bom table_of
rankings_head =
    record {
      line = row_plain (codes "group") (codes "candidate") (codes "rank" ∷ codes "scholar" ∷ codes "resident" ∷ [])
          (refl, (refl, (refl, (refl, (refl, tt)))));
      back = refl;
      fields = λ x. refl;
      no_mark = λ rows. refl;
      known = λ rows. refl;
    }

boarding_head : IsReadHeader Rows.boarding Texts.boarding
unfolding strip_bom table_of
boarding_head =
    record {
      line = row_plain (codes "school") (codes "candidate") (codes "rank" ∷ []) (refl, (refl, (refl, tt)));
      back = refl;
      fields = λ x. refl;
      no_mark = λ rows. refl;
      known = λ rows. refl;
    }

wishes_head : IsReadHeader Rows.wishes Texts.wishes
unfolding strip_bom table_of
wishes_head =
    record {
      line = row_plain (codes "wish") (codes "candidate") (codes "programme" ∷ codes "school" ∷ codes "preference" ∷ [])
          (refl, (refl, (refl, (refl, (refl, tt)))));
      back = refl;
      fields = λ x. refl;
      no_mark = λ rows. refl;
      known = λ rows. refl;
    }

dated_state_head : IsReadHeader Rows.state Texts.dated_state
unfolding strip_bom table_of
dated_state_head =
    record {
      line = row_plain (codes "wish") (codes "status") (codes "since" ∷ []) (refl, (refl, (refl, tt)));
      back = refl;
      fields = λ x. refl;
      no_mark = λ rows. refl;
      known = λ rows. refl;
    }

plain_state_head : IsReadHeader Rows.state Texts.plain_state
unfolding strip_bom table_of
plain_state_head =
    record {
      line = row_plain (codes "wish") (codes "status") ([]) (refl, (refl, tt));
      back = refl;
      fields = λ x. refl;
      no_mark = λ rows. refl;
      known = λ rows. refl;
    }

ceilings_head : IsReadHeader Rows.ceilings Texts.ceilings
unfolding strip_bom table_of
ceilings_head =
    record {
      line = row_plain (codes "day") (codes "school") (codes "ceiling" ∷ []) (refl, (refl, (refl, tt)));
      back = refl;
      fields = λ x. refl;
      no_mark = λ rows. refl;
      known = λ rows. refl;
    }

answers_head : IsReadHeader Rows.answers Texts.answers
unfolding strip_bom table_of
answers_head =
    record {
      line = row_plain (codes "day") (codes "kind") (codes "target" ∷ []) (refl, (refl, (refl, tt)));
      back = refl;
      fields = λ x. refl;
      no_mark = λ rows. refl;
      known = λ rows. refl;
    }

-- ---- all slots
state_read : (dated : Bool) (rows : List StateRow) → AreRows IsStateRow rows → All (HasDate dated) rows
    → shape Rows.state (table_text (Texts.state dated) rows) ≡ Ok rows
state_read true rows are dates =
    table_read Rows.state Texts.dated_state (λ r. IsStateRow r × Rows.IsDatedRow r) dated_state_head dated_is rows
    are.size (λ k d lt. (are.each k d lt, dates k d lt))
state_read false rows are dates =
    table_read Rows.state Texts.plain_state (λ r. IsStateRow r × (r.since ≡ None)) plain_state_head plain_is rows
    are.size (λ k d lt. (are.each k d lt, dates k d lt))

pub slots_read_back : SlotsReadBack
slots_read_back dated t are dates =
    record {
      groups = table_read Rows.groups Texts.groups IsGroupRow groups_head group_is t.groups are.groups.size
          are.groups.each;
      programmes = table_read Rows.programmes Texts.programmes IsProgrammeRow programmes_head programme_is t.programmes
          are.programmes.size are.programmes.each;
      schools = table_read Rows.schools Texts.schools IsSchoolRow schools_head school_is t.schools are.schools.size
          are.schools.each;
      rankings = table_read Rows.rankings Texts.rankings IsRankRow rankings_head rank_is t.rankings are.rankings.size
          are.rankings.each;
      boarding = table_read Rows.boarding Texts.boarding IsBoardRow boarding_head board_is t.boarding are.boarding.size
          are.boarding.each;
      wishes = table_read Rows.wishes Texts.wishes IsWishRow wishes_head wish_is t.wishes are.wishes.size
          are.wishes.each;
      state = state_read dated t.state are.state dates;
      ceilings = table_read Rows.ceilings Texts.ceilings IsCeilingRow ceilings_head ceiling_is t.ceilings
          are.ceilings.size are.ceilings.each;
      answers = table_read Rows.answers Texts.answers IsAnswerRow answers_head answer_is t.answers are.answers.size
          are.answers.each;
    }
