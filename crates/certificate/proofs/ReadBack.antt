-- The text of days is read as their chain.
use Rattle.std.proofs.Common.{◌≡◌, ℕ, suc, ◌+◌, ◌<◌, ◌≤◌, true, false, cond, ◌&&◌, List, [], ◌∷◌, ◌++◌, length, map}
use Rattle.std.proofs.Common.{flat_map, get_or, All, Some, None, Ok, refl, sym, ap, ◌∙◌, subst, arith, append_assoc}
use Rattle.std.proofs.Common.{append-nil, inl, inr, nat_le, nat_eq, rules}
use Rattle.std.specs.Prelude.{codes, option_and_then, slice_index}
use Rattle.std.specs.Fmt.{decimal}
use Rattle.std.specs.List.{enumerate_from}
use Rattle.std.proofs.lemmas.Bool.{and_from, cases_lt, eq-eqb, le-leb}
use Rattle.std.proofs.lemmas.Bool.Decides.{nat_tests}
use Rattle.std.proofs.lemmas.List.{get_or_past}
use Rattle.std.proofs.lemmas.List.Elements.{All-cons, All-head, All-map, All-tail}
use Rattle.admit_core.specs.DossierRows.{DossierRows}
use Rattle.admit_core.specs.Validity.{IsValid}
use Rattle.admit_core.specs.declared.chain.ChainReason.TheVariants.{NotLine, WrongNumber}
use Rattle.admit_core.specs.declared.chain.DayChain.{DayChain}
use Rattle.admit_core.specs.declared.chain.FallLine.{FallLine}
use Rattle.admit_core.specs.declared.dossier.School.{School}
use Rattle.admit_core.specs.declared.dossier.Wish.{Wish}
use Rattle.admit_core.specs.declared.records.DayRecord.{DayRecord}
use Rattle.admit_core.specs.declared.records.Fall.{Fall}
use Rattle.admit_core.specs.declared.records.PassEnd.{PassEnd}
use Rattle.report.specs.DayText.{fall_line}
use Rattle.report.specs.Ids.{school_id, wish_id}
use Rattle.report.specs.Words as Words
use Rattle.certificate.specs.declared.line.Line.{Line}
use Rattle.certificate.specs.declared.line.Line.TheVariants.{Day, Pass, Fall as FallOf}
use Rattle.certificate.specs.ChainText.{chain_text, day_lines, pass_lines, passes_lines}
use Rattle.certificate.specs.Grammar.{chain_of, days_after, end_at, is_end, line_of, line_with, misplaced, nothing}
use Rattle.certificate.specs.Grammar.{passes_after, parts, read, Said, said_from, said_with}
use Rattle.certificate.specs.Written.{AreNumbered, CanBeTold, DayCanBeTold, PassCanBeTold, chain_of_days, days_from}
use Rattle.certificate.specs.Written.{fall_at, falls_from, passes_from, row_after, row_after_pass}
use Rattle.certificate.proofs.Saying.{said_by}
use Rattle.certificate.proofs.WordLines.{AreWords, IsWord, body_of, line_cut, number_word, numbers_read, numbers_words}
use Rattle.certificate.proofs.WordLines.{words_cut}

-- what a line of words says, with what follows it
read_line : (day pass row : ℕ) (w : List ℕ) (ws : List (List ℕ)) (line : Line) (rest : List ℕ)
    → AreWords (w ∷ ws) → line_of row (w ∷ ws) ≡ Some line
    → said_from day pass row (parts 10 (Words.line (w ∷ ws) ++ rest))
    ≡ cond (is_end (Some line)) (end_at row (parts 10 rest))
    (said_with row (Some line) (misplaced day pass (Some line)) (said_from
    (days_after day (Some line)) (passes_after pass (Some line)) (row + 1) (parts 10 rest)))
read_line day pass row w ws line rest are is =
    said_by day pass row (body_of w ws) rest (parts 10 (Words.line (w ∷ ws) ++ rest)) (Some line)
    (line_cut w ws rest are)
    (sym (ap (line_of row) (words_cut w ws are) ∙ is))

word_fall : IsWord (codes "fall")
word_fall = search rules

word_pass : IsWord (codes "pass")
word_pass = search rules

word_day : IsWord (codes "day")
word_day = search rules

-- the line of one number
day_line_is : (row n : ℕ) → n ≤ 4294967295 → line_of row (codes "day" ∷ decimal n ∷ []) ≡ Some (Day n)
day_line_is row n few = ap (option_and_then (line_with row (codes "day")))
    (numbers_read (n ∷ []) (All-cons (λ (k : ℕ). k ≤ 4294967295) n [] few (λ k d lt. omega arith)))

pass_line_is : (row n : ℕ) → n ≤ 4294967295 → line_of row (codes "pass" ∷ decimal n ∷ []) ≡ Some (Pass n)
pass_line_is row n few = ap (option_and_then (line_with row (codes "pass")))
    (numbers_read (n ∷ []) (All-cons (λ (k : ℕ). k ≤ 4294967295) n [] few (λ k d lt. omega arith)))

-- an id, or 0 past the end, has 32 bits
abbrev IsSmall : ℕ → Type 0
IsSmall n = n ≤ 4294967295

pub id_small : (ids : List ℕ) (place : ℕ) → All IsSmall ids → slice_index ids place ≤ 4294967295
id_small ids place all =
    elim (cases_lt place (length ids)) [
      | inl within ↦ all place 0 within
      | inr past ↦ rw (get_or_past ids place 0 past) (omega arith)
    ]

module _ (d : DossierRows) (valid : IsValid d) where
  school_small : (place : ℕ) → school_id d place ≤ 4294967295
  school_small place =
      id_small (map (λ (h : School). h.id) d.schools) place (All-map IsSmall (λ (h : School). h.id)
      d.schools (λ k x lt. let id = (valid.schools k x lt).id in omega arith))

  wish_small : (place : ℕ) → wish_id d place ≤ 4294967295
  wish_small place = id_small (map (λ (w : Wish). w.id) d.wishes) place (All-map IsSmall
      (λ (w : Wish). w.id) d.wishes (λ k x lt. let id = (valid.wishes k x lt).id in omega arith))

  abbrev fall_numbers : Fall → List ℕ
  fall_numbers fall = school_id d fall.school ∷ fall.from ∷ fall.to ∷ map (wish_id d) fall.wishes

  numbers_small : (fall : Fall) → CanBeTold fall → All IsSmall (fall_numbers fall)
  numbers_small fall can =
      All-cons IsSmall (school_id d fall.school) (fall.from ∷ fall.to ∷ map (wish_id d) fall.wishes)
      (school_small fall.school)
      (All-cons IsSmall fall.from (fall.to ∷ map (wish_id d) fall.wishes) can.from
      (All-cons IsSmall fall.to (map (wish_id d) fall.wishes) can.to (All-map IsSmall
      (wish_id d) fall.wishes (λ k x lt. wish_small (get_or fall.wishes k x)))))

  words_of_wishes : (wishes : List ℕ) → map (λ w. decimal (wish_id d w)) wishes ≡ map decimal (map (wish_id d) wishes)
  words_of_wishes [] = refl
  words_of_wishes (w ∷ ws) = ap (λ (xs : List (List ℕ)). decimal (wish_id d w) ∷ xs) (words_of_wishes ws)

  fall_line_words : (fall : Fall) → fall_line d fall ≡ Words.line (codes "fall" ∷ map decimal (fall_numbers fall))
  fall_line_words fall =
      ap (λ (xs : List (List ℕ)). Words.line (codes "fall" ∷ decimal (school_id d fall.school)
      ∷ decimal fall.from ∷ decimal fall.to ∷ xs)) (words_of_wishes fall.wishes)

  fall_told : (row school from to : ℕ) (wishes : List ℕ) → 0 < length wishes
      → line_with row (codes "fall") (school ∷ from ∷ to ∷ map (wish_id d) wishes)
      ≡ Some
      (FallOf (record {
        row = row;
        school = school;
        from = from;
        to = to;
        wishes = map (wish_id d) wishes;
      }))
  fall_told row school from to [] some = absurd (omega arith)
  fall_told row school from to (w ∷ ws) some = refl

  fall_line_is : (row : ℕ) (fall : Fall) → CanBeTold fall
      → line_of row (codes "fall" ∷ map decimal (fall_numbers fall))
      ≡ Some (FallOf (fall_at d row fall))
  fall_line_is row fall can =
      ap (option_and_then (line_with row (codes "fall"))) (numbers_read (fall_numbers fall) (numbers_small fall can))
      ∙ fall_told row (school_id d fall.school) fall.from fall.to fall.wishes can.some

  -- the falls of a pass, and what follows them
  read_falls : (day pass row : ℕ) (falls : List Fall) (rest : List ℕ) (said : Said) → nat_eq pass 0 ≡ false
      → All CanBeTold falls
      → said_from day pass (row + length falls) (parts 10 rest) ≡ Ok said
      → said_from day pass row (parts 10 (flat_map (fall_line d) falls ++ rest))
      ≡ Ok (record said { falls = falls_from d row falls ++ said.falls })
  read_falls day pass row [] rest said open_pass can follows =
      let here : row + 0 ≡ row = omega arith in
      subst (λ k. said_from day pass k (parts 10 rest) ≡ Ok said) here follows
  read_falls day pass row (fall ∷ falls) rest said open_pass can follows =
      let first = All-head CanBeTold fall falls can in
      let others = All-tail CanBeTold fall falls can in
      let after = flat_map (fall_line d) falls ++ rest in
      let next : row + suc (length falls) ≡ row + 1 + length falls = omega arith in
      let later = read_falls day pass (row + 1) falls rest said open_pass others
      (subst (λ k. said_from day pass k (parts 10 rest) ≡ Ok said) next follows) in
      ap (λ (bs : List ℕ). said_from day pass row (parts 10 bs))
      (append_assoc (fall_line d fall) (flat_map (fall_line d) falls) rest)
      ∙ ap (λ (bs : List ℕ). said_from day pass row (parts 10 (bs ++ after))) (fall_line_words fall)
      ∙ read_line day pass row (codes "fall") (map decimal (fall_numbers fall))
      (FallOf (fall_at d row fall)) after (
        word_fall,
        numbers_words (fall_numbers fall)
            (numbers_small fall first),
      ) (fall_line_is row fall first)
      ∙ ap (λ b. said_with row (Some (FallOf (fall_at d row fall))) (cond b (Some NotLine) None)
      (said_from day pass (row + 1) (parts 10 after))) open_pass
      ∙ ap (said_with row (Some (FallOf (fall_at d row fall))) None) later

  some_pass : (k : ℕ) → nat_eq (k + 1) 0 ≡ false
  some_pass k = grind (arith, nat_tests)

  same_number : (k : ℕ) → nat_eq k k ≡ true
  same_number k = eq-eqb k k refl

  abbrev ends_day : ℕ → List DayChain → Said
  ends_day row days = record (nothing row) { days = days }

  abbrev passes_said : ℕ → List PassEnd → List DayChain → Said
  passes_said row ends days = record {
    falls = [];
    pass_end = row;
    passes = passes_from d row ends;
    day_end = row_after row ends;
    days = days;
  }

  -- the passes of a day from one number on, and what follows them
  read_passes : (day k row : ℕ) (ends : List PassEnd) (rest : List ℕ) (days : List DayChain)
      → nat_eq day 0 ≡ false → All PassCanBeTold ends → k + length ends ≤ 4294967295
      → ((pass : ℕ) → said_from day pass (row_after row ends) (parts 10 rest) ≡ Ok (ends_day (row_after row ends) days))
      → said_from day k row (parts 10 (flat_map (pass_lines d) (enumerate_from (k + 1) ends) ++ rest))
      ≡ Ok (passes_said row ends days)
  read_passes day k row [] rest days open_day can few follows = follows k
  read_passes day k row (end ∷ ends) rest days open_day can few follows =
      let first = All-head PassCanBeTold end ends can in
      let others = All-tail PassCanBeTold end ends can in
      let number = Words.line (codes "pass" ∷ decimal (k + 1) ∷ []) in
      let falls = flat_map (fall_line d) end.pass.falls in
      let passes = flat_map (pass_lines d) (enumerate_from (k + 1 + 1) ends) in
      let fits : k + 1 ≤ 4294967295 = omega arith in
      let more : k + 1 + length ends ≤ 4294967295 = omega arith in
      let end_row = row_after_pass row end in
      let later = read_passes day (k + 1) end_row ends rest days open_day others more follows in
      let fallen = read_falls day (k + 1) (row + 1) end.pass.falls (passes ++ rest)
      (passes_said end_row ends days) (some_pass k) first later in
      let told : Said = record (passes_said end_row ends days) { falls = falls_from d (row + 1) end.pass.falls } in
      let all = falls ++ (passes ++ rest) in
      let fallen_so : said_from day (k + 1) (row + 1) (parts 10 all) ≡ Ok told =
      fallen
      ∙ ap (λ (fs : List FallLine). Ok (record (passes_said end_row ends days) { falls = fs }))
      (append-nil (falls_from d (row + 1) end.pass.falls)) in
      ap (λ (bs : List ℕ). said_from day k row (parts 10 bs))
      (append_assoc (number ++ falls) passes rest ∙ append_assoc number falls (passes ++ rest))
      ∙ read_line day k row (codes "pass") (decimal (k + 1) ∷ []) (Pass (k + 1)) all
      (word_pass, (number_word (k + 1) fits, tt)) (pass_line_is row (k + 1) fits)
      ∙ ap (λ b. said_with row (Some (Pass (k + 1)))
      (cond b (Some NotLine) (cond (nat_eq (k + 1) (k + 1)) None (Some WrongNumber)))
      (said_from day (k + 1) (row + 1) (parts 10 all))) open_day
      ∙ ap (λ b. said_with row (Some (Pass (k + 1))) (cond b None (Some WrongNumber))
      (said_from day (k + 1) (row + 1) (parts 10 all))) (same_number (k + 1))
      ∙ ap (said_with row (Some (Pass (k + 1))) None) fallen_so

  last_line : (day pass row : ℕ) → said_from day pass row (parts 10 (Words.line (codes "end" ∷ []))) ≡ Ok (nothing row)
  unfolding said_from
  last_line day pass row = refl

  -- days from one number on, to the end
  read_days : (day pass row : ℕ) (days : List DayRecord) → AreNumbered (day + 1) days → day + length days ≤ 366
      → All DayCanBeTold days
      → said_from day pass row (parts 10 (flat_map (day_lines d) days
      ++ Words.line (codes "end" ∷ []))) ≡ Ok (ends_day row (days_from d row days))
  read_days day pass row [] numbered few can = last_line day pass row
  read_days day pass row (this ∷ days) numbered few can =
      let first = All-head DayCanBeTold this days can in
      let others = All-tail DayCanBeTold this days can in
      let n = this.day in
      let is : n ≡ day + 1 = numbered.0 in
      let number = Words.line (codes "day" ∷ decimal n ∷ []) in
      let passes = passes_lines d this.passes in
      let more = flat_map (day_lines d) days in
      let last = Words.line (codes "end" ∷ []) in
      let rest = more ++ last in
      let within : day + 1 + length days ≤ 366 = omega arith in
      let fits : n ≤ 4294967295 = omega arith in
      let year : n ≤ 366 = omega arith in
      let some : nat_eq n 0 ≡ false = subst (λ k. nat_eq k 0 ≡ false) (sym is) (some_pass day) in
      let few_passes : 0 + length this.passes ≤ 4294967295 = omega (arith, first.few) in
      let end_row = row_after (row + 1) this.passes in
      let later : (p : ℕ) → said_from n p end_row (parts 10 rest) ≡ Ok (ends_day end_row (days_from d end_row days)) =
      λ p.
      subst (λ k. said_from k p end_row (parts 10 rest)
      ≡ Ok (ends_day end_row (days_from d end_row days))) (sym is)
      (read_days (day + 1) p end_row days numbered.1 within others) in
      let passed = read_passes n 0 (row + 1) this.passes rest
      (days_from d end_row days) some first.passes few_passes later in
      let all = passes ++ rest in
      let follows : (nat_eq n (day + 1) && nat_le n 366) ≡ true = and_from (nat_eq n (day + 1))
      (nat_le n 366) (eq-eqb n (day + 1) is) (le-leb n 366 year) in
      ap (λ (bs : List ℕ). said_from day pass row (parts 10 bs))
      (append_assoc (number ++ passes) more last ∙ append_assoc number passes rest)
      ∙ read_line day pass row (codes "day") (decimal n ∷ []) (Day n) all (word_day, (number_word n fits, tt))
      (day_line_is row n fits)
      ∙ ap (λ b. said_with row (Some (Day n)) (cond b None (Some WrongNumber)) (said_from n 0 (row + 1) (parts 10 all)))
      follows
      ∙ ap (said_with row (Some (Day n)) None) passed

  -- the text of days is read as their chain
  pub reads_back : (days : List DayRecord) → AreNumbered 1 days → length days ≤ 366
      → All DayCanBeTold days → read (chain_text d days) ≡ Ok (chain_of_days d days)
  reads_back days numbered few can = ap chain_of (read_days 0 0 1 days numbered (omega arith) can)
