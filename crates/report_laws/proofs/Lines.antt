-- Each line of a day tells its record, whatever follows it.
use Rattle.std.proofs.Common.{ℕ, ℤ, List, [], ◌∷◌, map, rules}
use Rattle.std.specs.Prelude.{codes}
use Rattle.std.specs.Fmt.{decimal}
use Rattle.admit_core.specs.DossierRows.{DossierRows}
use Rattle.admit_core.specs.Lines.{status_word}
use Rattle.admit_core.specs.declared.records.Fall.{Fall}
use Rattle.admit_core.specs.declared.records.Lapse.{Lapse}
use Rattle.calendar.specs.Texts.{date_text}
use Rattle.report.specs.DayText.{IsLapseOf, auto_line, fall_line, freed_line, lapse_line, last_date, offer_line}
use Rattle.report.specs.Ids.{school_id, wish_id}
use Rattle.report_laws.specs.Told.{HasNames, IsToldAuto, IsToldFall, IsToldFreed, IsWishOf}
use Rattle.report_laws.proofs.Dates.{date_told, date_word, deadline_is, offered_is}
use Rattle.report_laws.proofs.Names.{school_told, school_word, status_is_word, status_told, wish_told, wish_word}
use Rattle.report_laws.proofs.Names.{wishes_told, wishes_words}
use Rattle.report_laws.proofs.Runs.{Any, Tells}
use Rattle.report_laws.proofs.Words.{AreTokens, cons_told, line_told, number_told, number_word}

module _ (d : DossierRows) (names : HasNames d) where
  fall_words : (fall : Fall) → IsToldFall d fall
      → AreTokens (decimal (school_id d fall.school) ∷ decimal fall.from ∷ decimal fall.to
      ∷ map (λ w. decimal (wish_id d w)) fall.wishes)
  fall_words fall is = (
    school_word d names fall.school is.places.school,
    (number_word fall.from is.from, (number_word fall.to is.to, wishes_words d names fall.wishes is.places.wishes)),
  )

  pub fall_told : Tells (IsToldFall d) Any (fall_line d)
  fall_told one other r q is are any some e =
      let wishes : Fall → List (List ℕ) = λ f. map (λ w. decimal (wish_id d w)) f.wishes in
      let to : Fall → List (List ℕ) = λ f. decimal f.to ∷ wishes f in
      let from : Fall → List (List ℕ) = λ f. decimal f.from ∷ to f in
      let all : Fall → List (List ℕ) = λ f. decimal (school_id d f.school) ∷ from f in
      let told = line_told (codes "fall") (all one) (all other) r q (search rules) (fall_words one is)
      (fall_words other are) e in
      let school = school_told d names one.school other.school is.places.school are.places.school
      (cons_told told.0).0 in
      let behind = (cons_told told.0).1 in
      let before = number_told one.from other.from is.from are.from
      (cons_told behind).0 in
      let last = (cons_told behind).1 in
      let after = number_told one.to other.to is.to are.to (cons_told last).0 in
      let shown = wishes_told d names one.wishes other.wishes is.places.wishes are.places.wishes
      (cons_told last).1 in
      (λ i. record { school = school i; from = before i; to = after i; wishes = shown i }, told.1)

  pub offer_told : Tells (IsWishOf d) Any (offer_line d)
  offer_told one other r q is are any some e =
      let told = line_told (codes "offer") (decimal (wish_id d one) ∷ []) (decimal (wish_id d other) ∷ []) r q
      (search rules)
      (wish_word d names one is, tt) (wish_word d names other are, tt) e in
      (wish_told d names one other is are (cons_told told.0).0, told.1)

  pub auto_told : Tells (IsToldAuto d) Any (auto_line d)
  auto_told one other r q is are any some e =
      let told = line_told (codes "auto") (decimal (wish_id d one.wish) ∷ status_word one.status ∷ [])
      (decimal (wish_id d other.wish) ∷ status_word other.status ∷ []) r q (search rules)
      (wish_word d names one.wish is, (status_is_word one.status, tt))
      (wish_word d names other.wish are, (status_is_word other.status, tt)) e in
      let wish = wish_told d names one.wish other.wish is are
      (cons_told told.0).0 in
      let last = (cons_told told.0).1 in
      let status = status_told one.status other.status (cons_told last).0 in
      (λ i. record { wish = wish i; status = status i }, told.1)

  pub lapse_told : (start : ℤ) (term : ℕ) → Tells (IsLapseOf d start term) Any (lapse_line d start term)
  lapse_told start term one other r q is are any some e =
      let date : Lapse → List ℕ = λ x. date_text (last_date start term x.offered) in
      let civil = deadline_is start term one.offered is.offered is.deadline in
      let written = deadline_is start term other.offered are.offered are.deadline in
      let told = line_told (codes "lapse") (decimal (wish_id d one.wish) ∷ date one ∷ [])
      (decimal (wish_id d other.wish) ∷ date other ∷ []) r q (search rules)
      (wish_word d names one.wish is.wish, (date_word (last_date start term one.offered), tt))
      (wish_word d names other.wish are.wish, (date_word (last_date start term other.offered), tt)) e in
      let wish = wish_told d names one.wish other.wish is.wish are.wish
      (cons_told told.0).0 in
      let last = (cons_told told.0).1 in
      let same = date_told (last_date start term one.offered) (last_date start term other.offered) civil written
      (cons_told last).0 in
      let offered = offered_is start term one.offered other.offered same in
      (λ i. record { wish = wish i; offered = offered i }, told.1)

pub freed_told : Tells IsToldFreed Any freed_line
freed_told one other r q is are any some e =
    let told = line_told (codes "freed") (decimal one.seats ∷ decimal one.beds ∷ [])
    (decimal other.seats ∷ decimal other.beds ∷ []) r q (search rules)
    (number_word one.seats is.seats, (number_word one.beds is.beds, tt))
    (number_word other.seats are.seats, (number_word other.beds are.beds, tt)) e in
    let seats = number_told one.seats other.seats is.seats are.seats
    (cons_told told.0).0 in
    let last = (cons_told told.0).1 in
    let beds = number_told one.beds other.beds is.beds are.beds (cons_told last).0 in
    (λ i. record { seats = seats i; beds = beds i }, told.1)
