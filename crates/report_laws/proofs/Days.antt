-- The texts of passes and of days tell their records, whatever follows them.
use Rattle.std.proofs.Common.{◌≡◌, ℕ, ℤ, ◌+◌, true, false, List, [], ◌∷◌, ◌++◌, All, flat_map, refl, sym, ap, ◌∙◌}
use Rattle.std.proofs.Common.{append_assoc, rules}
use Rattle.std.specs.Prelude.{codes}
use Rattle.std.specs.Fmt.{decimal}
use Rattle.std.specs.List.{enumerate_from}
use Rattle.std.proofs.lemmas.Bool.{false≢true}
use Rattle.std.proofs.lemmas.List.{append_cancel_left}
use Rattle.std.proofs.lemmas.List.Elements.{All-head, All-tail}
use Rattle.admit_core.specs.DossierRows.{DossierRows}
use Rattle.admit_core.specs.declared.dossier.Programme.{Programme}
use Rattle.admit_core.specs.declared.dossier.School.{School}
use Rattle.admit_core.specs.declared.records.DayRecord.{DayRecord}
use Rattle.admit_core.specs.declared.records.PassEnd.{PassEnd}
use Rattle.report.specs.DayText.{IsLapseOf, auto_line, dated_day_text, day_line, day_text, fall_line, freed_line}
use Rattle.report.specs.DayText.{lapse_line, offer_line, pass_text, passes_text}
use Rattle.report.specs.Ids.{numbers_text}
use Rattle.report.specs.Words.{line}
use Rattle.report_laws.specs.Days.{IsDated, IsUndated}
use Rattle.report_laws.specs.Told.{HasNames, HasNumbers, IsSmall, IsToldAuto, IsToldDay, IsToldFall, IsToldPass}
use Rattle.report_laws.specs.Told.{IsWishOf}
use Rattle.report_laws.proofs.Lines.{auto_told, fall_told, freed_told, lapse_told, offer_told}
use Rattle.report_laws.proofs.Runs.{Any, Tells, begins, behind_numbers, behind_run, numbers_text_told, run_told}
use Rattle.report_laws.proofs.Words.{cons_told, line_told, longer, number_told, number_word}

-- the parts of a text, with what follows it
parts_of_six : (a b c d e f r : List ℕ) → (a ++ b ++ c ++ d ++ e ++ f) ++ r ≡ a ++ (b ++ (c ++ (d ++ (e ++ (f ++ r)))))
parts_of_six a b c d e f r = simp append_assoc

parts_of_four : (a b c d r : List ℕ) → (a ++ b ++ (c ++ d)) ++ r ≡ a ++ (b ++ (c ++ (d ++ r)))
parts_of_four a b c d r = simp append_assoc

parts_of_five : (a b c d e r : List ℕ) → (a ++ b ++ c ++ (d ++ e)) ++ r ≡ a ++ (b ++ (c ++ (d ++ (e ++ r))))
parts_of_five a b c d e r = simp append_assoc

-- what follows a day is no pass, and no lapse
pub record FollowsDay (r : List ℕ) : Type 0 where
  pub no_pass : begins (codes "pass") r ≡ false
  pub no_lapse : begins (codes "lapse") r ≡ false

module _ (d : DossierRows) (names : HasNames d) where
  abbrev bars_of : PassEnd → List ℕ
  bars_of end = numbers_text (λ (h : School). h.id) (codes "bar") d.schools end.pass.bars

  abbrev autos_on : PassEnd → List ℕ → List ℕ
  autos_on end r = flat_map (auto_line d) end.autos ++ (freed_line end.freed ++ r)

  abbrev offers_on : PassEnd → List ℕ → List ℕ
  offers_on end r = flat_map (offer_line d) end.pass.offers ++ autos_on end r

  abbrev bars_on : PassEnd → List ℕ → List ℕ
  bars_on end r = bars_of end ++ offers_on end r

  abbrev falls_on : PassEnd → List ℕ → List ℕ
  falls_on end r = flat_map (fall_line d) end.pass.falls ++ bars_on end r

  -- no fall follows the falls of a pass, no offer its offers, and no automatic answer those
  no_fall : (end : PassEnd) (r : List ℕ) → begins (codes "fall") (bars_on end r) ≡ false
  no_fall end r =
      behind_numbers (λ (h : School). h.id) (codes "bar") (search rules) d.schools end.pass.bars (codes "fall")
      (offers_on end r) (λ x q. refl)
      (behind_run (offer_line d) (codes "fall") (λ x q. refl) end.pass.offers (autos_on end r)
      (behind_run (auto_line d) (codes "fall") (λ x q. refl) end.autos (freed_line end.freed ++ r) refl))

  no_offer : (end : PassEnd) (r : List ℕ) → begins (codes "offer") (autos_on end r) ≡ false
  no_offer end r = behind_run (auto_line d) (codes "offer") (λ x q. refl) end.autos (freed_line end.freed ++ r) refl

  parts_told : (one other : PassEnd) (r q : List ℕ) → IsToldPass d one → IsToldPass d other
      → falls_on one r ≡ falls_on other q → (one ≡ other) × (r ≡ q)
  parts_told one other r q is are e =
      let falls = run_told (IsToldFall d) Any (fall_line d) (codes "fall") (fall_told d names) (λ x q. refl) (λ x q. tt)
      one.pass.falls other.pass.falls (bars_on one r) (bars_on other q) is.falls are.falls tt tt (no_fall one r)
      (no_fall other q) e in
      let bars = numbers_text_told (λ (h : School). h.id) (codes "bar") (search rules) d.schools one.pass.bars
      other.pass.bars
      (offers_on one r) (offers_on other q) names.schools.small is.bars are.bars falls.1 in
      let offers = run_told (IsWishOf d) Any (offer_line d) (codes "offer") (offer_told d names) (λ x q. refl)
      (λ x q. tt)
      one.pass.offers other.pass.offers (autos_on one r) (autos_on other q) is.offers are.offers tt tt
      (no_offer one r) (no_offer other q) bars.1 in
      let autos = run_told (IsToldAuto d) Any (auto_line d) (codes "auto") (auto_told d names) (λ x q. refl) (λ x q. tt)
      one.autos other.autos (freed_line one.freed ++ r) (freed_line other.freed ++ q) is.autos are.autos tt tt refl
      refl offers.1 in
      let freed = freed_told one.freed other.freed r q is.freed are.freed tt tt autos.1 in (
        λ i. record {
          pass = record { bars = bars.0 i; falls = falls.0 i; offers = offers.0 i };
          autos = autos.0 i;
          freed = freed.0 i;
        },
        freed.1,
      )

  abbrev pass_line : ℕ → List ℕ
  pass_line k = line (codes "pass" ∷ decimal k ∷ [])

  pass_parts : (k : ℕ) (end : PassEnd) (r : List ℕ) → pass_text d (k, end) ++ r ≡ pass_line k ++ falls_on end r
  pass_parts k end r =
      parts_of_six (pass_line k) (flat_map (fall_line d) end.pass.falls) (bars_of end)
      (flat_map (offer_line d) end.pass.offers)
      (flat_map (auto_line d) end.autos) (freed_line end.freed) r

  pub pass_told : (j k : ℕ) (one other : PassEnd) (r q : List ℕ) → IsSmall j → IsSmall k → IsToldPass d one →
      IsToldPass d other
      → pass_text d (j, one) ++ r ≡ pass_text d (k, other) ++ q → (j ≡ k) × (one ≡ other) × (r ≡ q)
  pass_told j k one other r q small few is are e =
      let parted = sym (pass_parts j one r) ∙ e ∙ pass_parts k other q in
      let number = line_told (codes "pass") (decimal j ∷ []) (decimal k ∷ []) (falls_on one r) (falls_on other q)
      (search rules)
      (number_word j small, tt) (number_word k few, tt) parted in
      let rest = parts_told one other r q is are number.1 in
      (number_told j k small few (cons_told number.0).0, rest.0, rest.1)

  -- the passes of a day, numbered alike
  abbrev passes_from : ℕ → List PassEnd → List ℕ
  passes_from k ends = flat_map (pass_text d) (enumerate_from k ends)

  first_pass : (k : ℕ) (end : PassEnd) (ends : List PassEnd) (r : List ℕ)
      → begins (codes "pass") (passes_from k (end ∷ ends) ++ r) ≡ true
  first_pass k end ends r =
      ap (begins (codes "pass")) (append_assoc (pass_text d (k, end)) (passes_from (k + 1) ends) r ∙ pass_parts k end
      (passes_from (k + 1) ends ++ r))

  passes_told : (k : ℕ) (ends others : List PassEnd) (r q : List ℕ) → All (IsToldPass d) ends → All (IsToldPass d)
      others
      → begins (codes "pass") r ≡ false → begins (codes "pass") q ≡ false
      → passes_from k ends ++ r ≡ passes_from k others ++ q → (ends ≡ others) × (r ≡ q)
  passes_told k [] [] r q is are after behind e = (refl, e)
  passes_told k [] (other ∷ others) r q is are after behind e =
      absurd (false≢true (sym after ∙ ap (begins (codes "pass")) e ∙ first_pass k other others q))
  passes_told k (end ∷ ends) [] r q is are after behind e =
      absurd (false≢true (sym behind ∙ ap (begins (codes "pass")) (sym e) ∙ first_pass k end ends r))
  passes_told k (end ∷ ends) (other ∷ others) r q is are after behind e =
      let more = passes_from (k + 1) ends ++ r in
      let further = passes_from (k + 1) others ++ q in
      let parted = sym (append_assoc (pass_text d (k, end)) (passes_from (k + 1) ends) r ∙ pass_parts k end more)
      ∙ e ∙ append_assoc (pass_text d (k, other)) (passes_from (k + 1) others) q ∙ pass_parts k other further in
      let one = parts_told end other more further (All-head (IsToldPass d) end ends is)
      (All-head (IsToldPass d) other others are)
      (append_cancel_left (pass_line k) (falls_on end more) (falls_on other further) parted) in
      let rest = passes_told (k + 1) ends others r q (All-tail (IsToldPass d) end ends is)
      (All-tail (IsToldPass d) other others are)
      after behind one.1 in
      (longer end other ends others one.0 rest.0, rest.1)

  -- ---- the evening
  abbrev pub left_of : DayRecord → List ℕ
  left_of day = numbers_text (λ (p : Programme). p.id) (codes "left") d.programmes day.left

  abbrev pub free_of : DayRecord → List ℕ
  free_of day = numbers_text (λ (h : School). h.id) (codes "free") d.schools day.free

  abbrev pub evening_on : DayRecord → List ℕ → List ℕ
  evening_on day r = left_of day ++ (free_of day ++ r)

  pub evening_told : (one other : DayRecord) (r q : List ℕ) → HasNumbers d one → HasNumbers d other
      → evening_on one r ≡ evening_on other q → (one.left ≡ other.left) × (one.free ≡ other.free) × (r ≡ q)
  evening_told one other r q is are e =
      let left = numbers_text_told (λ (p : Programme). p.id) (codes "left") (search rules) d.programmes one.left
      other.left
      (free_of one ++ r) (free_of other ++ q) names.programmes.small is.left are.left e in
      let free = numbers_text_told (λ (h : School). h.id) (codes "free") (search rules) d.schools one.free other.free
      r q names.schools.small is.free are.free left.1 in
      (left.0, free.0, free.1)

  not_evening : (word : List ℕ) → ((x : Programme × ℕ) (q : List ℕ) → begins word
      (line (codes "left" ∷ decimal x.0.id ∷ decimal x.1 ∷ []) ++ q) ≡ false)
      → ((x : School × ℕ) (q : List ℕ) → begins word (line (codes "free" ∷ decimal x.0.id ∷ decimal x.1 ∷ []) ++ q) ≡
      false)
      → (day : DayRecord) (r : List ℕ) → begins word r ≡ false → begins word (evening_on day r) ≡ false
  not_evening word left free day r e =
      behind_numbers (λ (p : Programme). p.id) (codes "left") (search rules) d.programmes day.left word
      (free_of day ++ r) left
      (behind_numbers (λ (h : School). h.id) (codes "free") (search rules) d.schools day.free word r free e)

  -- ---- days
  abbrev passes_on : DayRecord → List ℕ → List ℕ
  passes_on day r = passes_text d day.passes ++ evening_on day r

  numbered : (one other : DayRecord) (r q : List ℕ) → IsToldDay d one → IsToldDay d other
      → day_line one ++ r ≡ day_line other ++ q → (one.day ≡ other.day) × (r ≡ q)
  numbered one other r q is are e =
      let told = line_told (codes "day") (decimal one.day ∷ []) (decimal other.day ∷ []) r q (search rules)
      (number_word one.day is.day, tt) (number_word other.day are.day, tt) e in
      (number_told one.day other.day is.day are.day (cons_told told.0).0, told.1)

  record TellsDay (one other : DayRecord) (r q : List ℕ) : Type 0 where
    passes : one.passes ≡ other.passes
    left : one.left ≡ other.left
    free : one.free ≡ other.free
    rest : r ≡ q

  rest_told : (one other : DayRecord) (r q : List ℕ) → IsToldDay d one → IsToldDay d other → FollowsDay r → FollowsDay q
      → passes_on one r ≡ passes_on other q → TellsDay one other r q
  rest_told one other r q is are after behind e =
      let passes = passes_told 1 one.passes other.passes (evening_on one r) (evening_on other q) is.passes are.passes
      (not_evening (codes "pass") (λ x q. refl) (λ x q. refl) one r after.no_pass)
      (not_evening (codes "pass") (λ x q. refl) (λ x q. refl) other q behind.no_pass) e in
      let evening = evening_told one other r q is.evening are.evening passes.1 in
      record { passes = passes.0; left = evening.0; free = evening.1; rest = evening.2 }

  day_parts : (day : DayRecord) (r : List ℕ) → day_text d day ++ r ≡ day_line day ++ passes_on day r
  day_parts day r = parts_of_four (day_line day) (passes_text d day.passes) (left_of day) (free_of day) r

  pub day_told : Tells (IsUndated d) FollowsDay (day_text d)
  day_told one other r q is are after behind e =
      let number = numbered one other (passes_on one r) (passes_on other q) is.day are.day
      (sym (day_parts one r) ∙ e ∙ day_parts other q) in
      let told = rest_told one other r q is.day are.day after behind number.1 in
      let lapsed = is.no_lapse ∙ sym are.no_lapse in (
        λ i. record {
          day = number.0 i;
          passes = told.passes i;
          left = told.left i;
          free = told.free i;
          lapsed =
              lapsed i;
        },
        told.rest,
      )

  pub days_told : (days others : List DayRecord) (r q : List ℕ) → All (IsUndated d) days → All (IsUndated d) others
      → FollowsDay r → FollowsDay q → begins (codes "day") r ≡ false → begins (codes "day") q ≡ false
      → flat_map (day_text d) days ++ r ≡ flat_map (day_text d) others ++ q → (days ≡ others) × (r ≡ q)
  days_told =
      run_told (IsUndated d) FollowsDay (day_text d) (codes "day") day_told (λ x q. refl)
      (λ x q. record { no_pass = refl; no_lapse = refl })

  -- ---- days with deadlines
  module _ (start : ℤ) (term : ℕ) where
    abbrev lapses_on : DayRecord → List ℕ → List ℕ
    lapses_on day r = flat_map (lapse_line d start term) day.lapsed ++ passes_on day r

    abbrev dated : DayRecord → List ℕ
    dated day = dated_day_text d day start term

    dated_parts : (day : DayRecord) (r : List ℕ) → dated day ++ r ≡ day_line day ++ lapses_on day r
    dated_parts day r =
        parts_of_five (day_line day) (flat_map (lapse_line d start term) day.lapsed) (passes_text d day.passes)
        (left_of day) (free_of day) r

    no_lapse : (day : DayRecord) (r : List ℕ) → FollowsDay r → begins (codes "lapse") (passes_on day r) ≡ false
    no_lapse day r after =
        behind_run (pass_text d) (codes "lapse") (λ x q. refl) (enumerate_from 1 day.passes) (evening_on day r)
        (not_evening (codes "lapse") (λ x q. refl) (λ x q. refl) day r after.no_lapse)

    pub dated_told : Tells (IsDated d start term) FollowsDay dated
    dated_told one other r q is are after behind e =
        let number = numbered one other (lapses_on one r) (lapses_on other q) is.day are.day
        (sym (dated_parts one r) ∙ e ∙ dated_parts other q) in
        let lapsed = run_told (IsLapseOf d start term) Any (lapse_line d start term) (codes "lapse")
        (lapse_told d names start term)
        (λ x q. refl) (λ x q. tt) one.lapsed other.lapsed (passes_on one r) (passes_on other q) is.lapses are.lapses
        tt tt
        (no_lapse one r after) (no_lapse other q behind) number.1 in
        let told = rest_told one other r q is.day are.day after behind lapsed.1 in (
          λ i. record {
            day = number.0 i;
            passes = told.passes i;
            left = told.left i;
            free = told.free i;
            lapsed =
                lapsed.0 i;
          },
          told.rest,
        )

    pub dated_days_told : (days others : List DayRecord) (r q : List ℕ) → All (IsDated d start term) days → All
        (IsDated d start term) others
        → FollowsDay r → FollowsDay q → begins (codes "day") r ≡ false → begins (codes "day") q ≡ false
        → flat_map dated days ++ r ≡ flat_map dated others ++ q → (days ≡ others) × (r ≡ q)
    dated_days_told =
        run_told (IsDated d start term) FollowsDay dated (codes "day") dated_told (λ x q. refl)
        (λ x q. record { no_pass = refl; no_lapse = refl })
