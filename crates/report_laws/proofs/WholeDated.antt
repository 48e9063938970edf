-- The text of a run with deadlines tells its orders, its days and its final statuses.
use Rattle.std.proofs.Common.{◌≡◌, ℕ, ℤ, zero, suc, ◌+◌, ◌<◌, Bool, true, false, List, [], ◌∷◌, ◌++◌, All, ap}
use Rattle.std.proofs.Common.{append_assoc, arith, flat_map, length, map, refl, subst, sym, ◌∙◌}
use Rattle.std.specs.Prelude.{codes, if◌then◌else◌}
use Rattle.std.specs.Fmt.{decimal}
use Rattle.std.specs.List.{enumerate_from}
use Rattle.std.proofs.lemmas.List.{append_cancel_left}
use Rattle.std.proofs.lemmas.List.Elements.{All-head, All-tail}
use Rattle.admit_core.specs.Answers.{status_at}
use Rattle.admit_core.specs.DossierRows.{DossierRows}
use Rattle.admit_core.specs.Lapses.{is_offered}
use Rattle.admit_core.specs.Lines.{status_word}
use Rattle.admit_core.specs.State.{State}
use Rattle.admit_core.specs.declared.dossier.Wish.{Wish}
use Rattle.calendar.specs.Texts.{date_text}
use Rattle.report.specs.DayText.{date_on, dated_day_text}
use Rattle.report.specs.FinalText.{dated_row, final_dated_text, offer_day_at, since_word}
use Rattle.report.specs.Words.{line, row}
use Rattle.report_laws.specs.Told.{HasNames, HaveSameStatuses, IsSmall}
use Rattle.report_laws.specs.Whole.{DatedRunsAreTold, Run, orders_text}
use Rattle.report_laws.proofs.Dates.{date_word}
use Rattle.report_laws.proofs.Days.{FollowsDay, dated_days_told}
use Rattle.report_laws.proofs.Names.{status_is_word, status_told}
use Rattle.report_laws.proofs.Whole.{orders_told}
use Rattle.report_laws.proofs.Words.{IsToken, cons_told, number_word, parted_told}

word_or_none : (b : Bool) (w : List ℕ) → IsToken w → IsToken (if b then w else [])
word_or_none true w is = is
word_or_none false w is = tt

module _ (start : ℤ) (before : List ℤ) where
  abbrev rows_from : State → ℕ → List Wish → List ℕ
  rows_from s k ws = flat_map (dated_row s start before) (enumerate_from k ws)

  since_is_word : (s : State) (k : ℕ) → IsToken (since_word s start before k)
  since_is_word s k =
      word_or_none (is_offered (status_at s k)) (date_text (date_on start (offer_day_at s before k)))
      (date_word (date_on start (offer_day_at s before k)))

  row_told : (s t : State) (k : ℕ) (w : Wish) (r q : List ℕ) → IsSmall w.id
      → dated_row s start before (k, w) ++ r ≡ dated_row t start before (k, w) ++ q
      → (status_at s k ≡ status_at t k) × (r ≡ q)
  row_told s t k w r q small e =
      let named = number_word w.id small in
      let fields : State → List (List ℕ) = λ u. status_word (status_at u k) ∷ since_word u start before k ∷ [] in
      let told = parted_told 44 (decimal w.id) (decimal w.id) (fields s) (fields t) r q (omega arith) (omega arith)
      (named, (status_is_word (status_at s k), (since_is_word s k, tt)))
      (named, (status_is_word (status_at t k), (since_is_word t k, tt))) e in
      (status_told (status_at s k) (status_at t k) (cons_told (cons_told told.0).1).0, told.1)

  rows_told : (s t : State) (k : ℕ) (ws : List Wish) → All IsSmall (map (λ (w : Wish). w.id) ws)
      → rows_from s k ws ≡ rows_from t k ws → (j : ℕ) → j < length ws → status_at s (k + j) ≡ status_at t (k + j)
  rows_told s t k [] small e j lt = absurd (omega arith)
  rows_told s t k (w ∷ ws) small e zero lt =
      let ids = map (λ (x : Wish). x.id) ws in
      let here : k + 0 ≡ k = omega arith in
      subst (λ n. status_at s n ≡ status_at t n) (sym here)
      (row_told s t k w (rows_from s (k + 1) ws) (rows_from t (k + 1) ws) (All-head IsSmall w.id ids small) e).0
  rows_told s t k (w ∷ ws) small e (suc j) lt =
      let ids = map (λ (x : Wish). x.id) ws in
      let first = row_told s t k w (rows_from s (k + 1) ws) (rows_from t (k + 1) ws)
      (All-head IsSmall w.id ids small) e in
      let there : k + suc j ≡ k + 1 + j = omega arith in
      subst (λ n. status_at s n ≡ status_at t n) (sym there)
      (rows_told s t (k + 1) ws (All-tail IsSmall w.id ids small) first.1 j (omega arith))

  abbrev head_rows : List ℕ
  head_rows = line (codes "final" ∷ []) ++ row (codes "wish" ∷ codes "status" ∷ codes "since" ∷ [])

  final_told : (d : DossierRows) (s t : State) → HasNames d → s.dossier ≡ d → t.dossier ≡ d
      → final_dated_text s start before ≡ final_dated_text t start before → HaveSameStatuses d s t
  final_told d s t names is are e place lt =
      let rows_in : State → DossierRows → List ℕ = λ u x. rows_from u 0 x.wishes in
      let same = append_cancel_left head_rows (rows_in s s.dossier) (rows_in t t.dossier) e in
      let told = rows_told s t 0 d.wishes names.wishes.small
      (sym (ap (rows_in s) is) ∙ same ∙ ap (rows_in t) are) place lt in
      let here : 0 + place ≡ place = omega arith in
      subst (λ n. status_at s n ≡ status_at t n) here told

  no_day : (s : State) → FollowsDay (final_dated_text s start before)
  no_day s = record { no_pass = refl; no_lapse = refl }

pub dated_runs_are_told : DatedRunsAreTold
dated_runs_are_told d start term before one other names is are e =
    let days_in : Run → List ℕ = λ run. flat_map (λ x. dated_day_text d x start term) run.days in
    let orders_in : Run → List ℕ = λ run. orders_text d.groups run.orders in
    let last : Run → List ℕ = λ run. final_dated_text run.evening start before in
    let parted = sym (append_assoc (orders_in one) (days_in one) (last one)) ∙ e
    ∙ append_assoc (orders_in other) (days_in other) (last other) in
    let orders = orders_told d.groups one.orders other.orders (days_in one ++ last one) (days_in other ++ last other)
    names.groups.small is.told_orders.one_each are.told_orders.one_each is.told_orders.candidates
    are.told_orders.candidates parted in
    let days = dated_days_told d names start term one.days other.days (last one) (last other)
    is.told_days are.told_days (no_day start before one.evening) (no_day start before other.evening) refl refl
    orders.1 in
    let statuses = final_told start before d one.evening other.evening names is.same_dossier are.same_dossier days.1 in
    (orders.0, days.0, statuses)
