-- The text of a run tells its orders, its days and its final statuses.
use Rattle.std.proofs.Common.{◌≡◌, ℕ, zero, suc, ◌+◌, ◌<◌, List, [], ◌∷◌, ◌++◌, All, ap, append_assoc, arith, flat_map}
use Rattle.std.proofs.Common.{length, map, refl, rules, subst, sym, ◌∙◌}
use Rattle.std.specs.Prelude.{codes}
use Rattle.std.specs.Fmt.{decimal}
use Rattle.std.specs.List.{enumerate_from}
use Rattle.std.proofs.lemmas.List.{append_cancel_left}
use Rattle.std.proofs.lemmas.List.Elements.{All-head, All-tail}
use Rattle.admit_core.specs.Answers.{status_at}
use Rattle.admit_core.specs.DossierRows.{DossierRows}
use Rattle.admit_core.specs.Lines.{bound_letter, status_word}
use Rattle.admit_core.specs.State.{State}
use Rattle.admit_core.specs.declared.dossier.Wish.{Wish}
use Rattle.admit_core.specs.declared.ranking.CallOrder.{CallOrder}
use Rattle.admit_core.specs.declared.ranking.RankGroup.{RankGroup}
use Rattle.report.specs.DayText.{day_text}
use Rattle.report.specs.FinalText.{final_text, status_row}
use Rattle.report.specs.OrderText.{order_text}
use Rattle.report.specs.Words.{line, row}
use Rattle.report_laws.specs.Told.{HasNames, HaveSameStatuses, IsSmall}
use Rattle.report_laws.specs.Whole.{OrdersAreTold, Run, RunsAreTold, orders_text}
use Rattle.report_laws.proofs.Days.{FollowsDay, days_told}
use Rattle.report_laws.proofs.Names.{bounds_told, bounds_words, status_is_word, status_told}
use Rattle.report_laws.proofs.Words.{IsToken, cons_told, line_told, longer, number_word, numbers_told, numbers_words}
use Rattle.report_laws.proofs.Words.{parted_told}

-- ---- call orders
-- a word goes on with a colon
with_colon : (w : List ℕ) → IsToken w → IsToken (w ++ 58 ∷ [])
with_colon [] is = (omega arith, tt)
with_colon (b ∷ bs) is = (is.0, with_colon bs is.1)

abbrev HasSmallList : CallOrder → Type 0
HasSmallList order = All IsSmall order.list

order_told : (id : ℕ) (one other : CallOrder) (r q : List ℕ) → IsSmall id → HasSmallList one → HasSmallList other
    → order_text id one ++ r ≡ order_text id other ++ q → (one ≡ other) × (r ≡ q)
order_told id one other r q small is are e =
    let group : List ℕ = decimal id ++ codes ":" in
    let named : IsToken group = with_colon (decimal id) (number_word id small) in
    let called : CallOrder → List ℕ = λ o. line (codes "order" ∷ group ∷ map decimal o.list) in
    let rules_of : CallOrder → List ℕ = λ o. line (codes "rule" ∷ group ∷ map bound_letter o.trace) in
    let first = line_told (codes "order") (group ∷ map decimal one.list) (group ∷ map decimal other.list)
    (rules_of one ++ r) (rules_of other ++ q) (search rules) (named, numbers_words one.list is)
    (named, numbers_words other.list are)
    (sym (append_assoc (called one) (rules_of one) r) ∙ e ∙ append_assoc (called other) (rules_of other) q) in
    let second = line_told (codes "rule") (group ∷ map bound_letter one.trace) (group ∷ map bound_letter other.trace)
    r q (search rules) (named, bounds_words one.trace) (named, bounds_words other.trace) first.1 in
    let list = numbers_told one.list other.list is are (cons_told first.0).1 in
    let trace = bounds_told one.trace other.trace (cons_told second.0).1 in
    (λ i. record { list = list i; trace = trace i }, second.1)

pub orders_told : (groups : List RankGroup) (orders others : List CallOrder) (r q : List ℕ)
    → All IsSmall (map (λ (g : RankGroup). g.id) groups) → length orders ≡ length groups → length others ≡ length groups
    → All HasSmallList orders → All HasSmallList others
    → orders_text groups orders ++ r ≡ orders_text groups others ++ q → (orders ≡ others) × (r ≡ q)
orders_told [] [] [] r q small long wide is are e = (refl, e)
orders_told [] (one ∷ orders) others r q small long wide is are e = absurd (omega arith)
orders_told [] [] (other ∷ others) r q small long wide is are e = absurd (omega arith)
orders_told (g ∷ groups) [] others r q small long wide is are e = absurd (omega arith)
orders_told (g ∷ groups) (one ∷ orders) [] r q small long wide is are e = absurd (omega arith)
orders_told (g ∷ groups) (one ∷ orders) (other ∷ others) r q small long wide is are e =
    let ids = map (λ (x : RankGroup). x.id) groups in
    let more = orders_text groups orders in
    let further = orders_text groups others in
    let first = order_told g.id one other (more ++ r) (further ++ q) (All-head IsSmall g.id ids small)
    (All-head HasSmallList one orders is) (All-head HasSmallList other others are)
    (sym (append_assoc (order_text g.id one) more r) ∙ e ∙ append_assoc (order_text g.id other) further q) in
    let rest = orders_told groups orders others r q (All-tail IsSmall g.id ids small) (omega arith) (omega arith)
    (All-tail HasSmallList one orders is) (All-tail HasSmallList other others are) first.1 in
    (longer one other orders others first.0 rest.0, rest.1)

pub orders_are_told : OrdersAreTold
orders_are_told d orders others names is are e =
    (orders_told d.groups orders others [] [] names.groups.small is.one_each are.one_each is.candidates are.candidates
    (ap (λ (bs : List ℕ). bs ++ []) e)).0

-- ---- the final state
abbrev rows_from : State → ℕ → List Wish → List ℕ
rows_from s k ws = flat_map (status_row s) (enumerate_from k ws)

row_told : (s t : State) (k : ℕ) (w : Wish) (r q : List ℕ) → IsSmall w.id
    → status_row s (k, w) ++ r ≡ status_row t (k, w) ++ q → (status_at s k ≡ status_at t k) × (r ≡ q)
row_told s t k w r q small e =
    let named = number_word w.id small in
    let told = parted_told 44 (decimal w.id) (decimal w.id) (status_word (status_at s k) ∷ [])
    (status_word (status_at t k) ∷ []) r q (omega arith) (omega arith) (named, (status_is_word (status_at s k), tt))
    (named, (status_is_word (status_at t k), tt)) e in
    (status_told (status_at s k) (status_at t k) (cons_told (cons_told told.0).1).0, told.1)

rows_told : (s t : State) (k : ℕ) (ws : List Wish) → All IsSmall (map (λ (w : Wish). w.id) ws)
    → rows_from s k ws ≡ rows_from t k ws → (j : ℕ) → j < length ws → status_at s (k + j) ≡ status_at t (k + j)
rows_told s t k [] small e j lt = absurd (omega arith)
rows_told s t k (w ∷ ws) small e zero lt =
    let ids = map (λ (x : Wish). x.id) ws in
    let here : k + 0 ≡ k = omega arith in
    subst (λ n. status_at s n ≡ status_at t n) (sym here)
    (row_told s t k w (rows_from s (k + 1) ws) (rows_from t (k + 1) ws) (All-head IsSmall w.id ids small) e).0
rows_told s t k (w ∷ ws) small e (suc j) lt =
    let ids = map (λ (x : Wish). x.id) ws in
    let first = row_told s t k w (rows_from s (k + 1) ws) (rows_from t (k + 1) ws)
    (All-head IsSmall w.id ids small) e in
    let there : k + suc j ≡ k + 1 + j = omega arith in
    subst (λ n. status_at s n ≡ status_at t n) (sym there)
    (rows_told s t (k + 1) ws (All-tail IsSmall w.id ids small) first.1 j (omega arith))

abbrev head_rows : List ℕ
head_rows = line (codes "final" ∷ []) ++ row (codes "wish" ∷ codes "status" ∷ [])

final_told : (d : DossierRows) (s t : State) → HasNames d → s.dossier ≡ d → t.dossier ≡ d → final_text s ≡ final_text t
    → HaveSameStatuses d s t
final_told d s t names is are e place lt =
    let rows_in : State → DossierRows → List ℕ = λ u x. rows_from u 0 x.wishes in
    let same = append_cancel_left head_rows (rows_in s s.dossier) (rows_in t t.dossier) e in
    let told = rows_told s t 0 d.wishes names.wishes.small
    (sym (ap (rows_in s) is) ∙ same ∙ ap (rows_in t) are) place lt in
    let here : 0 + place ≡ place = omega arith in
    subst (λ n. status_at s n ≡ status_at t n) here told

-- ---- a run
no_day : (s : State) → FollowsDay (final_text s)
no_day s = record { no_pass = refl; no_lapse = refl }

pub runs_are_told : RunsAreTold
runs_are_told d one other names is are e =
    let days_in : Run → List ℕ = λ run. flat_map (day_text d) run.days in
    let orders_in : Run → List ℕ = λ run. orders_text d.groups run.orders in
    let parted = sym (append_assoc (orders_in one) (days_in one) (final_text one.evening)) ∙ e
    ∙ append_assoc (orders_in other) (days_in other) (final_text other.evening) in
    let orders = orders_told d.groups one.orders other.orders (days_in one ++ final_text one.evening)
    (days_in other ++ final_text other.evening) names.groups.small is.told_orders.one_each are.told_orders.one_each
    is.told_orders.candidates are.told_orders.candidates parted in
    let days = days_told d names one.days other.days (final_text one.evening) (final_text other.evening)
    is.told_days are.told_days (no_day one.evening) (no_day other.evening) refl refl orders.1 in
    (orders.0, days.0, final_told d one.evening other.evening names is.same_dossier are.same_dossier days.1)
