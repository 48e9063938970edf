-- What days read of wishes but their preference numbers is the same with others.
use Rattle.std.proofs.Common.{ℕ, ◌+◌, ◌-◌, ◌≡◌, Bool, not, ◌&&◌, ◌||◌, filter, List, [], ◌∷◌, length, map, Option, Some}
use Rattle.std.proofs.Common.{None, refl, ◌∙◌, ap, nat_lt, nat_le, zip, count_by, option_map, set, inl, inr}
use Rattle.std.specs.Prelude.{◌==◌, if◌then◌else◌, slice_index, sum, unwrap_or}
use Rattle.std.specs.List.{enumerate_from, find, list_any, range_with_len}
use Rattle.std.proofs.lemmas.Bool.{cases_Bool}
use Rattle.std.proofs.lemmas.Simd.{map-map}
use Rattle.admit_core.specs.declared.dossier.Answer.{Answer}
use Rattle.admit_core.specs.declared.dossier.AnswerKind.{AnswerKind}
use Rattle.admit_core.specs.declared.dossier.AnswerKind.TheVariants.{Accept, Quit, Refuse, Withdraw}
use Rattle.admit_core.specs.declared.dossier.Wish.{Wish}
use Rattle.admit_core.specs.declared.ranking.CallOrder.{CallOrder}
use Rattle.admit_core.specs.declared.records.Terms.{Terms}
use Rattle.admit_core.specs.declared.state.Mark.{Mark}
use Rattle.admit_core.specs.declared.state.Stamp.{Stamp}
use Rattle.admit_core.specs.declared.state.Status.TheVariants.{Accepted, Offered, Quit as HasQuit, Refused}
use Rattle.admit_core.specs.Answers.{after, after_all, after_kind, candidate_at, first_unfit, fits, mark_at}
use Rattle.admit_core.specs.AutoAnswer.{freed}
use Rattle.admit_core.specs.Boarding.{boarding, name_of}
use Rattle.admit_core.specs.Days.{after_lapse, answers_of, lapsed_on, morning, offered, unfit_on}
use Rattle.admit_core.specs.DossierRows.{beds_of, limit_of, seats_of}
use Rattle.admit_core.specs.Falls.{FallingSystem}
use Rattle.admit_core.specs.Lists.{ascending, distinct}
use Rattle.admit_core.specs.Proposals.{ahead, before, demanded_ranks, demands_bed, has_open_wish, is_behind_bar}
use Rattle.admit_core.specs.Proposals.{is_open, is_open_in, is_proposed, needs_no_seat, position_of, proposed}
use Rattle.admit_core.specs.Proposals.{wants_seat}
use Rattle.admit_core.specs.State.{State, changed_to, entries, free_beds, has_school, holds_bed, holds_seat, is_live}
use Rattle.admit_core.specs.State.{is_waiting, seats_left}
use Rattle.admit_core.proofs.Plain.{any-map}
use Rattle.cut_laws.proofs.Unstamped.{enumerated_map, filter_of_map, placed}
use Rattle.change_laws.specs.Unread.{reranked, with_preference}

module _ (rank : Wish → ℕ) where
  abbrev pub over : State → State
  over s = reranked rank s

  abbrev pub ranked_entry : Wish × Mark → Wish × Mark
  ranked_entry e = (with_preference rank e.0, e.1)

  zip_ranked : (ws : List Wish) (ms : List Mark)
      → zip (map (with_preference rank) ws) ms ≡ map ranked_entry (zip ws ms)
  zip_ranked [] ms = refl
  zip_ranked (w ∷ ws) [] = refl
  zip_ranked (w ∷ ws) (m ∷ ms) = ap (λ l. (with_preference rank w, m) ∷ l) (zip_ranked ws ms)

  pub ranked_entries : (s : State) → entries (over s) ≡ map ranked_entry (entries s)
  ranked_entries s = zip_ranked s.dossier.wishes s.marks

  any_ranked : (test : Wish × Mark → Bool) (s : State)
      → list_any test (entries (over s)) ≡ list_any (λ e. test (ranked_entry e)) (entries s)
  any_ranked test s = ap (list_any test) (ranked_entries s) ∙ any-map test ranked_entry (entries s)

  pub same_candidates : (s : State) → map (λ (w : Wish). w.candidate) (over s).dossier.wishes
      ≡ map (λ (w : Wish). w.candidate) s.dossier.wishes
  same_candidates s = map-map (λ (w : Wish). w.candidate) (with_preference rank) s.dossier.wishes

  -- ---- who is live, and what is left
  pub same_seat : (s : State) (c p : ℕ) → holds_seat (over s) c p ≡ holds_seat s c p
  same_seat s c p = any_ranked (λ (x : Wish × Mark). is_live x.1 && (x.0.candidate == c) && (x.0.programme == p)) s

  pub same_bed : (s : State) (c h : ℕ) → holds_bed (over s) c h ≡ holds_bed s c h
  same_bed s c h = any_ranked (λ (x : Wish × Mark). is_live x.1 && (x.0.candidate == c) && has_school x.0 h) s

  pub same_left : (s : State) (p : ℕ) → seats_left (over s) p ≡ seats_left s p
  same_left s p = λ i. seats_of s.dossier p - length (filter (λ c. same_seat s c p i) (distinct (same_candidates s i)))

  pub same_free : (s : State) (h : ℕ) → free_beds (over s) h ≡ free_beds s h
  same_free s h = λ i. beds_of s.dossier h - length (filter (λ c. same_bed s c h i) (distinct (same_candidates s i)))

  -- ---- what is proposed
  same_behind : (s : State) (bars : List ℕ) (w : Wish) (school : Option ℕ)
      → is_behind_bar (over s) bars (with_preference rank w) school ≡ is_behind_bar s bars w school
  same_behind s bars w None = refl
  same_behind s bars w (Some h) = λ i. not (same_bed s w.candidate h i) && nat_lt (slice_index bars h) w.board_rank

  same_open : (s : State) (bars : List ℕ) (w : Wish) (m : Mark)
      → is_open (over s) bars (with_preference rank w) m ≡ is_open s bars w m
  same_open s bars w m = λ i. is_waiting m && not (is_waiting m && same_behind s bars w w.school i)

  same_open_wish : (s : State) (bars : List ℕ) (p c : ℕ) → has_open_wish (over s) bars p c ≡ has_open_wish s bars p c
  same_open_wish s bars p c =
      any_ranked (λ (x : Wish × Mark). is_open_in (over s) bars p c x.0 x.1) s
      ∙ (λ i. list_any (λ (x : Wish × Mark). same_open s bars x.0 x.1 i && (x.0.candidate == c)
      && (x.0.programme == p)) (entries s))

  same_wants : (s : State) (bars : List ℕ) (p c : ℕ) → wants_seat (over s) bars p c ≡ wants_seat s bars p c
  same_wants s bars p c = λ i. same_open_wish s bars p c i && not (same_seat s c p i)

  same_ahead : (s : State) (orders : List CallOrder) (bars : List ℕ) (w : Wish)
      → ahead (over s) orders bars (with_preference rank w) ≡ ahead s orders bars w
  same_ahead s orders bars w = λ i. count_by (λ c. same_wants s bars w.programme c i) (before s orders w)

  same_needs : (s : State) (orders : List CallOrder) (w : Wish)
      → needs_no_seat (over s) orders (with_preference rank w) ≡ needs_no_seat s orders w
  same_needs s orders w = λ i. same_seat s w.candidate w.programme i
      || nat_le (position_of s orders w) (limit_of s.dossier w.programme)

  same_proposed : (s : State) (orders : List CallOrder) (bars : List ℕ) (w : Wish) (m : Mark)
      → is_proposed (over s) orders bars (with_preference rank w) m ≡ is_proposed s orders bars w m
  same_proposed s orders bars w m = λ i. same_open s bars w m i && (same_needs s orders w i
      || nat_lt (same_ahead s orders bars w i) (same_left s w.programme i))

  -- what passes a test of entries, with its place
  placed_ranked : (test : Wish × Mark → Bool) (s : State)
      → filter (λ (x : ℕ × (Wish × Mark)). test x.1) (enumerate_from 0 (entries (over s)))
      ≡ map (placed ranked_entry)
      (filter (λ (x : ℕ × (Wish × Mark)). test (ranked_entry x.1)) (enumerate_from 0 (entries s)))
  placed_ranked test s =
      ap (λ es. filter (λ (x : ℕ × (Wish × Mark)). test x.1) (enumerate_from 0 es)) (ranked_entries s)
      ∙ ap (filter (λ (x : ℕ × (Wish × Mark)). test x.1)) (enumerated_map ranked_entry 0 (entries s))
      ∙ filter_of_map (λ (x : ℕ × (Wish × Mark)). test x.1) (placed ranked_entry) (enumerate_from 0 (entries s))

  pub same_offers : (s : State) (orders : List CallOrder) (bars : List ℕ)
      → proposed (over s) orders bars ≡ proposed s orders bars
  same_offers s orders bars =
      ap (map (λ (x : ℕ × (Wish × Mark)). x.0))
      (placed_ranked (λ (e : Wish × Mark). is_proposed (over s) orders bars e.0 e.1) s)
      ∙ map-map (λ (x : ℕ × (Wish × Mark)). x.0) (placed ranked_entry)
      (filter (λ (x : ℕ × (Wish × Mark)). is_proposed (over s) orders bars (with_preference rank x.1.0) x.1.1)
      (enumerate_from 0 (entries s)))
      ∙ (λ i. map (λ (x : ℕ × (Wish × Mark)). x.0)
      (filter (λ (x : ℕ × (Wish × Mark)). same_proposed s orders bars x.1.0 x.1.1 i) (enumerate_from 0 (entries s))))

  -- ---- the bars
  same_demands : (s : State) (orders : List CallOrder) (bars : List ℕ) (h : ℕ) (w : Wish) (m : Mark)
      → demands_bed (over s) orders bars h (with_preference rank w) m ≡ demands_bed s orders bars h w m
  same_demands s orders bars h w m =
      λ i. has_school w h && nat_lt 0 w.board_rank && not (same_bed s w.candidate h i)
      && same_proposed s orders bars w m i

  same_ranks : (s : State) (orders : List CallOrder) (bars : List ℕ) (h : ℕ)
      → demanded_ranks (over s) orders bars h ≡ demanded_ranks s orders bars h
  same_ranks s orders bars h =
      let test : Wish × Mark → Bool = λ e. demands_bed (over s) orders bars h e.0 e.1 in
      ap (λ es. ascending (map (λ (e : Wish × Mark). e.0.board_rank) (filter test es))) (ranked_entries s)
      ∙ ap (λ es. ascending (map (λ (e : Wish × Mark). e.0.board_rank) es)) (filter_of_map test ranked_entry (entries
      s))
      ∙ ap ascending (map-map (λ (e : Wish × Mark). e.0.board_rank) ranked_entry
      (filter (λ (e : Wish × Mark). test (ranked_entry e)) (entries s)))
      ∙ (λ i. ascending (map (λ (e : Wish × Mark). e.0.board_rank)
      (filter (λ (e : Wish × Mark). same_demands s orders bars h e.0 e.1 i) (entries s))))

  find_ranked : (test : ℕ × (Wish × Mark) → Bool) (xs : List (ℕ × (Wish × Mark)))
      → option_map (λ (x : ℕ × (Wish × Mark)). x.0) (find test (map (placed ranked_entry) xs))
      ≡ option_map (λ (x : ℕ × (Wish × Mark)). x.0) (find (λ x. test (placed ranked_entry x)) xs)
  find_ranked test [] = refl
  find_ranked test (x ∷ xs) =
      elim (cases_Bool (test (placed ranked_entry x))) [
        | inl passes ↦ rw passes refl
        | inr fails ↦ rw fails (find_ranked test xs)
      ]

  same_names : (s : State) (orders : List CallOrder) (bars : List ℕ) (h r : ℕ)
      → name_of (over s) orders bars h r ≡ name_of s orders bars h r
  same_names s orders bars h r =
      let test : ℕ × (Wish × Mark) → Bool =
      λ x. demands_bed (over s) orders bars h x.1.0 x.1.1 && (x.1.0.board_rank == r) in
      let found : Option ℕ → ℕ = λ o. unwrap_or o 0 in
      let place : Option (ℕ × (Wish × Mark)) → Option ℕ = option_map (λ (x : ℕ × (Wish × Mark)). x.0) in
      ap (λ es. found (place (find test (enumerate_from 0 es)))) (ranked_entries s)
      ∙ ap (λ es. found (place (find test es))) (enumerated_map ranked_entry 0 (entries s))
      ∙ ap found (find_ranked test (enumerate_from 0 (entries s)))
      ∙ (λ i. found (place (find (λ (x : ℕ × (Wish × Mark)). same_demands s orders bars h x.1.0 x.1.1 i
      && (x.1.0.board_rank == r)) (enumerate_from 0 (entries s)))))

  pub same_system : (s : State) (orders : List CallOrder) (ceilings : List ℕ)
      → boarding (over s) orders ceilings ≡ boarding s orders ceilings
  same_system s orders ceilings =
      let system : List ℕ → (List ℕ → ℕ → List ℕ) → (List ℕ → ℕ → ℕ → ℕ) → FallingSystem =
      λ f r n. record { ceilings = ceilings; free = f; ranks = r; name = n } in
      λ i. system (map (λ h. same_free s h i) (range_with_len 0 (length ceilings)))
      (λ bars h. same_ranks s orders bars h i) (λ bars h r. same_names s orders bars h r i)

  -- ---- marks that go by the wish, but not by its preference
  pub marks_ranked : (s : State) (f : Wish × Mark → Mark)
      → map f (entries (over s)) ≡ map (λ e. f (ranked_entry e)) (entries s)
  marks_ranked s f = ap (map f) (ranked_entries s) ∙ map-map f ranked_entry (entries s)

  pub same_after_offers : (s : State) (orders : List CallOrder) (bars : List ℕ) (stamp : Stamp)
      → offered (over s) orders bars stamp ≡ over (offered s orders bars stamp)
  same_after_offers s orders bars stamp =
      ap (λ (ms : List Mark). record (over s) { marks = ms })
      (marks_ranked s (λ e. if is_proposed (over s) orders bars e.0 e.1 then changed_to Offered stamp e.1 else e.1)
      ∙ (λ i. map (λ (e : Wish × Mark). if same_proposed s orders bars e.0 e.1 i then changed_to Offered stamp e.1
      else e.1) (entries s)))

  -- what is freed
  pub same_freed : (s t : State) → freed (over s) (over t) ≡ freed s t
  same_freed s t =
      λ i. record {
        seats = sum (map (λ c. count_by (λ p. same_seat s c p i && not (same_seat t c p i))
            (range_with_len 0 (length s.dossier.programmes))) (distinct (same_candidates s i)));
        beds = sum (map (λ c. count_by (λ h. same_bed s c h i && not (same_bed t c h i))
            (range_with_len 0 (length s.dossier.schools))) (distinct (same_candidates s i)));
      }

  -- ---- mornings
  same_candidate : (s : State) (place : ℕ) → candidate_at (over s) place ≡ candidate_at s place
  same_candidate s place = ap (λ cs. slice_index cs place) (same_candidates s)

  same_after : (kind : AnswerKind) (s : State) (target : ℕ) (stamp : Stamp)
      → after_kind kind (over s) target stamp ≡ over (after_kind kind s target stamp)
  same_after Refuse s target stamp = refl
  same_after Withdraw s target stamp = refl
  same_after Quit s target stamp =
      ap (λ (ms : List Mark). record (over s) { marks = ms })
      (marks_ranked s (λ e. if (is_live e.1 || is_waiting e.1) && (e.0.candidate == target)
      then changed_to HasQuit stamp e.1 else e.1))
  same_after Accept s target stamp =
      ap (λ (ms : List Mark). record (over s) { marks = set ms target (changed_to Accepted stamp (mark_at s target)) })
      ((λ i. map (λ (e : Wish × Mark). if is_live e.1 && (e.0.candidate == same_candidate s target i)
      then changed_to Refused stamp e.1 else e.1) (entries (over s)))
      ∙ marks_ranked s (λ e. if is_live e.1 && (e.0.candidate == candidate_at s target)
      then changed_to Refused stamp e.1 else e.1))

  same_after_all : (s : State) (stamp : Stamp) (answers : List Answer)
      → after_all (over s) stamp answers ≡ over (after_all s stamp answers)
  same_after_all s stamp [] = refl
  same_after_all s stamp (a ∷ rest) =
      ap (λ (t : State). after_all t stamp rest) (same_after a.kind s a.target stamp)
      ∙ same_after_all (after s stamp a) stamp rest

  same_unfit : (k : ℕ) (s : State) (stamp : Stamp) (answers : List Answer)
      → first_unfit k (over s) stamp answers ≡ first_unfit k s stamp answers
  same_unfit k s stamp [] = refl
  same_unfit k s stamp (a ∷ rest) =
      elim (cases_Bool (fits s a)) [
        | inl fit ↦
            rw fit (ap (λ (t : State). first_unfit (k + 1) t stamp rest) (same_after a.kind s a.target stamp)
            ∙ same_unfit (k + 1) (after s stamp a) stamp rest)
        | inr unfit ↦ rw unfit refl
      ]

  same_lapse : (terms : Option Terms) (day : ℕ) (s : State)
      → after_lapse terms day (over s) ≡ over (after_lapse terms day s)
  same_lapse None day s = refl
  same_lapse (Some t) day s = refl

  pub same_lapsed : (terms : Option Terms) (day : ℕ) (s : State)
      → lapsed_on terms day (over s) ≡ lapsed_on terms day s
  same_lapsed None day s = refl
  same_lapsed (Some t) day s = refl

  pub same_morning : (terms : Option Terms) (day : ℕ) (s : State)
      → morning terms day (over s) ≡ over (morning terms day s)
  same_morning terms day s =
      let stamp : Stamp = record { day = day; pass = 0 } in
      let answers = answers_of s.dossier day in
      ap (λ (t : State). after_all t stamp answers) (same_lapse terms day s)
      ∙ same_after_all (after_lapse terms day s) stamp answers

  pub same_fits : (terms : Option Terms) (day : ℕ) (s : State)
      → unfit_on terms day (over s) ≡ unfit_on terms day s
  same_fits terms day s =
      let stamp : Stamp = record { day = day; pass = 0 } in
      let answers = answers_of s.dossier day in
      ap (λ (t : State). first_unfit 0 t stamp answers) (same_lapse terms day s)
      ∙ same_unfit 0 (after_lapse terms day s) stamp answers
