-- The falls of a run, as lines, are valid.
use Rattle.std.proofs.Common.{◌≡◌, ℕ, suc, ◌+◌, ◌-◌, ◌<◌, true, ◌&&◌, List, [], ◌∷◌, All, length, map, take, get_or}
use Rattle.std.proofs.Common.{refl, sym, ap, ◌∙◌, subst, arith, nat_eq}
use Rattle.std.specs.Prelude.{◌==◌, option_map, slice_index, slice_set, unwrap_or, zip}
use Rattle.std.specs.List.{IsDistinct, list_all}
use Rattle.std.proofs.lemmas.Bool.{and_from, and_parts, eq-eqb, eqb-true}
use Rattle.std.proofs.lemmas.List.{get_or-map, length-map}
use Rattle.std.proofs.lemmas.List.Elements.{All-head, All-tail, All-take}
use Rattle.std.proofs.lemmas.List.Folds.{Any-from_list_any, list_any_at}
use Rattle.std.proofs.lemmas.List.Sums.{position_or_len_is}
use Rattle.std.proofs.lemmas.Map.Keys.{apart_from_distinct}
use Rattle.std.proofs.lemmas.Slice.Zip.{get_or-zip, length-zip}
use Rattle.admit_core.specs.declared.chain.FallLine.{FallLine}
use Rattle.admit_core.specs.declared.dossier.School.{School}
use Rattle.admit_core.specs.declared.dossier.Wish.{Wish}
use Rattle.admit_core.specs.declared.ranking.CallOrder.{CallOrder}
use Rattle.admit_core.specs.declared.records.Fall.{Fall}
use Rattle.admit_core.specs.declared.state.Mark.{Mark}
use Rattle.admit_core.specs.Boarding.{boarding, name_of}
use Rattle.admit_core.specs.Chains.{AreFallLines, IsFallLine, bars_by, lowered, school_of_line, shows_rank, shows_ranks}
use Rattle.admit_core.specs.Chains.{tells_bars}
use Rattle.admit_core.specs.Falls.{AreFalls, bars_after, fall_of, fallen, ranks_up_to_over, is_overfilled}
use Rattle.admit_core.specs.Lists.{is_among}
use Rattle.admit_core.specs.Proposals.{demanded_ranks, demands_bed}
use Rattle.admit_core.specs.Standing.{place_of}
use Rattle.admit_core.specs.State.{State, entries}
use Rattle.admit_core.proofs.DemandLaws.{boarding_is_lawful, demanded, demands_at}
use Rattle.admit_core.proofs.FallsLaw.{over_in}
use Rattle.admit_core.proofs.Plain.{nat_eq_sym}
use Rattle.report.specs.Ids.{wish_id}
use Rattle.certificate.proofs.Naming.{find_numbered}
use Rattle.certificate.specs.Written.{fall_at, falls_from}

-- the place of an id that stands at a place
id_place : (ids : List ℕ) (h : ℕ) → IsDistinct nat_eq ids → h < length ids → place_of ids (get_or ids h 0) ≡ h
id_place ids h distinct lt =
    position_or_len_is (nat_eq (get_or ids h 0)) ids h 0 (omega arith)
    (λ k before. nat_eq_sym (get_or ids h 0) (get_or ids k 0) ∙ apart_from_distinct nat_eq ids k h 0 distinct before lt)
    (λ within. eq-eqb (get_or ids h 0) (get_or ids h 0) refl)

module _ (s : State) (orders : List CallOrder) (bars : List ℕ) (h : ℕ) where
  -- the wish that names a demanded rank shows it, by its id
  named_shows : (r : ℕ) → is_among r (demanded_ranks s orders bars h) ≡ true
      → shows_rank s orders bars h r (wish_id s.dossier (name_of s orders bars h r)) ≡ true
  named_shows r among =
      let T = λ (e : Wish × Mark). demands_bed s orders bars h e.0 e.1 && (e.0.board_rank == r) in
      let (i, e, e_in, e_at, e_demands) = Any-from_list_any (demands_at s orders bars h r) (entries s)
      (sym (demanded s orders bars h r) ∙ among) in
      let parts = and_parts (demands_bed s orders bars h e.0 e.1) (nat_eq r e.0.board_rank) e_demands in
      let flipped : T e ≡ true = ap (λ b. b && (e.0.board_rank == r)) parts.0
      ∙ eq-eqb e.0.board_rank r (sym (eqb-true r e.0.board_rank parts.1)) in
      let (j, x, lt, at, t, found) = find_numbered T 0 (entries s) (list_any_at T (entries s) i e e_in
      (ap T e_at ∙ flipped)) in
      let zero_j : 0 + j ≡ j = omega arith in
      let named : name_of s orders bars h r ≡ j =
      ap (λ o. unwrap_or (option_map (λ (y : ℕ × (Wish × Mark)). y.0) o) 0) found ∙ zero_j in
      let within : j < length s.dossier.wishes = omega (arith, lt, length-zip s.dossier.wishes s.marks) in
      let marked : j < length s.marks = omega (arith, lt, length-zip s.dossier.wishes s.marks) in
      let wish_at : get_or s.dossier.wishes j x.0 ≡ x.0 =
      ap (λ (y : Wish × Mark). y.0) (sym (get_or-zip s.dossier.wishes s.marks j x within marked) ∙ at) in
      let id_at : wish_id s.dossier (name_of s orders bars h r) ≡ x.0.id =
      ap (wish_id s.dossier) named ∙ get_or-map (λ (w : Wish). w.id) s.dossier.wishes j x.0 0 within
      ∙ ap (λ (w : Wish). w.id) wish_at in
      let tests = and_parts (demands_bed s orders bars h x.0 x.1) (x.0.board_rank == r) t in
      let id = wish_id s.dossier (name_of s orders bars h r) in
      let shows : (nat_eq id x.0.id && demands_bed s orders bars h x.0 x.1 && nat_eq r x.0.board_rank) ≡ true =
      and_from (nat_eq id x.0.id && demands_bed s orders bars h x.0 x.1) (nat_eq r x.0.board_rank)
      (and_from (nat_eq id x.0.id) (demands_bed s orders bars h x.0 x.1) (eq-eqb id x.0.id id_at) tests.0)
      (eq-eqb r x.0.board_rank (sym (eqb-true x.0.board_rank r tests.1))) in
      let test = λ (e : Wish × Mark). nat_eq id e.0.id && demands_bed s orders bars h e.0 e.1
      && nat_eq r e.0.board_rank in
      list_any_at test (entries s) j x lt (ap test at ∙ shows)

  each_shows : (ranks : List ℕ) → All (λ r. is_among r (demanded_ranks s orders bars h) ≡ true) ranks
      → list_all (λ (x : ℕ × ℕ). shows_rank s orders bars h x.0 x.1)
      (zip ranks (map (wish_id s.dossier) (map (name_of s orders bars h) ranks))) ≡ true
  each_shows [] all = refl
  each_shows (r ∷ ranks) all =
      let P : ℕ → Type 0 = λ q. is_among q (demanded_ranks s orders bars h) ≡ true in
      and_from (shows_rank s orders bars h r (wish_id s.dossier (name_of s orders bars h r))) _
      (named_shows r (All-head P r ranks all)) (each_shows ranks (All-tail P r ranks all))

  all_among : All (λ r. is_among r (demanded_ranks s orders bars h) ≡ true) (demanded_ranks s orders bars h)
  all_among = λ k d lt.
      let ranks = demanded_ranks s orders bars h in
      list_any_at (nat_eq (get_or ranks k d)) ranks k d lt (eq-eqb (get_or ranks k d) (get_or ranks k d) refl)

  -- the wishes of a fall show its ranks
  named_show : (n : ℕ) → let ranks = take n (demanded_ranks s orders bars h) in
      shows_ranks s orders bars h ranks (map (wish_id s.dossier) (map (name_of s orders bars h) ranks)) ≡ true
  named_show n =
      let ranks = take n (demanded_ranks s orders bars h) in
      let names = map (name_of s orders bars h) ranks in
      let as_many : length (map (wish_id s.dossier) names) ≡ length ranks =
      length-map names (wish_id s.dossier) ∙ length-map ranks (name_of s orders bars h) in
      and_from (nat_eq (length (map (wish_id s.dossier) names)) (length ranks)) _
      (eq-eqb (length (map (wish_id s.dossier) names)) (length ranks) as_many)
      (each_shows ranks (All-take (λ r. is_among r (demanded_ranks s orders bars h) ≡ true) n
      (demanded_ranks s orders bars h) all_among))

module _ (s : State) (orders : List CallOrder) (ceilings : List ℕ)
    (distinct : IsDistinct nat_eq (map (λ (x : School). x.id) s.dossier.schools))
    (as_many : length ceilings ≡ length s.dossier.schools) where
  -- what is tested of a line whose school is known
  abbrev IsLineOf : List ℕ → FallLine → ℕ → Type 0
  IsLineOf bars line h =
      (is_overfilled (boarding s orders ceilings) bars h ≡ true)
      × (shows_ranks s orders bars h (ranks_up_to_over (boarding s orders ceilings) bars h) line.wishes ≡ true)
      × (tells_bars line (fall_of (boarding s orders ceilings) bars h) ≡ true)

  school_is : (bars : List ℕ) (row : ℕ) (f : Fall) → is_overfilled (boarding s orders ceilings) bars f.school ≡ true
      → school_of_line s (fall_at s.dossier row f) ≡ f.school
  school_is bars row f over =
      let in_range = over_in (boarding s orders ceilings) (boarding_is_lawful s orders ceilings) bars f.school over in
      let ids = map (λ (x : School). x.id) s.dossier.schools in
      let within : f.school < length ids = omega (
        arith,
        in_range.0,
        length-map s.dossier.schools
            (λ (x : School). x.id),
      ) in
      id_place ids f.school distinct within

  line_is : (bars : List ℕ) (row : ℕ) (f : Fall) → is_overfilled (boarding s orders ceilings) bars f.school ≡ true
      → f ≡ fall_of (boarding s orders ceilings) bars f.school
      → IsLineOf bars (fall_at s.dossier row f) f.school
  line_is bars row f over is =
      let sys = boarding s orders ceilings in
      let h = f.school in (
        over,
        ap (λ (ws : List ℕ). shows_ranks s orders bars h (ranks_up_to_over sys bars h) (map (wish_id s.dossier) ws))
            (ap (λ (g : Fall). g.wishes) is)
            ∙ named_show s orders bars h (slice_index sys.free h + 1),
        and_from (f.from == (fall_of sys bars h).from) (f.to == (fall_of sys bars h).to)
            (eq-eqb f.from (fall_of sys bars h).from (ap (λ (g : Fall). g.from) is))
            (eq-eqb f.to (fall_of sys bars h).to (ap (λ (g : Fall). g.to) is)),
      )

  valid_line : (bars : List ℕ) (row : ℕ) (f : Fall) → is_overfilled (boarding s orders ceilings) bars f.school ≡ true
      → f ≡ fall_of (boarding s orders ceilings) bars f.school
      → IsFallLine s orders ceilings bars (fall_at s.dossier row f)
  valid_line bars row f over is =
      let t = subst (IsLineOf bars (fall_at s.dossier row f)) (sym (school_is bars row f over))
      (line_is bars row f over is) in
      record { over = t.0; names = t.1; tells = t.2 }

  lowers : (bars : List ℕ) (row : ℕ) (f : Fall) → is_overfilled (boarding s orders ceilings) bars f.school ≡ true
      → lowered s bars (fall_at s.dossier row f) ≡ fallen bars f
  lowers bars row f over = ap (λ h. slice_set bars h f.to) (school_is bars row f over)

  -- falls from these bars on, as lines
  pub valid_lines : (bars : List ℕ) (row : ℕ) (falls : List Fall) → AreFalls (boarding s orders ceilings) bars falls
      → AreFallLines s orders ceilings bars (falls_from s.dossier row falls)
      × (bars_by s bars (falls_from s.dossier row falls) ≡ bars_after bars falls)
  valid_lines bars row [] are = (tt, refl)
  valid_lines bars row (f ∷ fs) are =
      let low = lowers bars row f are.0 in
      let later = valid_lines (fallen bars f) (row + 1) fs are.2 in (
        (
          valid_line bars row f are.0 are.1,
          subst
              (λ (bs : List ℕ). AreFallLines s orders ceilings bs (falls_from s.dossier (row + 1) fs))
              (sym low) later.0,
        ),
        ap (λ (bs : List ℕ). bars_by s bs (falls_from s.dossier (row + 1) fs)) low ∙ later.1,
      )
