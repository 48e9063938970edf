-- A wish is looked at, and houses its rank where it demands a bed.
use Rattle.std.proofs.Common.{ℕ, ◌<◌, ◌≤◌, ◌≡◌, ◌≢◌, ◌⊎◌, Bool, true, false, not, ◌&&◌, List, [], length, inl, inr}
use Rattle.std.proofs.Common.{refl, sym, ◌∙◌}
use Rattle.std.proofs.Common.{ap, get_or, nat_eq, Option, Some, None, subst, is_some, unwrap_or}
use Rattle.std.specs.Prelude.{slice_get, slice_index, if◌then◌else◌, IfSome, IfNone}
use Rattle.std.specs.Option.{option_or}
use Rattle.std.proofs.Math.ListN.{set}
use Rattle.std.proofs.lemmas.Bool.{cases_eq, false≢true, and_parts, and_from, eq-eqb, eqb-true, lt-ltb}
use Rattle.std.proofs.lemmas.List.{get_or-set_same, get_or-set_other, get_or_read, length-set}
use Rattle.admit_core.specs.declared.dossier.Wish.{Wish}
use Rattle.admit_core.specs.declared.state.Mark.{Mark}
use Rattle.admit_core.specs.Lists.{is_among}
use Rattle.admit_core.specs.State.{State, entries, has_school, is_school, holds_bed}
use Rattle.admit_core.specs.Proposals.{is_proposed}
use Rattle.admit_core.proofs.DemandLaws.{demanded}
use Rattle.day_state.specs.Kept.{wish_in, mark_in, has_bed_there, holds_bed_in}
use Rattle.linked_demand.specs.declared.rows.RowWish.{RowWish}
use Rattle.linked_demand.specs.Rungs.{Rung, housed_in}
use Rattle.linked_demand.specs.Links.{LinksRow}
use Rattle.linked_demand.specs.Demand.{is_proposed_at, counted}
use Rattle.linked_demand.specs.Filled.{bed_sought, wants_bed}
use Rattle.linked_demand.specs.Housed.{AllHoused, GivesUp, noted}
use Rattle.linked_demand.specs.Rounds.{IsRound}
use Rattle.linked_demand.proofs.KeptAnswers.{proposed_entry}
use Rattle.linked_demand.proofs.Closing.{any_at}
use Rattle.linked_demand.proofs.Demanded.{demands_at, ranks_told}
use Rattle.linked_demand.proofs.RowsRight.{entry_there}
use Rattle.linked_demand.proofs.HousedRows.{left_others, housed_by}
use Rattle.linked_demand.proofs.RoundFalls.{rows_open}

none_is : {X : Type 0} (x : X) → None ≡ Some x → ⊥
none_is x e = false≢true (ap is_some e)

-- what is answered where a bed is sought
sought_parts : (a b : Bool) (o : Option ℕ) (h : ℕ) → (if a && b then o else None) ≡ Some h
    → (a ≡ true) × (b ≡ true) × (o ≡ Some h)
sought_parts true true o h is = (refl, refl, is)
sought_parts true false o h is = absurd (none_is h is)
sought_parts false b o h is = absurd (none_is h is)

-- one in whose school the candidate has a bed does not want one
no_bed_in : (s : State) (c h : ℕ) (school : Option ℕ) → is_school school h ≡ true → not (holds_bed s c h) ≡ true
    → not (holds_bed_in s c school) ≡ true
no_bed_in s c h None has t = absurd (false≢true has)
no_bed_in s c h (Some g) has t =
    let P = λ (n : ℕ). not (holds_bed s c n) ≡ true in
    subst P (sym (eqb-true g h has)) t

left_parts : (a b : Bool) → (a && not b) ≡ false → (a ≡ false) ⊎ (b ≡ true)
left_parts true true t = inr refl
left_parts true false t = inl t
left_parts false b t = inl refl

-- a rank is given a bed, as the call says it
pub record Houses (beds rank : ℕ) (old ys : List Rung) (o : Option ℕ) : Type 0 where
  pub stays : IfNone o (ys ≡ noted rank old)
  pub few : IfNone o (length (housed_in ys) ≤ beds)
  pub gives_up : IfSome o (GivesUp (noted rank old) ys)
  pub many : IfSome o (λ m. beds < length (housed_in (noted rank old)))

-- what the call reads
houses_read : (beds rank own h : ℕ) (old ys : List Rung) (o : Option ℕ) (housed : List (List Rung))
    → h < length housed → rank ≡ own → old ≡ get_or housed h old → Houses beds rank old ys o
    → Houses beds own (get_or housed h []) ys o
houses_read beds rank own h old ys o housed lt is read houses =
    let P = λ (n : ℕ). Houses beds n old ys o in
    let Q = λ (xs : List Rung). Houses beds own xs ys o in
    subst Q (get_or_read housed h old lt read []) (subst P is houses)

-- where its rank is read of the wish
pub houses_sought : (links : LinksRow) (s : State) (k h beds : ℕ) (w : Wish) (old ys : List Rung) (o : Option ℕ)
    (housed : List (List Rung)) → s ≡ links.state → w ≡ wish_in s.dossier.wishes k → h < length housed
    → old ≡ get_or housed h old → Houses beds w.board_rank old ys o
    → Houses beds (wish_in links.state.dossier.wishes k).board_rank (get_or housed h []) ys o
houses_sought links s k h beds w old ys o housed state wish lt read houses =
    let own = (wish_in links.state.dossier.wishes k).board_rank in
    let is : w.board_rank ≡ own =
    ap (λ (v : Wish). v.board_rank) wish ∙ ap (λ (t : State). (wish_in t.dossier.wishes k).board_rank) state in
    houses_read beds w.board_rank own h old ys o housed lt is read houses

module _ (links : LinksRow) (bars free : List ℕ) (rows : List (List RowWish)) (left : ℕ → Bool)
    (right : IsRound links bars free rows) (w : ℕ) (lt : w < length links.state.dossier.wishes) where
  abbrev s : State
  s = links.state

  abbrev wish : Wish
  wish = wish_in s.dossier.wishes w

  abbrev mark : Mark
  mark = mark_in s.marks w

  abbrev p : ℕ → Bool
  p = is_proposed_at links

  abbrev other : ℕ → Bool
  other k = left k && not (nat_eq k w)

  entry : slice_get (entries s) w ≡ Some (wish, mark)
  entry = entry_there s.dossier.wishes s.marks w right.marks_each lt

  -- the wish in a row
  own_rank : (g : ℕ) (row : List RowWish) → slice_get rows g ≡ Some row → (k : ℕ) (x : RowWish)
      → slice_get row k ≡ Some x → x.wish ≡ w → (x.rank ≡ wish.board_rank) × (has_school wish g ≡ true)
  own_rank g row at k x there is =
      let (v, m, waits) = (right.rows_are g row at).each k x there in
      let P = λ (n : ℕ). slice_get (entries s) n ≡ Some (v, m) in
      let same : Some (v, m) ≡ Some (wish, mark) = sym (subst P is waits.waits.here) ∙ entry in
      let wish_same : v ≡ wish = ap (λ (o : Option (Wish × Mark)). (unwrap_or o (v, m)).0) same in (
        waits.rank ∙ ap (λ (u : Wish). u.board_rank) wish_same,
        ap (λ (u : Wish). has_school u g) (sym wish_same) ∙ waits.has,
      )

  -- a wish in a row that is proposed seeks a bed there
  seeks : (g : ℕ) (row : List RowWish) → slice_get rows g ≡ Some row → (k : ℕ) (x : RowWish)
      → slice_get row k ≡ Some x → x.wish ≡ w → p x.wish ≡ true → bed_sought links w ≡ wish.school
  seeks g row at k x there is pass =
      let (v, m, waits) = (right.rows_are g row at).each k x there in
      let P = λ (n : ℕ). slice_get (entries s) n ≡ Some (v, m) in
      let same : Some (v, m) ≡ Some (wish, mark) = sym (subst P is waits.waits.here) ∙ entry in
      let wish_same : v ≡ wish = ap (λ (o : Option (Wish × Mark)). (unwrap_or o (v, m)).0) same in
      let Q = λ (u : Wish). not (holds_bed_in s u.candidate u.school) ≡ true in
      let no_bed : not (has_bed_there s w) ≡ true =
      subst Q wish_same (no_bed_in s v.candidate g v.school waits.has waits.no_bed) in
      let open_now : get_or links.opens w false ≡ true =
      ap (λ n. get_or links.opens n false) (sym is) ∙ (rows_open links bars free rows right g row at k x there).flag in
      let passes : p w ≡ true = ap p (sym is) ∙ pass in
      ap (λ b. if b then wish.school else None)
      (and_from (wants_bed s links.opens w) (p w)
      (and_from (get_or links.opens w false) (not (has_bed_there s w)) open_now no_bed) passes)

  module _ (overs : List (Option ℕ)) (housed : List (List Rung))
      (all : AllHoused links left rows free overs housed) where
    -- a wish that seeks no bed changes nothing
    pub nothing_sought : bed_sought links w ≡ None → AllHoused links other rows free overs housed
    nothing_sought none = record {
      one_each = all.one_each;
      answer_each = all.answer_each;
      each = λ g row at.
          let are = all.each g row at in
          record {
            noted_are = left_others p row (get_or overs g None) (get_or housed g []) left other are.noted_are
                (λ k x there pass unmarked some. elim (left_parts (left x.wish) (nat_eq x.wish w) unmarked) [
                  | inl before ↦ before
                  | inr here ↦
                      let is = eqb-true x.wish w here in
                      let has = (own_rank g row at k x there is).1 in
                      let bare : wish.school ≡ None = sym (seeks g row at k x there is pass) ∙ none in
                      absurd (false≢true (ap (λ (o : Option ℕ). is_school o g) (sym bare) ∙ has))
                ]);
            few = are.few;
            demanded = are.demanded;
            full = are.full;
          };
    }

    module _ (h : ℕ) (sought : bed_sought links w ≡ Some h) (o : Option ℕ) (ys : List Rung)
        (houses : Houses (slice_index free h) wish.board_rank (get_or housed h []) ys o) where
      parts : (wants_bed s links.opens w ≡ true) × (p w ≡ true) × (wish.school ≡ Some h)
      parts = sought_parts (wants_bed s links.opens w) (p w) wish.school h sought

      has : has_school wish h ≡ true
      has = ap (λ (g : Option ℕ). is_school g h) parts.2 ∙ eq-eqb h h refl

      no_bed : not (holds_bed s wish.candidate h) ≡ true
      no_bed =
          let P = λ (g : Option ℕ). not (holds_bed_in s wish.candidate g) ≡ true in
          subst P parts.2 (and_parts (get_or links.opens w false) (not (has_bed_there s w)) parts.0).1

      proposed : is_proposed s links.orders bars wish mark ≡ true
      proposed = sym (proposed_entry links bars right.opens_are w (wish, mark) entry) ∙ parts.1

      demands : 0 < wish.board_rank → demands_at s links.orders bars h wish.board_rank (wish, mark) ≡ true
      demands some =
          rw (has, no_bed, proposed, eq-eqb wish.board_rank wish.board_rank refl, lt-ltb 0 wish.board_rank some) refl

      own_demanded : (row : List RowWish) → slice_get rows h ≡ Some row → 0 < wish.board_rank
          → is_among wish.board_rank (counted p 0 row) ≡ true
      own_demanded row at some =
          ap (is_among wish.board_rank) (ranks_told links bars h row (right.rows_are h row at) right.opens_are)
          ∙ demanded s links.orders bars h wish.board_rank
          ∙ any_at (demands_at s links.orders bars h wish.board_rank) (entries s) w (wish, mark) entry (demands some)

      -- one that does houses its rank
      pub housed_sought : h < length housed → (new : List (Option ℕ)) → length new ≡ length overs
          → get_or new h None ≡ option_or o (get_or overs h None)
          → ((g : ℕ) → g ≢ h → get_or new g None ≡ get_or overs g None)
          → AllHoused links other rows free new (set housed h ys)
      housed_sought h_lt new long here others = record {
        one_each = length-set housed h ys ∙ all.one_each;
        answer_each = long ∙ all.answer_each;
        each = λ g row at. elim (cases_eq g h) [
          | inl same ↦
              let P = λ (n : ℕ). slice_get rows n ≡ Some row in
              let own = subst P same at in
              rw (same, here, get_or-set_same housed h ys [] h_lt)
              (housed_by p left other row (slice_index free h) (get_or overs h None) (get_or housed h [])
              wish.board_rank (all.each h row own) (own_demanded row own)
              (λ k x there pass unmarked some. elim (left_parts (left x.wish) (nat_eq x.wish w) unmarked) [
                | inl before ↦ inl before
                | inr now ↦ inr (own_rank h row own k x there (eqb-true x.wish w now)).0
              ]) o ys houses.stays houses.few houses.gives_up houses.many)
          | inr differ ↦
              let are = all.each g row at in
              rw (others g differ, get_or-set_other housed h g ys [] differ) (record {
                noted_are = left_others p row (get_or overs g None) (get_or housed g []) left other are.noted_are
                    (λ k x there pass unmarked some. elim (left_parts (left x.wish) (nat_eq x.wish w) unmarked) [
                      | inl before ↦ before
                      | inr now ↦
                          let its = (own_rank g row at k x there (eqb-true x.wish w now)).1 in
                          let school : is_school (Some h) g ≡ true =
                          ap (λ (v : Option ℕ). is_school v g) (sym parts.2) ∙ its in
                          absurd (differ (sym (eqb-true h g school)))
                    ]);
                few = are.few;
                demanded = are.demanded;
                full = are.full;
              })
        ];
      }

      some_put : (v over : Option ℕ) → is_some v ≡ true → v ≡ option_or v over
      some_put None over t = absurd (false≢true t)
      some_put (Some m) over t = refl

      none_put : (v over : Option ℕ) → is_some v ≡ false → over ≡ option_or v over
      none_put None over t = refl
      none_put (Some m) over t = absurd (false≢true (sym t))

      pub housed_put : h < length housed → h < length overs → is_some o ≡ true → (new : List (Option ℕ))
          → new ≡ set overs h o → AllHoused links other rows free new (set housed h ys)
      housed_put h_lt lt_over some new new_is =
          housed_sought h_lt new (ap (λ (os : List (Option ℕ)). length os) new_is ∙ length-set overs h o)
          (ap (λ (os : List (Option ℕ)). get_or os h None) new_is ∙ get_or-set_same overs h o None lt_over
          ∙ some_put o (get_or overs h None) some)
          (λ g differ. ap (λ (os : List (Option ℕ)). get_or os g None) new_is
          ∙ get_or-set_other overs h g o None differ)

      pub housed_quiet : h < length housed → is_some o ≡ false
          → AllHoused links other rows free overs (set housed h ys)
      housed_quiet h_lt none =
          housed_sought h_lt overs refl (none_put o (get_or overs h None) none) (λ g differ. refl)
