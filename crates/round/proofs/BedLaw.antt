-- As many candidates become live in a school as there are demanded ranks.
use Rattle.std.proofs.Common.{ℕ, ◌≤◌, ◌<◌, ◌≡◌, Bool, true, false, not, ◌&&◌, List, [], ◌∷◌, map, length, get_or, inl}
use Rattle.std.proofs.Common.{inr, refl, sym, ◌∙◌, ap, arith, filter, find, nat_eq, nat_lt, suc, Option, Some, None}
use Rattle.std.specs.Prelude.{◌↔◌, IsSome, option_map, unwrap_or}
use Rattle.std.specs.List.{list_any, IsDistinct}
use Rattle.std.proofs.lemmas.Bool.{cases_Bool, cases_order, and_parts, and_from, not-true, eqb-true, eq-eqb, lt-ltb}
use Rattle.std.proofs.lemmas.Bool.{false≢true}
use Rattle.std.proofs.lemmas.List.{length-map, get_or-map, get_or_default}
use Rattle.std.proofs.lemmas.List.Folds.{Any-from_list_any, list_any_at}
use Rattle.std.proofs.lemmas.Cmp.{nat_eq_equiv}
use Rattle.std.proofs.lemmas.Map.Made.{length-le_from_is_member}
use Rattle.admit_core.specs.declared.dossier.Wish.{Wish}
use Rattle.admit_core.specs.declared.state.Mark.{Mark}
use Rattle.admit_core.specs.declared.state.Stamp.{Stamp}
use Rattle.admit_core.specs.declared.ranking.CallOrder.{CallOrder}
use Rattle.admit_core.specs.Lists.{is_among}
use Rattle.admit_core.specs.DossierRows.{candidates_of}
use Rattle.admit_core.specs.Validity.{IsValid}
use Rattle.admit_core.specs.State.{State, entries, is_school, has_school, holds_bed, bed_holders}
use Rattle.admit_core.specs.Proposals.{is_proposed, demands_bed, demanded_ranks}
use Rattle.admit_core.specs.Days.{offered}
use Rattle.admit_core.proofs.DemandLaws.{demanded}
use Rattle.admit_core.proofs.Dossiers.{ranks_of_valid}
use Rattle.admit_core.proofs.Tests.{among-map, increasing-ascending}
use Rattle.admit_core.proofs.Counting.{distinct_kept}
use Rattle.admit_core.proofs.FullBeds.{rising_distinct}
use Rattle.admit_core.proofs.ClosedEvenings.{among_filter}
use Rattle.admit_core.proofs.Holders.{among_distinct}
use Rattle.round.specs.PassLaws.{new_bed_holders}
use Rattle.round.proofs.Members.{among_filtered, distinct_once}
use Rattle.round.proofs.NewHolders.{MakesLive, becomes_live, is_live_after, entry_wish}

-- what is found first is as all that might be found
found_value : {X : Type 0} (f : X → ℕ) (test : X → Bool) (v : ℕ) (xs : List X) → list_any test xs ≡ true
    → ((k : ℕ) (x : X) → k < length xs → get_or xs k x ≡ x → test x ≡ true → f x ≡ v)
    → unwrap_or (option_map f (find test xs)) 0 ≡ v
found_value f test v [] some each = absurd (cc)
found_value f test v (x ∷ xs) some each =
    elim (cases_Bool (test x)) [
      | inl here ↦ rw here (each 0 x (omega arith) refl here)
      | inr later ↦ rw later (found_value f test v xs (rw later at some)
          (λ k y lt is passes. each (suc k) y (omega arith) is passes))
    ]

-- two wishes with one school
pub one_school : (a b : Option ℕ) (h : ℕ) → is_school a h ≡ true → is_school b h ≡ true → IsSome a × (a ≡ b)
one_school None b h is also = absurd (false≢true is)
one_school (Some g) None h is also = absurd (false≢true also)
one_school (Some g) (Some f) h is also = (refl, ap (λ (n : ℕ). Some n) (eqb-true g h is ∙ sym (eqb-true f h also)))

-- what it takes to demand a bed
pub record DemandsBed (s : State) (orders : List CallOrder) (bars : List ℕ) (h : ℕ) (w : Wish) (m : Mark) : Type 0 where
  pub has : has_school w h ≡ true
  pub no_bed : not (holds_bed s w.candidate h) ≡ true
  pub offers : is_proposed s orders bars w m ≡ true

pub parts_of_demand : (s : State) (orders : List CallOrder) (bars : List ℕ) (h : ℕ) (w : Wish) (m : Mark)
    → demands_bed s orders bars h w m ≡ true → DemandsBed s orders bars h w m
parts_of_demand s orders bars h w m t =
    let outer = and_parts (has_school w h && nat_lt 0 w.board_rank && not (holds_bed s w.candidate h))
    (is_proposed s orders bars w m) t in
    let middle = and_parts (has_school w h && nat_lt 0 w.board_rank) (not (holds_bed s w.candidate h)) outer.0 in
    record {
      has = (and_parts (has_school w h) (nat_lt 0 w.board_rank) middle.0).0;
      no_bed = middle.1;
      offers = outer.1;
    }

module _ (s : State) (valid : IsValid s.dossier) (h : ℕ) where
  -- in a school, a rank tells its candidate, and a candidate their rank
  ranks_tell : (k j : ℕ) (e f : Wish × Mark) → k < length (entries s) → get_or (entries s) k e ≡ e
      → j < length (entries s) → get_or (entries s) j f ≡ f
      → has_school e.0 h ≡ true → has_school f.0 h ≡ true
      → (e.0.board_rank ≡ f.0.board_rank) ↔ (e.0.candidate ≡ f.0.candidate)
  ranks_tell k j e f k_lt e_is j_lt f_is e_has f_has =
      let ws = s.dossier.wishes in
      let v = e.0 in
      let w = f.0 in
      let at_k = entry_wish s k e k_lt e_is in
      let at_j = entry_wish s j f j_lt f_is in
      let here : get_or ws k w ≡ v = get_or_default ws k w v at_k.0 ∙ at_k.1 in
      let there : get_or ws j v ≡ w = get_or_default ws j v w at_j.0 ∙ at_j.1 in
      elim (cases_order k j) [
        | inl equal ↦
            let same : v ≡ w = sym at_k.1 ∙ ap (λ (i : ℕ). get_or ws i v) equal ∙ there in
            (λ _. ap (λ (x : Wish). x.candidate) same, λ _. ap (λ (x : Wish). x.board_rank) same)
        | inr differ ↦ elim differ [
          | inl below ↦
              let apart = rw (at_k.1, there) at (valid.wishes_apart k j v below at_j.0) in
              let school = one_school v.school w.school h e_has f_has in
              apart.ranks school.0 school.1
          | inr above ↦
              let apart = rw (at_j.1, here) at (valid.wishes_apart j k w above at_k.0) in
              let school = one_school w.school v.school h f_has e_has in
              let both = apart.ranks school.0 school.1 in
              (λ e. sym (both.0 (sym e)), λ e. sym (both.1 (sym e)))
        ]
      ]

module _ (s : State) (orders : List CallOrder) (bars : List ℕ) (stamp : Stamp) (valid : IsValid s.dossier) (h : ℕ) where
  abbrev boards : Wish → Bool
  boards w = has_school w h

  abbrev demands_at : ℕ → Wish × Mark → Bool
  demands_at r e = demands_bed s orders bars h e.0 e.1 && nat_eq r e.0.board_rank

  -- the candidate who demands a rank, and the rank of a candidate
  abbrev who : ℕ → ℕ
  who r = unwrap_or (option_map (λ (e : Wish × Mark). e.0.candidate) (find (demands_at r) (entries s))) 0

  abbrev rank_in : ℕ → ℕ
  rank_in c = unwrap_or (option_map (λ (e : Wish × Mark). e.0.board_rank)
      (find (λ (e : Wish × Mark). has_school e.0 h && nat_eq e.0.candidate c) (entries s))) 0

  -- who is new in the school
  new_bed : (c : ℕ) → is_among c (new_bed_holders s (offered s orders bars stamp) h) ≡ true
      → (holds_bed (offered s orders bars stamp) c h ≡ true) × (holds_bed s c h ≡ false)
  new_bed c among =
      let outer = among_filtered (λ x. not (holds_bed s x h)) c (bed_holders (offered s orders bars stamp) h) among in
      let inner = among_filtered (λ x. holds_bed (offered s orders bars stamp) x h) c
      (candidates_of s.dossier) outer.0 in
      (inner.1, not-true (holds_bed s c h) outer.1)

  -- such a candidate demands a bed
  new_demands : (c : ℕ) → (makes : MakesLive s orders bars boards c) → holds_bed s c h ≡ false
      → demands_at makes.entry.0.board_rank makes.entry ≡ true
  new_demands c makes before =
      let e = makes.entry in
      let w = e.0 in
      let listed = entry_wish s makes.place e makes.within makes.here in
      let ranked : 1 ≤ w.board_rank = rw listed.1 at (ranks_of_valid s.dossier valid makes.place w listed.0) h
      makes.passes in
      let own : w.candidate ≡ c = eqb-true w.candidate c makes.own in
      let free : not (holds_bed s w.candidate h) ≡ true = rw (own, before) refl in
      rw (makes.passes, lt-ltb 0 w.board_rank (omega arith), free, makes.offers, eq-eqb w.board_rank w.board_rank refl)
      refl

  new_are_demanded : (c : ℕ) → is_among c (new_bed_holders s (offered s orders bars stamp) h) ≡ true
      → is_among c (map who (demanded_ranks s orders bars h)) ≡ true
  new_are_demanded c among =
      let is_new = new_bed c among in
      let makes = becomes_live s orders bars stamp boards c is_new.0 is_new.1 in
      let e = makes.entry in
      let r = e.0.board_rank in
      let asks = new_demands c makes is_new.1 in
      let there : demands_at r (get_or (entries s) makes.place e) ≡ true = rw makes.here asks in
      let some = list_any_at (demands_at r) (entries s) makes.place e makes.within there in
      let is_c : who r ≡ c =
      found_value (λ (x : Wish × Mark). x.0.candidate) (demands_at r) c (entries s) some
      (λ k x lt at passes.
      let parts = and_parts (demands_bed s orders bars h x.0 x.1) (nat_eq r x.0.board_rank) passes in
      let has = (parts_of_demand s orders bars h x.0 x.1 parts.0).has in
      (ranks_tell s valid h k makes.place x e lt at makes.within makes.here has makes.passes).0
      (sym (eqb-true r x.0.board_rank parts.1)) ∙ eqb-true e.0.candidate c makes.own) in
      rw is_c at (among-map who r (demanded_ranks s orders bars h) (demanded s orders bars h r ∙ some))

  -- who demands a rank is new in the school
  demanded_are_new : (r : ℕ) → is_among r (demanded_ranks s orders bars h) ≡ true
      → is_among r (map rank_in (new_bed_holders s (offered s orders bars stamp) h)) ≡ true
  demanded_are_new r among =
      let (k, e, within, here, both) = Any-from_list_any (demands_at r) (entries s)
      (sym (demanded s orders bars h r) ∙ among) in
      let w = e.0 in
      let c : ℕ = w.candidate in
      let outer = and_parts (demands_bed s orders bars h w e.1) (nat_eq r w.board_rank) both in
      let parts = parts_of_demand s orders bars h w e.1 outer.0 in
      let makes : MakesLive s orders bars boards c =
      record {
        place = k;
        entry = e;
        within = within;
        here = here;
        offers = parts.offers;
        own = eq-eqb c c refl;
        passes = parts.has;
      } in
      let now = is_live_after s orders bars stamp boards c makes in
      let listed = entry_wish s k e within here in
      let candidates = map (λ (x : Wish). x.candidate) s.dossier.wishes in
      let named : get_or candidates k 0 ≡ c = get_or-map (λ (x : Wish). x.candidate) s.dossier.wishes k w 0 listed.0
      ∙ ap (λ (x : Wish). x.candidate) listed.1 in
      let stands : is_among c candidates ≡ true =
      list_any_at (nat_eq c) candidates k 0
      (omega (arith, listed.0, length-map s.dossier.wishes (λ (x : Wish). x.candidate)))
      (eq-eqb c (get_or candidates k 0) (sym named)) in
      let lives = among_filter (λ x. holds_bed (offered s orders bars stamp) x h) c (candidates_of s.dossier)
      (among_distinct c candidates ∙ stands) now in
      let is_new = among_filter (λ x. not (holds_bed s x h)) c
      (bed_holders (offered s orders bars stamp) h) lives parts.no_bed in
      let own = λ (x : Wish × Mark). has_school x.0 h && nat_eq x.0.candidate c in
      let there : own (get_or (entries s) k e) ≡ true =
      rw here (and_from (has_school w h) (nat_eq c c) parts.has (eq-eqb c c refl)) in
      let is_r : rank_in c ≡ r =
      found_value (λ (x : Wish × Mark). x.0.board_rank) own r (entries s) (list_any_at own (entries s) k e within there)
      (λ j x lt at passes.
      let found = and_parts (has_school x.0 h) (nat_eq x.0.candidate c) passes in
      (ranks_tell s valid h j k x e lt at within here found.0 parts.has).1 (eqb-true x.0.candidate c found.1)
      ∙ sym (eqb-true r w.board_rank outer.1)) in
      rw is_r at (among-map rank_in c (new_bed_holders s (offered s orders bars stamp) h) is_new)

  -- THE LAW: as many become live as there are demanded ranks
  pub length-new_bed_holders : length (new_bed_holders s (offered s orders bars stamp) h)
      ≡ length (demanded_ranks s orders bars h)
  length-new_bed_holders =
      let new = offered s orders bars stamp in
      let holders = new_bed_holders s new h in
      let ranks = demanded_ranks s orders bars h in
      let once : IsDistinct nat_eq holders =
      distinct_kept (λ c. not (holds_bed s c h)) (bed_holders new h)
      (distinct_kept (λ c. holds_bed new c h) (candidates_of s.dossier)
      (distinct_once (map (λ w. w.candidate) s.dossier.wishes))) in
      let most = length-le_from_is_member nat_eq_equiv holders (map who ranks) once new_are_demanded in
      let rises = rising_distinct ranks
      (increasing-ascending (map (λ (e : Wish × Mark). e.0.board_rank)
      (filter (λ (e : Wish × Mark). demands_bed s orders bars h e.0 e.1) (entries s)))) in
      let least = length-le_from_is_member nat_eq_equiv ranks (map rank_in holders) rises demanded_are_new in
      omega (arith, most, least, length-map ranks who, length-map holders rank_in)
