-- Of a candidate's wishes one at most comes in as accepted.
use Rattle.std.proofs.Common.{◌≡◌, ℕ, ◌<◌, Bool, true, nat_eq, List, [], ◌∷◌, length, map, zip, find, get_or}
use Rattle.std.proofs.Common.{option_map, unwrap_or, Option, Some, None, refl, sym, ap, ◌∙◌, subst, arith, true≢false}
use Rattle.std.proofs.Common.{inl, inr, ◌⊎◌, AllPairs}
use Rattle.std.proofs.lemmas.List.Folds.{list_any_at}
use Rattle.std.proofs.lemmas.Bool.{and_from}
use Rattle.admit_core.specs.declared.state.Status.{Status}
use Rattle.admit_core.specs.declared.state.Status.TheVariants.{Waiting, Accepted}
use Rattle.admit_core.specs.declared.tables.StateRow.{StateRow}
use Rattle.admit_core.specs.declared.tables.WishRow.{WishRow}
use Rattle.admit_core.specs.declared.tables.Tables.{Tables}
use Rattle.admit_core.specs.Relations.{is_accepted, same_candidate, candidate_with}
use Rattle.admit_core.specs.Standing.{wish_of_row, status_of_row, dossier_of}
use Rattle.admit_core.specs.Validity.{NotBothAccepted}
use Rattle.dossier_check.proofs.NoFault.{HasNoFault}
use Rattle.dossier_check.proofs.Pairs.{all_pairs_map, same_at, order}
use Rattle.dossier_check.proofs.Places.{IsFound, found, any_some, nat_eq_sound, nat_eq_same, nat_eq_self}
use Rattle.dossier_check.proofs.RowFacts.{wish_ids_differ, accepted_apart}

zip-map : {X Y Z : Type 0} (f : X → Y) (g : X → Z) (xs : List X)
    → zip (map f xs) (map g xs) ≡ map {A = X} {B = Y × Z} (λ x. (f x, g x)) xs
zip-map f g [] = refl
zip-map f g (x ∷ xs) = rw (zip-map f g xs) refl

-- a status other than Waiting is that of a row
named_accepted : (o : Option StateRow) → unwrap_or (option_map (λ s. s.status) o) Waiting ≡ Accepted
    → (s : StateRow) × (o ≡ Some s) × (s.status ≡ Accepted)
named_accepted None e = cc
named_accepted (Some s) e = (s, refl, e)

accepted_is : (s : Status) → s ≡ Accepted → is_accepted s ≡ true
accepted_is s e = ap is_accepted e

module _ (t : Tables) (fine : HasNoFault t) where
  -- the candidate of a wish by its id
  own_candidate : (k : ℕ) (d : WishRow) → k < length t.wishes
      → candidate_with t (get_or t.wishes k d).id ≡ Some (get_or t.wishes k d).candidate
  own_candidate k d lt =
      let w : WishRow = get_or t.wishes k d in
      let test : WishRow → Bool = λ x. nat_eq w.id x.id in
      let (x, is) = any_some test t.wishes (list_any_at test t.wishes k d lt (nat_eq_self w.id)) in
      let at : IsFound test t.wishes x = found test t.wishes x is in
      let here : get_or t.wishes at.place d ≡ x = at.is d in
      let id : w.id ≡ x.id = nat_eq_sound w.id x.id at.passes in
      let place : at.place ≡ k =
      same_at (λ row r. nat_eq row.id r.id) t.wishes (wish_ids_differ t fine) at.place k d at.within lt
      (rw here (nat_eq_same x.id w.id (sym id))) (rw here (nat_eq_same w.id x.id id)) in
      let row : x ≡ w = sym here ∙ ap (λ i. get_or t.wishes i d) place in
      ap (option_map (λ w. w.candidate)) is ∙ ap (λ r. Some r.candidate) row

  -- two accepted rows are of wishes of two candidates
  two_rows : (a b : ℕ) (d : StateRow) (c : ℕ) → a < b → b < length t.state → (get_or t.state a d).status ≡ Accepted
      → (get_or t.state b d).status ≡ Accepted
      → candidate_with t (get_or t.state a d).wish ≡ Some c → candidate_with t (get_or t.state b d).wish ≡ Some c → ⊥
  two_rows a b d c lt in_b at_a at_b of_a of_b =
      let same : same_candidate (candidate_with t (get_or t.state b d).wish)
      (candidate_with t (get_or t.state a d).wish) ≡ true = rw (of_a, of_b) (nat_eq_self c) in
      true≢false (sym (and_from _ _ (accepted_is (get_or t.state a d).status at_a) same)
      ∙ accepted_apart t fine a b d lt in_b (accepted_is (get_or t.state b d).status at_b))

  one_row : (m n : ℕ) (d : StateRow) (c : ℕ) → m < length t.state → n < length t.state
      → (get_or t.state m d).status ≡ Accepted → (get_or t.state n d).status ≡ Accepted
      → candidate_with t (get_or t.state m d).wish ≡ Some c → candidate_with t (get_or t.state n d).wish ≡ Some c
      → m ≡ n
  one_row m n d c in_m in_n at_m at_n of_m of_n = by (order m n)
    where
      by : (m < n) ⊎ ((n < m) ⊎ (m ≡ n)) → m ≡ n
      by (inl less) = absurd (two_rows m n d c less in_n at_m at_n of_m of_n)
      by (inr (inl more)) = absurd (two_rows n m d c more in_m at_n at_m of_n of_m)
      by (inr (inr is)) = is

  not_both : (i j : ℕ) (d : WishRow) → i < j → j < length t.wishes
      → NotBothAccepted (wish_of_row t (get_or t.wishes i d), status_of_row t (get_or t.wishes i d))
      (wish_of_row t (get_or t.wishes j d), status_of_row t (get_or t.wishes j d))
  not_both i j d lt in_j candidates accepted_v accepted_w =
      let v : WishRow = get_or t.wishes i d in
      let w : WishRow = get_or t.wishes j d in
      let (a, a_is, a_accepted) = named_accepted (find (λ s. nat_eq v.id s.wish) t.state) accepted_v in
      let (b, b_is, b_accepted) = named_accepted (find (λ s. nat_eq w.id s.wish) t.state) accepted_w in
      let at_a : IsFound (λ s. nat_eq v.id s.wish) t.state a = found (λ s. nat_eq v.id s.wish) t.state a a_is in
      let at_b : IsFound (λ s. nat_eq w.id s.wish) t.state b = found (λ s. nat_eq w.id s.wish) t.state b b_is in
      let here : get_or t.state at_a.place a ≡ a = at_a.is a in
      let there : get_or t.state at_b.place a ≡ b = at_b.is a in
      let id_a : v.id ≡ a.wish = nat_eq_sound v.id a.wish at_a.passes in
      let id_b : w.id ≡ b.wish = nat_eq_sound w.id b.wish at_b.passes in
      let of_a : candidate_with t a.wish ≡ Some w.candidate =
      ap (candidate_with t) (sym id_a) ∙ own_candidate i d (omega arith) ∙ ap Some candidates in
      let of_b : candidate_with t b.wish ≡ Some w.candidate =
      ap (candidate_with t) (sym id_b) ∙ own_candidate j d in_j in
      let place : at_a.place ≡ at_b.place =
      one_row at_a.place at_b.place a w.candidate at_a.within at_b.within (rw here a_accepted) (rw there b_accepted)
      (rw here of_a) (rw there of_b) in
      let row : a ≡ b = sym here ∙ ap (λ k. get_or t.state k a) place ∙ there in
      true≢false (sym (nat_eq_same w.id v.id (id_b ∙ ap (λ s. s.wish) (sym row) ∙ sym id_a))
      ∙ wish_ids_differ t fine i j d lt in_j)

  pub one_accepted : AllPairs NotBothAccepted (zip (dossier_of t).wishes (dossier_of t).statuses)
  one_accepted =
      subst (AllPairs NotBothAccepted) (sym (zip-map (wish_of_row t) (status_of_row t) t.wishes))
      (all_pairs_map NotBothAccepted (λ w. (wish_of_row t w, status_of_row t w)) t.wishes not_both)
