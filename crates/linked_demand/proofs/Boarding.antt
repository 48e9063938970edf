-- What a list of boarders tells.
use Rattle.std.proofs.Common.{ℕ, suc, ◌<◌, ◌≡◌, true, false, List, [], ◌∷◌, filter, length, get_or, inl}
use Rattle.std.proofs.Common.{inr, refl, sym, ◌∙◌, ap, arith, nat_eq, nat_le, not, Option, Some, drop, subst, take}
use Rattle.std.proofs.Common.{unwrap_or}
use Rattle.std.specs.Prelude.{slice_get, All}
use Rattle.std.specs.List.Sorted.{IsNonDecreasingBy, IsPermutation, IsStableByKey}
use Rattle.std.specs.Ordering.{nat_cmp}
use Rattle.std.proofs.lemmas.Bool.{cases_Bool, eq-eqb, eqb-true}
use Rattle.std.proofs.lemmas.List.{get_or-map, length-map}
use Rattle.std.proofs.lemmas.List.Sorted.{All-permutation}
use Rattle.std.proofs.lemmas.Option.{slice_get_within, unwrap_or-slice_get}
use Rattle.std.proofs.lemmas.Map.Views.{any-filter_same}
use Rattle.admit_core.specs.DossierRows.{DossierRows}
use Rattle.admit_core.specs.Lists.{is_among}
use Rattle.admit_core.specs.State.{is_school}
use Rattle.day_state.proofs.Along.{among-filter}
use Rattle.day_state.proofs.Ordering.{stable_own}
use Rattle.day_state.specs.declared.numbers.BundleNumber.TheVariants.{NoSite}
use Rattle.linked_demand.specs.declared.boarders.Boarder.{Boarder}
use Rattle.linked_demand.specs.declared.rows.RowWish.{RowWish}
use Rattle.linked_demand.specs.Boarders.{boards_in, rank_at, wishes_of, AreBoarders, AreByPlace, AreByRank, IsBoarder}
use Rattle.linked_demand.specs.Rows.{IsEnd}
use Rattle.linked_demand.proofs.Passing.{front_passes}
use Rattle.linked_demand.specs.Seats.{boards_at, boarders_of}

-- the wish of the one at a place
pub place_of : (bs : List Boarder) (i : ℕ) (e : Boarder) → i < length bs
    → get_or (wishes_of bs) i 0 ≡ (get_or bs i e).wish
place_of bs i e lt = get_or-map (λ (b : Boarder). b.wish) bs i e 0 lt

-- a boarder stands among those of their school alone
pub in_own_school : (d : DossierRows) (b : Boarder) → IsBoarder d b → (k : ℕ) → k ≡ b.wish → (h : ℕ)
    → nat_eq b.school h ≡ boards_in d h k
in_own_school d b right k k_is h =
    ap (λ (o : Option ℕ). is_school o h) (sym right.school) ∙ ap (λ (j : ℕ). boards_in d h j) (sym k_is)

-- all wishes with a school are there where they are in order by rank
pub all_by_rank : (d : DossierRows) (places : List ℕ) → AreByRank d places → (k : ℕ) → k < length d.wishes
    → is_among k places ≡ boards_at d k
all_by_rank d places by_rank k lt =
    let t = λ (j : ℕ). nat_eq (rank_at d j) (rank_at d k) in
    let own : (ks : List ℕ) → is_among k (filter t ks) ≡ is_among k ks = λ ks.
    any-filter_same (nat_eq k) t true
    (λ j same. ap t (sym (eqb-true k j same)) ∙ eq-eqb (rank_at d k) (rank_at d k) refl) ks in
    sym (own places) ∙ ap (is_among k) (by_rank.own (rank_at d k)) ∙ own (boarders_of d)
    ∙ among-filter (boards_at d) k (length d.wishes) lt

abbrev no_boarder : Boarder
no_boarder = record { wish = 0; school = 0; rank = 0; programme = 0; bundle = NoSite; shared = false }

pub places_within : (d : DossierRows) (bs : List Boarder) → All (IsBoarder d) bs
    → All (λ k. k < length d.wishes) (wishes_of bs)
places_within d bs each i e lt =
    let b_in : i < length bs = omega (arith, lt, length-map bs (λ (b : Boarder). b.wish)) in
    let P = λ (n : ℕ). n < length d.wishes in
    subst P (sym (get_or-map (λ (b : Boarder). b.wish) bs i no_boarder e b_in)) (each i no_boarder b_in).within

-- those of one rank, by what is kept of them and by their wishes
of_rank : (d : DossierRows) (bs : List Boarder) → All (IsBoarder d) bs → (r : ℕ)
    → filter (λ k. nat_eq (rank_at d k) r) (wishes_of bs) ≡ wishes_of (filter (λ b. nat_eq b.rank r) bs)
of_rank d [] each r = refl
of_rank d (b ∷ bs) each r =
    let rank : b.rank ≡ rank_at d b.wish = (each 0 b (omega arith)).rank in
    let later = of_rank d bs (λ i e lt. each (suc i) e (omega (arith, lt))) r in
    elim (cases_Bool (nat_eq b.rank r)) [
      | inl kept ↦ rw (kept, ap (λ n. nat_eq n r) (sym rank) ∙ kept) (ap (λ (ks : List ℕ). b.wish ∷ ks) later)
      | inr dropped ↦ rw (dropped, ap (λ n. nat_eq n r) (sym rank) ∙ dropped) later
    ]

-- put in order by rank
pub boarders_sorted : (d : DossierRows) (old new : List Boarder) → AreByPlace d old → IsPermutation old new
    → IsNonDecreasingBy (λ b. b.rank) new → IsStableByKey (λ b. b.rank) nat_cmp old new → AreBoarders d new
boarders_sorted d old new by_place moved rises stable =
    let each : All (IsBoarder d) new = All-permutation (IsBoarder d) old new moved by_place.each in
    let ranked : (k e : ℕ) → k < length new
    → rank_at d (get_or (wishes_of new) k e) ≡ (get_or new k no_boarder).rank = λ k e lt.
    ap (rank_at d) (get_or-map (λ (b : Boarder). b.wish) new k no_boarder e lt)
    ∙ sym (each k no_boarder lt).rank in
    record {
      wishes = record {
        rises = λ j k e le lt.
            let k_in : k < length new = omega (arith, lt, length-map new (λ (b : Boarder). b.wish)) in
            omega (arith, rises j k no_boarder le k_in, ranked j e (omega (arith, le, k_in)), ranked k e k_in);
        own = λ r.
            of_rank d new each r
            ∙ ap wishes_of (stable_own (λ (b : Boarder). b.rank) old new moved stable r)
            ∙ sym (of_rank d old by_place.each r)
            ∙ ap (filter (λ k. nat_eq (rank_at d k) r)) by_place.wishes;
      };
      each = each;
    }

-- what the place of a bar in the order by rank says
pub front_of_end : (bar : ℕ) (own : List RowWish) (end : ℕ) → IsEnd bar own end
    → (take end own ≡ filter (λ x. nat_le x.rank bar) own)
    × (drop end own ≡ filter (λ x. not (nat_le x.rank bar)) own)
front_of_end bar own end is =
    let low = λ (x : RowWish). nat_le x.rank bar in
    let read : (k : ℕ) (x : RowWish) → slice_get own k ≡ Some x → get_or own k x ≡ x =
    λ k x at. sym (unwrap_or-slice_get own k x) ∙ ap (λ (o : Option RowWish). unwrap_or o x) at in
    front_passes low own end
    (λ k x lt at. ap low (sym (read k x at)) ∙ is.point.0 k x (omega arith) lt)
    (λ k x le at. ap low (sym (read k x at)) ∙ is.point.1 k x le (slice_get_within own k x at))
