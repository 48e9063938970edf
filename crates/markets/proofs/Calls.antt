-- The orders of a dossier's market, as they are made programme by programme.
use Rattle.std.proofs.Common.{ℕ, ◌+◌, ◌≤◌, ◌<◌, ◌≡◌, true, List, [], map, length, take, get_or, inl, inr, sym, ◌∙◌, ap}
use Rattle.std.proofs.Common.{Some, subst, arith, nat_eq}
use Rattle.std.specs.List.{range_with_len}
use Rattle.std.specs.List.Sorted.{IsPermutation, IsStrictlyIncreasing}
use Rattle.std.proofs.Math.ListN.{set}
use Rattle.std.proofs.lemmas.Bool.{and_parts, cases_eq, false≢true}
use Rattle.std.proofs.lemmas.List.{get_or-map, get_or-set_same, get_or-set_other, get_or_default, length-map}
use Rattle.std.proofs.lemmas.List.{length-set}
use Rattle.std.proofs.lemmas.List.{same_lists, take_all}
use Rattle.std.proofs.lemmas.List.FromFn.{length-map-range_with_len, get_or-map-range_with_len}
use Rattle.std.proofs.lemmas.List.Sorted.{list_any-IsPermutation}
use Rattle.admit_core.specs.CallOrder.{AreCallOrders}
use Rattle.admit_core.specs.DossierRows.{DossierRows, group_of}
use Rattle.admit_core.specs.Lists.{is_among}
use Rattle.admit_core.specs.Proposals.{order_of}
use Rattle.admit_core.specs.Validity.{IsValid}
use Rattle.admit_core.specs.declared.dossier.Wish.{Wish}
use Rattle.admit_core.specs.declared.ranking.CallOrder.{CallOrder}
use Rattle.linked_demand.proofs.CalledRows.{among_itself}
use Rattle.linked_demand.proofs.HousedRows.{filter_among}
use Rattle.markets.specs.Dossiers.{by_preference, counted, lists_in, named, own}
use Rattle.markets.proofs.Firsts.{among_range, range_has}
use Rattle.markets.specs.Listers.{naming}
use Rattle.markets.specs.Walks.{AreCalled, IsWalk, numbers_in, order_in}
use Rattle.markets.specs.declared.calling.Walk.{Walk}
use Rattle.markets.proofs.Called.{called_apart, lister_called, listers_rise, names_it, number}
use Rattle.markets.proofs.Walking.{last_among}

-- the numbers of those whom a programme's group calls
pub walked_at : (d : DossierRows) (orders : List CallOrder) (p : ℕ) (names : List ℕ) (w : Walk) (g : ℕ)
    → names ≡ named (counted d) → IsWalk names orders w → w.group ≡ Some g → g ≡ group_of d p
    → w.numbers.items ≡ numbers_in (named (counted d)) (order_of d orders p)
walked_at d orders p names w g names_are walk entered is =
    walk.walked g entered ∙ ap (λ (ks : List ℕ). numbers_in ks (order_in orders g)) names_are
    ∙ ap (λ h. numbers_in (named (counted d)) (order_in orders h)) is

-- who lists a programme, and where they are called
pub are_called : (d : DossierRows) → IsValid d → (orders : List CallOrder) → AreCallOrders d.groups orders → (p : ℕ)
    → (numbers places listers : List ℕ)
    → numbers ≡ numbers_in (named (counted d)) (order_of d orders p)
    → length places ≡ length (named (counted d))
    → listers ≡ naming (lists_in (counted d)) p (length (lists_in (counted d)))
    → AreCalled numbers places listers
are_called d valid orders are p numbers places listers numbers_are long listers_are =
    let ws : List Wish = counted d in
    let call : List ℕ = order_of d orders p in
    let count : ℕ = length (lists_in ws) in
    let range : List ℕ = range_with_len 0 count in
    let as_many : count ≡ length (named ws) = length-map (named ws) (λ c. by_preference (own ws c)) in
    let parts : (x : ℕ) → is_among x listers ≡ true → (x < length (named ws)) × (names_it ws p x ≡ true) =
    λ x t.
    let both = and_parts (is_among x range) (names_it ws p x)
    (sym (filter_among (names_it ws p) x range) ∙ ap (is_among x) (sym listers_are) ∙ t) in
    (omega (arith, (among_range x 0 count both.0).1, as_many), both.1) in
    let numbers_long : length numbers ≡ length call = ap length numbers_are ∙ length-map call (number ws) in
    let at : (i : ℕ) → i < length call → get_or numbers i 0 ≡ number ws (get_or call i 0) =
    λ i lt. ap (λ (ns : List ℕ). get_or ns i 0) numbers_are ∙ get_or-map (number ws) call i 0 0 lt in
    record {
      rises = subst IsStrictlyIncreasing (sym listers_are) (listers_rise (lists_in ws) p count);
      within = λ x t. omega (arith, (parts x t).0, long);
      there = λ x t. ap (is_among x) numbers_are ∙ lister_called d valid orders are p x (parts x t).1;
      once = λ i j i_lt j_lt same among.
          let i_in : i < length call = omega (arith, i_lt, numbers_long) in
          let j_in : j < length call = omega (arith, j_lt, numbers_long) in
          let below : get_or numbers i 0 < length (named ws) = (parts (get_or numbers i 0) among).0 in
          called_apart d valid orders are p i j i_in j_in (sym (at i i_in) ∙ same ∙ at j j_in)
          (omega (arith, below, at i i_in));
    }

-- each place of a list of all of them is one
pub place_within : (n i : ℕ) (ps : List ℕ) → IsPermutation (range_with_len 0 n) ps → i < length ps → get_or ps i 0 < n
place_within n i ps moved lt =
    let p : ℕ = get_or ps i 0 in
    let there : is_among p (range_with_len 0 n) ≡ true =
    list_any-IsPermutation (nat_eq p) (range_with_len 0 n) ps moved ∙ among_itself ps i lt in
    omega (arith, (among_range p 0 n there).1)

-- what is done at the places of a list
pub record AreDone (f : ℕ → List ℕ) (ps : List ℕ) (done : List (List ℕ)) : Type 0 where
  pub each : (p : ℕ) → is_among p ps ≡ true → p < length done → get_or done p [] ≡ f p

pub done_none : (f : ℕ → List ℕ) (ps : List ℕ) (done : List (List ℕ)) → AreDone f (take 0 ps) done
done_none f ps done = record { each = λ p t lt. absurd (false≢true t) }

pub done_more : (f : ℕ → List ℕ) (ps : List ℕ) (i : ℕ) (item : List ℕ) (done : List (List ℕ)) → i < length ps
    → get_or ps i 0 < length done
    → item ≡ f (get_or ps i 0)
    → AreDone f (take i ps) done → AreDone f (take (i + 1) ps) (set done (get_or ps i 0) item)
done_more f ps i item done lt within is are = record {
  each = λ p t p_lt.
      let q : ℕ = get_or ps i 0 in
      elim (cases_eq p q) [
        | inl same ↦
            ap (λ (k : ℕ). get_or (set done q item) k []) same ∙ get_or-set_same done q item [] within ∙ is
            ∙ ap f (sym same)
        | inr other ↦
            get_or-set_other done q p item [] other
            ∙ are.each p (last_among p i ps lt other t) (omega (arith, p_lt, length-set done q item))
      ];
}

pub done_all : (f : ℕ → List ℕ) (n i : ℕ) (ps : List ℕ) (done : List (List ℕ)) → length done ≡ n
    → IsPermutation (range_with_len 0 n) ps → length ps ≤ i
    → AreDone f (take i ps) done → done ≡ map f (range_with_len 0 n)
done_all f n i ps done long moved past are =
    let made : List (List ℕ) = map f (range_with_len 0 n) in
    let made_long : length made ≡ n = length-map-range_with_len f 0 n in
    same_lists done made (omega (arith, long, made_long)) (λ k e lt.
    let k_in : k < n = omega (arith, lt, long) in
    let among : is_among k (take i ps) ≡ true =
    ap (is_among k) (take_all i ps past) ∙ sym (list_any-IsPermutation (nat_eq k) (range_with_len 0 n) ps moved)
    ∙ range_has k 0 n (omega arith) (omega (arith, k_in)) in
    get_or_default done k e [] lt ∙ are.each k among lt
    ∙ sym (get_or-map-range_with_len f 0 n k k e k_in (omega arith)))
