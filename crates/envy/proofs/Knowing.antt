-- What is noted of entries, one after another.
use Rattle.std.proofs.Common.{ℕ, ◌+◌, ◌<◌, ◌≤◌, ◌≡◌, ◌≢◌, Bool, true, false, ◌&&◌, ◌||◌, List, [], ◌∷◌, length, take}
use Rattle.std.proofs.Common.{set}
use Rattle.std.proofs.Common.{replicate, inl, inr, refl, sym, ◌∙◌, ap, arith, nat_eq, nat_le, get_or, subst, Option}
use Rattle.std.proofs.Common.{Some, None, IfSome}
use Rattle.std.specs.Prelude.{if◌then◌else◌, nat_lt, option_map, slice_index}
use Rattle.std.specs.List.{list_any}
use Rattle.std.proofs.lemmas.Bool.{cases_Bool, eq-eqb, eqb-false, eqb-true, false≢true, ne_eqb}
use Rattle.std.proofs.lemmas.List.{get_or_default, get_or-replicate, get_or-set_other, get_or-set_same}
use Rattle.std.proofs.lemmas.List.{length-replicate}
use Rattle.std.proofs.lemmas.List.{length-set, take_all}
use Rattle.std.proofs.lemmas.List.Folds.{list_any_more}
use Rattle.std.proofs.lemmas.Option.{unwrap_or-slice_get}
use Rattle.std.proofs.lemmas.Slice.Zip.{get_or-zip, length-zip}
use Rattle.admit_core.specs.declared.dossier.Wish.{Wish}
use Rattle.admit_core.specs.declared.ranking.CallOrder.{CallOrder}
use Rattle.admit_core.specs.declared.state.Mark.{Mark}
use Rattle.admit_core.specs.DossierRows.{DossierRows, candidate_of}
use Rattle.admit_core.specs.OwnWishes.{own_places}
use Rattle.admit_core.specs.State.{State, entries, is_live}
use Rattle.admit_core.proofs.Plain.{or_false}
use Rattle.day_state.specs.Bundles.{number_in}
use Rattle.day_state.specs.Kept.{mark_in, wish_in}
use Rattle.day_state.proofs.Along.{among-filter, own_at}
use Rattle.day_state.proofs.Places.{candidate_in}
use Rattle.linked_demand.specs.Rows.{line_place}
use Rattle.envy.specs.Known.{AreBest, AreBestTo, AreLast, AreLastTo, IsFor, first_own, is_better, is_below}
use Rattle.envy.specs.Known.{is_live_from}
use Rattle.envy.specs.Known.{place_at, reaches}

-- an entry that stands nowhere
abbrev pub no_entry : Wish × Mark
no_entry = (wish_in [] 0, mark_in [] 0)

pub entry_at : (s : State) (k : ℕ) → length s.marks ≡ length s.dossier.wishes → k < length s.dossier.wishes
    → get_or (entries s) k no_entry ≡ (wish_in s.dossier.wishes k, mark_in s.marks k)
entry_at s k long lt =
    let ws = s.dossier.wishes in
    let ms = s.marks in
    get_or-zip ws ms k no_entry lt (omega (arith, long, lt))
    ∙ rw (unwrap_or-slice_get ws k (wish_in [] 0), unwrap_or-slice_get ms k (mark_in [] 0)) refl

entries_long : (s : State) → length s.marks ≡ length s.dossier.wishes → length (entries s) ≡ length s.dossier.wishes
entries_long s long = omega (arith, long, length-zip s.dossier.wishes s.marks)

-- the number at a place
pub number_at : (ns : List (Option ℕ)) (k : ℕ) (n : Option ℕ) → k < length ns → n ≡ get_or ns k n → n ≡ number_in ns k
number_at ns k n lt is = is ∙ get_or_default ns k n None lt ∙ sym (unwrap_or-slice_get ns k None)

-- a number at a place that is set
number_set : (ns : List (Option ℕ)) (k p : ℕ) (n : Option ℕ) → k < length ns
    → number_in (set ns k n) p ≡ (if nat_eq k p then n else number_in ns p)
number_set ns k p n lt =
    elim (cases_Bool (nat_eq k p)) [
      | inl here ↦
          let same : k ≡ p = eqb-true k p here in
          rw here (unwrap_or-slice_get (set ns k n) p None
          ∙ ap (λ j. get_or (set ns k n) j None) (sym same) ∙ get_or-set_same ns k n None lt)
      | inr other ↦
          rw other (unwrap_or-slice_get (set ns k n) p None ∙ get_or-set_other ns k p n None
          (λ e. eqb-false k p other (sym e)) ∙ sym (unwrap_or-slice_get ns p None))
    ]

set_here : (ns : List (Option ℕ)) (k p : ℕ) (n : Option ℕ) → k < length ns → k ≡ p → number_in (set ns k n) p ≡ n
set_here ns k p n lt same =
    number_set ns k p n lt ∙ ap (λ b. if b then n else number_in ns p) (eq-eqb k p same)

set_other : (ns : List (Option ℕ)) (k p : ℕ) (n : Option ℕ) → k < length ns → k ≢ p
    → number_in (set ns k n) p ≡ number_in ns p
set_other ns k p n lt apart =
    number_set ns k p n lt ∙ ap (λ b. if b then n else number_in ns p) (ne_eqb k p apart)

-- the first wish of a candidate is one of theirs
any_some : (test : ℕ → Bool) (ks : List ℕ) → list_any test ks ≡ true → 0 < length ks
any_some test [] any = absurd (false≢true any)
any_some test (k ∷ ks) any = omega arith

pub has_own : (d : DossierRows) (k : ℕ) → k < length d.wishes → 0 < length (own_places d (candidate_of d k))
has_own d k lt =
    let c = candidate_of d k in
    let own = λ (j : ℕ). nat_eq (candidate_of d j) c in
    any_some (nat_eq k) (own_places d c) (among-filter own k (length d.wishes) lt ∙ eq-eqb c c refl)

pub first_is : (d : DossierRows) (k : ℕ) → k < length d.wishes
    → (first_own d k < length d.wishes) × (candidate_of d (first_own d k) ≡ candidate_of d k)
first_is d k lt = own_at d (candidate_of d k) 0 (has_own d k lt)

-- of two candidates each has a first wish of their own
first_same : (d : DossierRows) (k j : ℕ) → (wish_in d.wishes k).candidate ≡ (wish_in d.wishes j).candidate
    → first_own d k ≡ first_own d j
first_same d k j same =
    ap (λ c. slice_index (own_places d c) 0) (candidate_in d.wishes k ∙ same ∙ sym (candidate_in d.wishes j))

first_apart : (d : DossierRows) (k j : ℕ) → k < length d.wishes → j < length d.wishes
    → (wish_in d.wishes k).candidate ≢ (wish_in d.wishes j).candidate → first_own d k ≢ first_own d j
first_apart d k j k_lt j_lt differ = λ same.
    differ (sym (candidate_in d.wishes k) ∙ sym (first_is d k k_lt).1 ∙ ap (candidate_of d) same
    ∙ (first_is d j j_lt).1 ∙ candidate_in d.wishes j)

module _ (s : State) (long : length s.marks ≡ length s.dossier.wishes) (k : ℕ) (lt : k < length s.dossier.wishes) where
  any_more : (p : Wish × Mark → Bool)
      → list_any p (take (k + 1) (entries s))
      ≡ (list_any p (take k (entries s)) || p (wish_in s.dossier.wishes k, mark_in s.marks k))
  any_more p =
      list_any_more p (entries s) k no_entry (omega (arith, lt, entries_long s long))
      ∙ ap (λ e. list_any p (take k (entries s)) || p e) (entry_at s k long lt)

  abbrev w : Wish
  w = wish_in s.dossier.wishes k

  abbrev m : Mark
  m = mark_in s.marks k

  -- a wish that is not live is no better one, and no last one
  pub best_still : (best : List (Option ℕ)) → is_live m ≡ false → AreBestTo s k best → AreBestTo s (k + 1) best
  best_still best dead are = record {
    as_long = are.as_long;
    each = λ j q lt_j.
        let c = (wish_in s.dossier.wishes j).candidate in
        let front = list_any (is_better c q) (take k (entries s)) in
        are.each j q lt_j
        ∙ sym (any_more (is_better c q)
        ∙ ap (λ b. front || ((b && nat_eq w.candidate c) && nat_lt w.preference q)) dead ∙ or_false front);
  }

  pub last_still : (orders : List CallOrder) (lasts : List (Option ℕ)) → is_live m ≡ false
      → AreLastTo s orders k lasts → AreLastTo s orders (k + 1) lasts
  last_still orders lasts dead are = record {
    as_long = are.as_long;
    wishes = are.wishes;
    each = λ p j lt_p.
        let test = is_live_from s.dossier orders p j in
        let front = list_any test (take k (entries s)) in
        are.each p j lt_p
        ∙ sym (any_more test
        ∙ ap (λ b. front || ((b && nat_eq w.programme p) && nat_le j (line_place s.dossier orders w))) dead
        ∙ or_false front);
  }

  -- one more live wish in the best ones
  pub best_more : (old new : List (Option ℕ)) (least : ℕ) → is_live m ≡ true → AreBestTo s k old
      → new ≡ set old (first_own s.dossier k) (Some least)
      → ((q : ℕ) → nat_lt least q ≡ (is_below (number_in old (first_own s.dossier k)) q || nat_lt w.preference q))
      → AreBestTo s (k + 1) new
  best_more old new least lives are new_is noted =
      let d = s.dossier in
      let first = first_own d k in
      let within : first < length old = omega (arith, (first_is d k lt).0, are.as_long) in
      record {
        as_long = ap length new_is ∙ length-set old first (Some least) ∙ are.as_long;
        each = λ j q lt_j.
            let c = (wish_in d.wishes j).candidate in
            let other = first_own d j in
            let front = list_any (is_better c q) (take k (entries s)) in
            let below : ℕ → Bool = λ n. is_below (number_in old n) q in
            let shown : list_any (is_better c q) (take (k + 1) (entries s))
            ≡ (front || (nat_eq w.candidate c && nat_lt w.preference q)) =
            any_more (is_better c q)
            ∙ ap (λ b. front || ((b && nat_eq w.candidate c) && nat_lt w.preference q)) lives in
            ap (λ (ns : List (Option ℕ)). is_below (number_in ns other) q) new_is
            ∙ elim (cases_Bool (nat_eq w.candidate c)) [
              | inl here ↦
                  let same : first ≡ other = first_same d k j (eqb-true w.candidate c here) in
                  ap (λ n. is_below n q) (set_here old first other (Some least) within same)
                  ∙ noted q
                  ∙ ap (λ b. b || nat_lt w.preference q) (ap below same ∙ are.each j q lt_j)
                  ∙ sym (shown ∙ ap (λ b. front || (b && nat_lt w.preference q)) here)
              | inr differ ↦
                  ap (λ n. is_below n q) (set_other old first other (Some least) within
                  (first_apart d k j lt lt_j (eqb-false w.candidate c differ)))
                  ∙ are.each j q lt_j
                  ∙ sym (shown ∙ ap (λ b. front || (b && nat_lt w.preference q)) differ ∙ or_false front)
            ];
      }

  -- and in the last ones
  pub last_more : (orders : List CallOrder) (old new : List (Option ℕ)) (kept : ℕ)
      → w.programme < length s.dossier.programmes → is_live m ≡ true → AreLastTo s orders k old
      → new ≡ set old w.programme (Some kept)
      → ((j : ℕ) → nat_le j (place_at s.dossier orders kept)
      ≡ (reaches (option_map (place_at s.dossier orders) (number_in old w.programme)) j
      || nat_le j (place_at s.dossier orders k)))
      → (IfSome (number_in old w.programme) (IsFor s.dossier orders w.programme)
      → IsFor s.dossier orders w.programme kept)
      → AreLastTo s orders (k + 1) new
  last_more orders old new kept lt_q lives are new_is noted fits =
      let d = s.dossier in
      let q = w.programme in
      let within : q < length old = omega (arith, lt_q, are.as_long) in
      record {
        as_long = ap length new_is ∙ length-set old q (Some kept) ∙ are.as_long;
        wishes = λ p lt_p.
            subst (λ (ns : List (Option ℕ)). IfSome (number_in ns p) (IsFor d orders p)) (sym new_is)
            (elim (cases_Bool (nat_eq q p)) [
              | inl here ↦
                  let same : q ≡ p = eqb-true q p here in
                  subst (λ (n : Option ℕ). IfSome n (IsFor d orders p))
                  (sym (set_here old q p (Some kept) within same))
                  (subst (λ r. IsFor d orders r kept) same (fits (are.wishes q lt_q)))
              | inr other ↦
                  subst (λ (n : Option ℕ). IfSome n (IsFor d orders p))
                  (sym (set_other old q p (Some kept) within (eqb-false q p other))) (are.wishes p lt_p)
            ]);
        each = λ p j lt_p.
            let test = is_live_from d orders p j in
            let front = list_any test (take k (entries s)) in
            let at = place_at d orders k in
            let reach : Option ℕ → Bool = λ n. reaches (option_map (place_at d orders) n) j in
            let shown : list_any test (take (k + 1) (entries s)) ≡ (front || (nat_eq q p && nat_le j at)) =
            any_more test ∙ ap (λ b. front || ((b && nat_eq q p) && nat_le j at)) lives in
            ap (λ (ns : List (Option ℕ)). reach (number_in ns p)) new_is
            ∙ elim (cases_Bool (nat_eq q p)) [
              | inl here ↦
                  let same : q ≡ p = eqb-true q p here in
                  ap reach (set_here old q p (Some kept) within same)
                  ∙ noted j
                  ∙ ap (λ b. b || nat_le j at) (ap (λ r. reach (number_in old r)) same ∙ are.each p j lt_p)
                  ∙ sym (shown ∙ ap (λ b. front || (b && nat_le j at)) here)
              | inr other ↦
                  ap reach (set_other old q p (Some kept) within (eqb-false q p other))
                  ∙ are.each p j lt_p
                  ∙ sym (shown ∙ ap (λ b. front || (b && nat_le j at)) other ∙ or_false front)
            ];
      }

-- what is known of all entries
pub best_all : (s : State) (k : ℕ) (best : List (Option ℕ)) → length s.marks ≡ length s.dossier.wishes
    → length s.dossier.wishes ≤ k → AreBestTo s k best → AreBest s best
best_all s k best long le are = record {
  as_long = are.as_long;
  each = λ j q lt. are.each j q lt ∙ ap (list_any (is_better (wish_in s.dossier.wishes j).candidate q))
      (take_all k (entries s) (omega (arith, le, entries_long s long)));
}

pub last_all : (s : State) (orders : List CallOrder) (k : ℕ) (lasts : List (Option ℕ))
    → length s.marks ≡ length s.dossier.wishes → length s.dossier.wishes ≤ k
    → AreLastTo s orders k lasts → AreLast s orders lasts
last_all s orders k lasts long le are = record {
  as_long = are.as_long;
  wishes = are.wishes;
  each = λ p j lt. are.each p j lt ∙ ap (list_any (is_live_from s.dossier orders p j))
      (take_all k (entries s) (omega (arith, le, entries_long s long)));
}

-- where nothing is noted yet
none_noted : (ns : List (Option ℕ)) (n k : ℕ) → ns ≡ replicate n None → k < n → number_in ns k ≡ None
none_noted ns n k none lt =
    ap (λ (ms : List (Option ℕ)). number_in ms k) none
    ∙ unwrap_or-slice_get (replicate n None) k None ∙ get_or-replicate n k None None lt

pub best_none : (s : State) (best : List (Option ℕ)) (n : ℕ) → n ≡ length s.dossier.wishes
    → best ≡ replicate n None → AreBestTo s 0 best
best_none s best n all none = record {
  as_long = ap length none ∙ length-replicate n None ∙ all;
  each = λ k q lt.
      let first = first_own s.dossier k in
      ap (λ (m : Option ℕ). is_below m q)
      (none_noted best n first none (omega (arith, (first_is s.dossier k lt).0, all)));
}

pub last_none : (s : State) (orders : List CallOrder) (lasts : List (Option ℕ)) (n : ℕ)
    → n ≡ length s.dossier.programmes → lasts ≡ replicate n None → AreLastTo s orders 0 lasts
last_none s orders lasts n all none =
    let each_none : (p : ℕ) → p < length s.dossier.programmes → number_in lasts p ≡ None =
    λ p lt. none_noted lasts n p none (omega (arith, lt, all)) in
    record {
      as_long = ap length none ∙ length-replicate n None ∙ all;
      wishes = λ p lt. subst (λ (m : Option ℕ). IfSome m (IsFor s.dossier orders p)) (sym (each_none p lt)) tt;
      each = λ p k lt.
          ap (λ (m : Option ℕ). reaches (option_map (place_at s.dossier orders) m) k) (each_none p lt);
    }
