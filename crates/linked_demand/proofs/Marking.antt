-- The wishes that are marked.
use Rattle.std.proofs.Common.{ℕ, ◌+◌, ◌<◌, ◌≡◌, Bool, true, false, ◌&&◌, List, [], ◌∷◌, ◌++◌, length, take, get_or, inl}
use Rattle.std.proofs.Common.{inr, refl, sym, ◌∙◌, ap, arith, nat_eq, Some, subst}
use Rattle.std.specs.Prelude.{slice_get}
use Rattle.std.proofs.Math.ListN.{set}
use Rattle.std.proofs.lemmas.Bool.{cases_Bool, cases_eq, false≢true, and_parts, and_from, or_cases, or_parts, eqb-true}
use Rattle.std.proofs.lemmas.List.{take_more, length-set, get_or-set_same, get_or-set_other}
use Rattle.admit_core.specs.declared.dossier.Wish.{Wish}
use Rattle.admit_core.specs.declared.state.Mark.{Mark}
use Rattle.admit_core.specs.Lists.{is_among}
use Rattle.admit_core.specs.State.{State, entries}
use Rattle.linked_demand.specs.Marks.{MarksWishes}
use Rattle.linked_demand.proofs.Marked.{marked_within}

-- where nothing passes
pub marks_nothing : (s : State) (test : ℕ × (Wish × Mark) → Bool) (marked : List Bool)
    → ((k : ℕ) (e : Wish × Mark) → slice_get (entries s) k ≡ Some e → test (k, e) ≡ false)
    → MarksWishes s test marked marked
marks_nothing s test marked none = record {
  as_long = refl;
  grows = λ k t. t;
  each = λ k e at t lt. absurd (false≢true (sym (none k e at) ∙ t));
}

-- what passes a test passes the other
pub marks_weaker : (s : State) (test other : ℕ × (Wish × Mark) → Bool) (old new : List Bool)
    → ((k : ℕ) (e : Wish × Mark) → slice_get (entries s) k ≡ Some e → other (k, e) ≡ true
    → test (k, e) ≡ true) → MarksWishes s test old new → MarksWishes s other old new
marks_weaker s test other old new weaker marks = record {
  as_long = marks.as_long;
  grows = marks.grows;
  each = λ k e at t lt. marks.each k e at (weaker k e at t) lt;
}

-- one after the other: what passes the whole passes one of both
pub marks_both : (s : State) (first second whole : ℕ × (Wish × Mark) → Bool) (old now new : List Bool)
    → ((k : ℕ) (e : Wish × Mark) → slice_get (entries s) k ≡ Some e → whole (k, e) ≡ true
    → first (k, e) ≡ false → second (k, e) ≡ true)
    → MarksWishes s first old now → MarksWishes s second now new → MarksWishes s whole old new
marks_both s first second whole old now new either one two = record {
  as_long = two.as_long ∙ one.as_long;
  grows = λ k t. two.grows k (one.grows k t);
  each = λ k e at t lt. elim (cases_Bool (first (k, e))) [
    | inl early ↦ two.grows k (one.each k e at early lt)
    | inr late ↦ two.each k e at (either k e at t late) (omega (arith, lt, one.as_long))
  ];
}

mark_grows : (v : ℕ) (marked : List Bool) (k : ℕ) → get_or marked k false ≡ true
    → get_or (set marked v true) k false ≡ true
mark_grows v marked k t =
    elim (cases_eq k v) [
      | inl here ↦ rw here (get_or-set_same marked v true false
          (marked_within marked v (ap (λ n. get_or marked n false) (sym here) ∙ t)))
      | inr other ↦ get_or-set_other marked v k true false other ∙ t
    ]

among_push : (k v : ℕ) (ks : List ℕ) → is_among k (ks ++ v ∷ []) ≡ true → is_among k ks ≡ false → k ≡ v
among_push k v [] t none = elim (or_cases (nat_eq k v) false t) [
  | inl here ↦
      eqb-true k v here
  | inr later ↦ absurd (false≢true later)
]
among_push k v (x ∷ ks) t none =
    elim (or_cases (nat_eq k x) (is_among k (ks ++ v ∷ [])) t) [
      | inl here ↦ absurd (false≢true (sym none ∙ rw here refl))
      | inr later ↦ among_push k v ks later (or_parts (nat_eq k x) (is_among k ks) none).1
    ]

module _ (s : State) (claim : List ℕ) (q : ℕ → Bool) (i : ℕ) (lt : i < length claim) (start now : List Bool)
    (so_far : MarksWishes s (λ x. is_among x.0 (take i claim) && q x.0) start now) where
  abbrev v : ℕ
  v = get_or claim i 0

  among_more : (k : ℕ) → is_among k (take (i + 1) claim) ≡ true → is_among k (take i claim) ≡ false → k ≡ v
  among_more k t none = let P = λ (ks : List ℕ). is_among k ks ≡ true in among_push k v (take i claim)
      (subst P (take_more claim i 0 lt) t) none

  -- one more that passes
  pub marks_more : (new : List Bool) → new ≡ set now v true
      → MarksWishes s (λ x. is_among x.0 (take (i + 1) claim) && q x.0) start new
  marks_more new new_is = record {
    as_long = ap length new_is ∙ length-set now v true ∙ so_far.as_long;
    grows = λ k t. rw new_is (mark_grows v now k (so_far.grows k t));
    each = λ k e at t within. rw new_is (
        let parts = and_parts (is_among k (take (i + 1) claim)) (q k) t in
        elim (cases_Bool (is_among k (take i claim))) [
          | inl early ↦ mark_grows v now k
              (so_far.each k e at (and_from (is_among k (take i claim)) (q k) early parts.1) within)
          | inr late ↦
              let is = among_more k parts.0 late in
              rw is (get_or-set_same now v true false (omega (arith, is, within, so_far.as_long)))
        ]);
  }

  -- one more that does not
  pub marks_left : q v ≡ false → MarksWishes s (λ x. is_among x.0 (take (i + 1) claim) && q x.0) start now
  marks_left fails = record {
    as_long = so_far.as_long;
    grows = so_far.grows;
    each = λ k e at t within.
        let parts = and_parts (is_among k (take (i + 1) claim)) (q k) t in
        elim (cases_Bool (is_among k (take i claim))) [
          | inl early ↦ so_far.each k e at (and_from (is_among k (take i claim)) (q k) early parts.1) within
          | inr late ↦ absurd (false≢true (sym fails ∙ ap q (sym (among_more k parts.0 late)) ∙ parts.1))
        ];
  }
