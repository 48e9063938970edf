-- Marks that are taken over from another state.
use Rattle.std.proofs.Common.{ℕ, ◌+◌, ◌≤◌, ◌<◌, ◌≡◌, true, false, List, map, length, All, inl, inr, refl}
use Rattle.std.proofs.Common.{sym, ◌∙◌, ap, arith, take, drop, get_or, subst}
use Rattle.std.specs.Prelude.{◌==◌, nat_eq}
use Rattle.std.proofs.lemmas.Bool.{cases_eq, or_cases, or_parts, eqb-true, eqb-false, eq-eqb}
use Rattle.std.proofs.lemmas.Bool.{ne_eqb, false≢true}
use Rattle.std.proofs.lemmas.List.{length-set, take_all, at_drop_more, at_drop_all}
use Rattle.std.proofs.lemmas.List.Folds.{list_any_more}
use Rattle.admit_core.specs.Answers.{candidate_at}
use Rattle.admit_core.specs.DossierRows.{DossierRows, candidate_of}
use Rattle.admit_core.specs.Lists.{is_among}
use Rattle.admit_core.specs.OwnWishes.{own_places}
use Rattle.admit_core.specs.State.{State, with_mark_at}
use Rattle.admit_core.specs.declared.state.Mark.{Mark}
use Rattle.day_state.specs.Kept.{mark_in}
use Rattle.day_state.specs.Others.{SameOthers, TakesOver}
use Rattle.day_state.proofs.Change.{own_within}
use Rattle.day_state.proofs.Along.{among-filter, mark_in-set_same, mark_in-set_other, same_state, same_marks}

-- one wish after another
pub taken_none : (places : List ℕ) (other s : State) → TakesOver (take 0 places) other s s
taken_none places other s = record {
  dossier = refl;
  as_long = refl;
  here = λ k lt among. absurd (false≢true among);
  others = λ k none. refl;
}

pub taken_more : (places : List ℕ) (i : ℕ) (other old now : State) (m : Mark) → i < length places
    → get_or places i 0 < length old.marks → TakesOver (take i places) other old now
    → m ≡ mark_in other.marks (get_or places i 0)
    → TakesOver (take (i + 1) places) other old (with_mark_at now (get_or places i 0) m)
taken_more places i other old now m lt within so_far is =
    let p = get_or places i 0 in
    let more = λ (k : ℕ). list_any_more (nat_eq k) places i 0 lt in
    record {
      dossier = so_far.dossier;
      as_long = length-set now.marks p m ∙ so_far.as_long;
      here = λ k k_in among. elim (cases_eq k p) [
        | inl same ↦ rw same (mark_in-set_same now.marks p m (omega (arith, within, so_far.as_long)) ∙ is)
        | inr other_place ↦
            let before : is_among k (take i places) ≡ true = elim (or_cases (is_among k (take i places)) (nat_eq k p)
            (sym (more k) ∙ among)) [
              | inl yes_before ↦ yes_before
              | inr now_here ↦ absurd (other_place (eqb-true k p now_here))
            ] in
            mark_in-set_other now.marks p k m other_place ∙ so_far.here k k_in before
      ];
      others = λ k none.
          let parts = or_parts (is_among k (take i places)) (nat_eq k p) (sym (more k) ∙ none) in
          mark_in-set_other now.marks p k m (eqb-false k p parts.1) ∙ so_far.others k parts.0;
    }

pub taken_all : (places : List ℕ) (i : ℕ) (other old new : State) → length places ≤ i
    → TakesOver (take i places) other old new → TakesOver places other old new
taken_all places i other old new le so_far =
    let P = λ (ks : List ℕ). TakesOver ks other old new in
    subst P (take_all i places le) so_far

-- one candidate after another: from the place i on the wishes are those of whoever may still differ
pub record IsTakingOver (places : List ℕ) (i : ℕ) (other old : State) (indexed : DossierRows)
    (now : State) : Type 0 where
  pub index : indexed ≡ now.dossier
  pub dossier : now.dossier ≡ old.dossier
  pub as_long : length now.marks ≡ length old.marks
  pub left : SameOthers (drop i places) now other

pub taking_more : (places : List ℕ) (i : ℕ) (other old : State) (indexed : DossierRows) (now new : State)
    → i < length places → length old.marks ≡ length old.dossier.wishes → other.dossier ≡ old.dossier
    → IsTakingOver places i other old indexed now
    → TakesOver (own_places now.dossier (candidate_of now.dossier (get_or places i 0))) other now new
    → IsTakingOver places (i + 1) other old indexed new
taking_more places i other old indexed now new lt long same so_far takes =
    let d = now.dossier in
    let p = get_or places i 0 in
    let n = length d.wishes in
    let count : length now.marks ≡ n =
    so_far.as_long ∙ long ∙ ap (λ (x : DossierRows). length x.wishes) (sym so_far.dossier) in
    let of_other : other.dossier ≡ new.dossier = same ∙ sym (takes.dossier ∙ so_far.dossier) in
    record {
      index = so_far.index ∙ sym takes.dossier;
      dossier = takes.dossier ∙ so_far.dossier;
      as_long = takes.as_long ∙ so_far.as_long;
      left = λ c none. elim (cases_eq c (candidate_of d p)) [
        | inl own ↦ record {
          dossier = of_other;
          each = λ k k_lt k_own.
              let k_in : k < n = rw takes.dossier at k_lt in
              let theirs : candidate_of d k ≡ candidate_of d p = rw takes.dossier at (k_own ∙ own) in
              takes.here k (omega (arith, count, k_in))
              (among-filter (λ j. candidate_of d j == candidate_of d p) k n k_in
              ∙ eq-eqb (candidate_of d k) (candidate_of d p) theirs);
        }
        | inr apart ↦
            let rest : is_among c (map (candidate_of d) (drop (i + 1) places)) ≡ false = rw takes.dossier at none in
            let all : is_among c (map (candidate_of d) (drop i places)) ≡ false =
            at_drop_more (λ (ks : List ℕ). is_among c (map (candidate_of d) ks)) places i 0 lt
            ∙ rw (ne_eqb c (candidate_of d p) apart) rest in
            record {
              dossier = of_other;
              each = λ k k_lt k_own.
                  let k_in : k < n = rw takes.dossier at k_lt in
                  let theirs : candidate_of d k ≡ c = rw takes.dossier at k_own in
                  takes.others k
                  (among-filter (λ j. candidate_of d j == candidate_of d p) k n k_in
                  ∙ ne_eqb (candidate_of d k) (candidate_of d p) (λ e. apart (sym theirs ∙ e)))
                  ∙ (so_far.left c all).each k k_in theirs;
            }
      ];
    }

-- the wishes of the candidate that the loop is at
pub taking_own : (places : List ℕ) (i : ℕ) (other old : State) (indexed : DossierRows) (now : State) (c : ℕ)
    → length old.marks ≡ length old.dossier.wishes → IsTakingOver places i other old indexed now
    → All (λ k. k < length now.marks) (own_places indexed c)
taking_own places i other old indexed now c long so_far k e lt =
    let wishes = ap (λ (x : DossierRows). length x.wishes) (so_far.index ∙ so_far.dossier) in
    omega (arith, own_within indexed c k e lt, wishes, long, so_far.as_long)

pub taking_all : (places : List ℕ) (i : ℕ) (other old : State) (indexed : DossierRows) (now : State)
    → length places ≤ i → length old.marks ≡ length old.dossier.wishes
    → length other.marks ≡ length other.dossier.wishes → other.dossier ≡ old.dossier
    → IsTakingOver places i other old indexed now → now ≡ other
taking_all places i other old indexed now le long long_too same so_far =
    let d = now.dossier in
    let Among = λ (c : ℕ) (ks : List ℕ). is_among c (map (candidate_of d) ks) in
    let each = λ (c : ℕ). so_far.left c (at_drop_all (Among c) places i le) in
    let wishes = ap (λ (x : DossierRows). length x.wishes) so_far.dossier in
    let wishes_too = ap (λ (x : DossierRows). length x.wishes) same in
    let count : length now.marks ≡ length d.wishes = so_far.as_long ∙ long ∙ sym wishes in
    same_state now other (so_far.dossier ∙ sym same)
    (same_marks now.marks other.marks (so_far.as_long ∙ long ∙ sym (long_too ∙ wishes_too))
    (λ k lt. (each (candidate_at now k)).each k (omega (arith, count)) refl))
