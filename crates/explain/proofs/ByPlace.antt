-- The explanations of all wishes, by place.
use Rattle.std.proofs.Common.{◌<◌, ◌≡◌, [], map, length, get_or, refl, sym, ◌∙◌, ap, arith, zip}
use Rattle.std.proofs.lemmas.List.{get_or-map, length-map}
use Rattle.std.proofs.lemmas.List.FromFn.{fill_by_all}
use Rattle.std.proofs.lemmas.Option.{unwrap_or-slice_get}
use Rattle.std.proofs.lemmas.Slice.Zip.{get_or-zip, length-zip}
use Rattle.admit_core.specs.declared.dossier.Wish.{Wish}
use Rattle.admit_core.specs.declared.explanation.Explanation.{Explanation}
use Rattle.admit_core.specs.declared.state.Mark.{Mark}
use Rattle.admit_core.specs.DossierRows.{DossierRows}
use Rattle.admit_core.specs.Explanations.{explanation}
use Rattle.admit_core.specs.State.{entries}
use Rattle.day_state.specs.Kept.{mark_in, wish_in}
use Rattle.explain.specs.Laws.{EachIsListed}
use Rattle.explanations.specs.Sayings.{explanation_at}

pub each_is_listed : EachIsListed
each_is_listed last evening same long long_too =
    let o = last.opening in
    let ws = o.dossier.wishes in
    let n = length evening.dossier.wishes in
    let n_is : n ≡ length ws = ap (λ (d : DossierRows). length d.wishes) same in
    let pairs = zip evening.marks (entries o) in
    let f : Mark × (Wish × Mark) → Explanation = λ x. explanation last x.0 x.1.0 x.1.1 in
    let none : Mark × (Wish × Mark) = (mark_in [] 0, (wish_in [] 0, mark_in [] 0)) in
    let pairs_long : length pairs ≡ n = omega (
      arith,
      length-zip evening.marks
          (entries o),
      length-zip ws o.marks,
      long,
      long_too,
      n_is,
    ) in
    fill_by_all (explanation_at last evening) (map f pairs) n (f none) (length-map pairs f ∙ pairs_long)
    (λ k lt.
    let in_ws : k < length ws = omega (arith, lt, n_is) in
    let in_ms : k < length o.marks = omega (arith, in_ws, long_too) in
    let in_es : k < length (entries o) = omega (arith, length-zip ws o.marks, in_ws, in_ms) in
    let in_now : k < length evening.marks = omega (arith, lt, long) in
    let in_pairs : k < length pairs = omega (arith, lt, pairs_long) in
    let pair : get_or pairs k none ≡ (mark_in evening.marks k, (wish_in ws k, mark_in o.marks k)) =
    get_or-zip evening.marks (entries o) k none in_now in_es
    ∙ ap (λ (e : Wish × Mark). (get_or evening.marks k (mark_in [] 0), e))
    (get_or-zip ws o.marks k (wish_in [] 0, mark_in [] 0) in_ws in_ms)
    ∙ rw (
      unwrap_or-slice_get evening.marks k (mark_in [] 0),
      unwrap_or-slice_get ws k
          (wish_in [] 0),
      unwrap_or-slice_get o.marks k (mark_in [] 0),
    ) refl in
    get_or-map f pairs k none (f none) in_pairs
    ∙ ap f pair
    ∙ ap (λ (d : DossierRows). explanation last (mark_in evening.marks k) (wish_in d.wishes k) (mark_in o.marks k))
    (sym same))
