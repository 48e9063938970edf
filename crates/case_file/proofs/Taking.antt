-- Lines that are taken one after another, and the text behind a bar.
use Rattle.std.proofs.Common.{◌≡◌, ◌++◌, ◌∷◌, [], ℕ, List, Option, Some, None, Result, Ok, Err, OnOk, true, false, Bor}
use Rattle.std.proofs.Common.{ap, drop, map}
use Rattle.std.proofs.Common.{refl, subst, sym}
use Rattle.std.specs.Prelude.{codes}
use Rattle.std.specs.Option.{MatchOption, option_copied}
use Rattle.std.specs.Str.{IsCharBoundary}
use Rattle.std.specs.Str.Pattern.{FindsTextPrefix, StripsPrefix}
use Rattle.std.proofs.lemmas.List.{map-append}
use Rattle.std.proofs.lemmas.Str.Pattern.{starts_text}
use Rattle.case_file.specs.Sections.{AddsEnded, AddsLine, IsReplaced, Seen, TakesLine, TakesLines, behind_bar}
use Rattle.case_file.specs.Sections.{byte_order_mark}

-- one line more
pub taken_more : (ls : List (List ℕ)) (line : List ℕ) (before next after : List Seen)
    → TakesLines ls before next → TakesLine line next after → TakesLines (ls ++ line ∷ []) before after
taken_more [] line before next after is takes =
    (after, subst (λ (b : List Seen). TakesLine line b after) is takes, refl)
taken_more (l ∷ ls) line before next after (mid, first, others) takes =
    (mid, first, taken_more ls line mid next after others takes)

-- one turn more
pub taken_next : (xs : List (Bor (List ℕ))) (x : Bor (List ℕ)) (next after : List Seen)
    → TakesLines (map (λ (y : Bor (List ℕ)). y.now) xs) [] next → TakesLine x.now next after
    → TakesLines (map (λ (y : Bor (List ℕ)). y.now) (xs ++ x ∷ [])) [] after
taken_next xs x next after is takes =
    rw (map-append (λ (y : Bor (List ℕ)). y.now) xs (x ∷ []))
    (taken_more (map (λ (y : Bor (List ℕ)). y.now) xs) x.now [] next after is takes)

-- what is stripped of a bar
pub stripped : (line : List ℕ) (r : Option (Bor (List ℕ)))
    → MatchOption r (FindsTextPrefix (codes "| ") line None)
    (λ x. StripsPrefix (FindsTextPrefix (codes "| ")) line x.now)
    → option_copied r ≡ behind_bar line
stripped line None lacks =
    let no : false ≡ _ = starts_text false (codes "| ") line lacks in rw (← no)
stripped line (Some x) (n, finds, is, len) =
    let yes : true ≡ _ = starts_text true (codes "| ") line
    (n, finds, subst (λ (k : ℕ). IsCharBoundary line k) (sym finds.0) finds.2) in
    rw (← yes) (subst (λ (k : ℕ). Some x.now ≡ Some (drop k line)) finds.0 (ap Some is))

-- a line whose marks are gone is added
pub line_added : {E : Type 0} (line marked returned before after : List ℕ) (r : Result (Unit {0}) E)
    → IsReplaced (codes "{bom}") byte_order_mark line marked
    → IsReplaced (codes "{cr}") (codes "\r") marked returned
    → OnOk r (AddsEnded returned before after) → OnOk r (AddsLine line before after)
line_added line marked returned before after (Ok x) is_marked is_returned adds =
    record { marked = marked; returned = returned; is_marked = is_marked; is_returned = is_returned; adds = adds }
line_added line marked returned before after (Err e) is_marked is_returned adds = tt
