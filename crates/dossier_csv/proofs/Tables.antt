-- The rows of a slot, from the first on.
use Rattle.std.proofs.Common.{◌≡◌, ℕ, ◌+◌, ◌<◌, List, [], ◌∷◌, ◌++◌, length, Result, Ok, Err, refl, ap, ◌∙◌}
use Rattle.std.proofs.Common.{append_assoc}
use Rattle.admit_core.specs.declared.refusal.Refusal.{Refusal}
use Rattle.std.proofs.Common.{true, false, Option, append-nil, sym}
use Rattle.csv.specs.declared.reader.Reader.{Reader}
use Rattle.std.specs.List.{list_any}
use Rattle.std.proofs.Common.{length-append}
use Rattle.std.proofs.lemmas.List.Elements.{All-push}
use Rattle.admit_core.specs.Ranges.{AreRows}
use Rattle.dossier_csv.specs.Rest.{GivesNext, HasLeft}
use Rattle.dossier_csv.specs.Layout.{Layout}
use Rattle.std.proofs.Common.{arith}
use Rattle.admit_core.specs.declared.refusal.InFault.{InFault}
use Rattle.admit_core.specs.declared.refusal.Reason.TheVariants.{Header}
use Rattle.dossier_csv.specs.Shape.{Answers, at_row, row_of, rows_from, same_texts, table_of, with_row}

-- the rows in front, and then those that are read
abbrev pub put_before : {A : Type 0} → List A → Result (List A) Refusal → Result (List A) Refusal
put_before front (Ok rows) = Ok (front ++ rows)
put_before front (Err refusal) = Err refusal

pub rows-end : {A : Type 0} (layout : Layout A) (width : ℕ) (done : List A) (k : ℕ)
    → put_before done (rows_from layout width k []) ≡ Ok done
unfolding rows_from
rows-end layout width done k = ap Ok (append-nil done)

put-with : {A : Type 0} (done : List A) (v : A) (others : Result (List A) Refusal)
    → put_before done (with_row (Ok v) others) ≡ put_before (done ++ (v ∷ [])) others
put-with done v (Ok rows) = ap Ok (sym (append_assoc done (v ∷ []) rows))
put-with done v (Err refusal) = refl

rows-step : {A : Type 0} (layout : Layout A) (width : ℕ) (done : List A) (k : ℕ) (fields : List (List ℕ))
    (others : List (List (List ℕ))) (v : A)
    → at_row layout.slot k (row_of layout width k fields) ≡ Ok v
    → put_before done (rows_from layout width k (fields ∷ others))
    ≡ put_before (done ++ (v ∷ [])) (rows_from layout width (k + 1) others)
unfolding rows_from
rows-step layout width done k fields others v e =
    ap (λ x. put_before done (with_row x (rows_from layout width (k + 1) others))) e
    ∙ put-with done v (rows_from layout width (k + 1) others)

rows-fault : {A : Type 0} (layout : Layout A) (width : ℕ) (done : List A) (k : ℕ) (fields : List (List ℕ))
    (others : List (List (List ℕ))) (refusal : Refusal)
    → at_row layout.slot k (row_of layout width k fields) ≡ Err refusal
    → put_before done (rows_from layout width k (fields ∷ others)) ≡ Err refusal
unfolding rows_from
rows-fault layout width done k fields others refusal e =
    ap (λ x. put_before done (with_row x (rows_from layout width (k + 1) others))) e

-- a read that found none, and one that found one
pub none-left : {R : Type 0} (rem : R → Option (List ℕ)) (b : Reader R) (fields : List (List ℕ))
    (left : List (List (List ℕ))) → GivesNext rem b false fields left → left ≡ []
none-left rem b fields [] next = refl
none-left rem b fields (first ∷ others) next = cc next.0

pub some-left : {R : Type 0} (rem : R → Option (List ℕ)) (b : Reader R) (fields : List (List ℕ))
    (left : List (List (List ℕ))) → GivesNext rem b true fields left
    → (others : List (List (List ℕ))) × (left ≡ fields ∷ others) × HasLeft rem b others
some-left rem b fields [] next = cc next
some-left rem b fields (first ∷ others) next = (others, ap (λ f. f ∷ others) (sym next.1), next.2)

-- a row that is refused
pub rows-refused : {A R : Type 0} (layout : Layout A) (width : ℕ) (rem : R → Option (List ℕ)) (b : Reader R)
    (done : List A) (k : ℕ) (fields : List (List ℕ)) (left : List (List (List ℕ))) (refusal : Refusal)
    (whole : Result (List A) Refusal)
    → GivesNext rem b true fields left → Err refusal ≡ at_row layout.slot k (row_of layout width k fields)
    → whole ≡ put_before done (rows_from layout width k left) → whole ≡ Err refusal
rows-refused layout width rem b done k fields left refusal whole next fault e =
    let (others, first, has) = some-left rem b fields left next in
    e ∙ rw first (rows-fault layout width done k fields others refusal (sym fault))

-- a row more
more-rows : {A : Type 0} (layout : Layout A) (width : ℕ) (done items : List A) (count len : ℕ) (fields : List (List ℕ))
    (left others : List (List (List ℕ))) (v : A) → left ≡ fields ∷ others
    → Ok v ≡ at_row layout.slot (count + 2) (row_of layout width (count + 2) fields) → items ≡ done ++ (v ∷ [])
    → len ≡ count + 1
    → put_before done (rows_from layout width (count + 2) left)
    ≡ put_before items (rows_from layout width (len + 2) others)
more-rows layout width done items count len fields left others v first value grown longer =
    let number : count + 1 + 2 ≡ count + 2 + 1 = omega arith in
    rw (first, grown, longer, number) (rows-step layout width done (count + 2) fields others v (sym value))

pub one-more : {A R : Type 0} (layout : Layout A) (width : ℕ) (rem : R → Option (List ℕ)) (b : Reader R)
    (done items : List A) (count len : ℕ) (fields : List (List ℕ)) (left : List (List (List ℕ))) (v : A)
    (whole : Result (List A) Refusal)
    → GivesNext rem b true fields left → Ok v ≡ at_row layout.slot (count + 2) (row_of layout width (count + 2) fields)
    → items ≡ done ++ (v ∷ []) → len ≡ count + 1
    → whole ≡ put_before done (rows_from layout width (count + 2) left)
    → (others : List (List (List ℕ))) × HasLeft rem b others
    × (whole ≡ put_before items (rows_from layout width (len + 2) others))
one-more layout width rem b done items count len fields left v whole next value grown longer e =
    let (others, first, has) = some-left rem b fields left next in
    (others, has, e ∙ more-rows layout width done items count len fields left others v first value grown longer)

-- the same of the ranges
pub more-in-range : {A : Type 0} (P : A → Type 0) (done items : List A) (v : A) → AreRows P done
    → length done < 16000000 → P v → items ≡ done ++ (v ∷ []) → AreRows P items
more-in-range P done items v so_far room good grown = rw grown (record {
  size = omega (arith, length-append done (v ∷ []));
  each = All-push P done v so_far.each good;
})

-- the rows under a header, and a slot whose header is another
pub table-rows : {A : Type 0} (layout : Layout A) (all others : List (List (List ℕ))) (fields : List (List ℕ))
    → all ≡ fields ∷ others → list_any (same_texts fields) layout.headers ≡ true
    → table_of layout all ≡ rows_from layout (length fields) 2 others
unfolding table_of
table-rows layout all others fields first same = rw (first, same) refl

pub table-other : {A : Type 0} (layout : Layout A) (all others : List (List (List ℕ))) (fields : List (List ℕ))
    → all ≡ fields ∷ others → list_any (same_texts fields) layout.headers ≡ false
    → table_of layout all ≡ Err (record { slot = layout.slot; row = 1; reason = Header })
unfolding table_of
table-other layout all others fields first same = rw (first, same) refl

pub table-none : {A : Type 0} (layout : Layout A) (all : List (List (List ℕ))) → all ≡ []
    → table_of layout all ≡ Err (record { slot = layout.slot; row = 1; reason = Header })
unfolding table_of
table-none layout all none = rw none refl

pub answers-same : {X Y : Type 0} (view : X → Y) (result : Result X InFault) (a b : Result Y Refusal) → a ≡ b
    → Answers view result b → Answers view result a
answers-same view result a b e h = rw e h
