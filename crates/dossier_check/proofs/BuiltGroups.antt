-- Groups made of their rows and of their candidates by rank.
use Rattle.std.proofs.Common.{◌≡◌, ℕ, suc, List, [], ◌∷◌, map, zip, refl, sym, ap, ◌∙◌, All, arith}
use Rattle.std.proofs.lemmas.Simd.{map-map}
use Rattle.admit_core.specs.declared.tables.GroupRow.{GroupRow}
use Rattle.admit_core.specs.declared.tables.RankRow.{RankRow}
use Rattle.admit_core.specs.declared.ranking.Ranked.{Ranked}
use Rattle.admit_core.specs.Lists.{sorted_by}
use Rattle.admit_core.specs.Standing.{ranked_in}
use Rattle.dossier_check.specs.Dealt.{ascending, built, candidates_in, ranked_by}
use Rattle.dossier_check.proofs.TaggedRows.{ranked_in_order}

pub zip_built : {V : Type 0} (items : V → List Ranked) (rankings : List RankRow) (rows : List GroupRow) (lists : List V)
    → map items lists ≡ map (ranked_by rankings) (map (λ g. g.id) rows)
    → map {A = GroupRow × V} (λ p. built p.0 (items p.1)) (zip rows lists)
    ≡ map (λ g. built g (ranked_by rankings g.id)) rows
zip_built items rankings [] lists e = refl
zip_built items rankings (g ∷ rows) [] e = cc
zip_built items rankings (g ∷ rows) (l ∷ lists) e =
    let here : items l ≡ ranked_by rankings g.id = cc in
    let there : map items lists ≡ map (ranked_by rankings) (map (λ g. g.id) rows) = cc in
    rw (here, zip_built items rankings rows lists there) refl

-- lists that are by rank as they stand in the file
pub by_rank_already : {V : Type 0} (items : V → List Ranked) (rankings : List RankRow) (ids : List ℕ) (lists : List V)
    → All (λ v. items v ≡ sorted_by (λ r. r.rank) (items v)) lists
    → map items lists ≡ map (ranked_in rankings) ids → map items lists ≡ map (ranked_by rankings) ids
by_rank_already items rankings ids lists all e =
    map_fixed_by items (sorted_by (λ r. r.rank)) lists all
    ∙ ap (map (sorted_by (λ r. r.rank))) e
    ∙ map-map (sorted_by (λ r. r.rank)) (ranked_in rankings) ids
  where
    map_fixed_by : {V X : Type 0} (items : V → X) (f : X → X) (vs : List V) → All (λ v. items v ≡ f (items v)) vs
        → map items vs ≡ map f (map items vs)
    map_fixed_by items f [] all = refl
    map_fixed_by items f (v ∷ vs) all =
        let here : items v ≡ f (items v) = all 0 v (omega arith) in
        let later : map items vs ≡ map f (map items vs) =
        map_fixed_by items f vs (λ k d lt. all (suc k) d (omega (arith, lt))) in
        cc (here, later)

-- lists of rows in order by rank
pub by_rank_now : (rankings : List RankRow) (ids : List ℕ)
    → map (ranked_in (sorted_by (λ r. r.rank) rankings)) ids ≡ map (ranked_by rankings) ids
by_rank_now rankings ids =
    ap (λ (f : ℕ → List Ranked). map f ids) (λ i group.
    ranked_in_order rankings (λ r. r.rank) (λ r. r.rank) (λ r. refl) group i)

-- the candidates of lists of rows in file order
pub ascending_now : {V : Type 0} (items : V → List Ranked) (rankings : List RankRow) (ids : List ℕ) (lists : List V)
    → map items lists ≡ map (ranked_in rankings) ids
    → map (λ v. ascending (items v)) lists ≡ map (candidates_in rankings) ids
ascending_now items rankings ids lists e =
    sym (map-map ascending items lists)
    ∙ ap (map ascending) e
    ∙ map-map ascending (ranked_in rankings) ids
