-- The market of a dossier: those who rank their wishes, and the programmes that they wish for
-- without boarding.
use Rattle.std.specs.Prelude.{ℕ, Bool, not, ◌&&◌, ◌++◌, List, [], ◌∷◌, length, map, filter, fold, nat_eq, nat_lt}
use Rattle.std.specs.Prelude.{is_some, slice_index_or, if◌then◌else◌}
use Rattle.std.specs.List.{position_or_len, range_with_len}
use Rattle.admit_core.specs.DossierRows.{DossierRows}
use Rattle.admit_core.specs.Lists.{is_among, sorted_by}
use Rattle.admit_core.specs.Proposals.{order_of}
use Rattle.admit_core.specs.declared.dossier.Wish.{Wish}
use Rattle.admit_core.specs.declared.ranking.CallOrder.{CallOrder}
use Rattle.keyed_hash.specs.declared.Keyed.{Keyed}
use Rattle.keyed_hash.specs.Keys.{keyed_by_each}
use Rattle.markets.specs.Markets.{MarketRows}

-- a wish counts in the market where its candidate ranks their wishes and it asks for no bed
abbrev pub counts : Wish → Bool
counts w = nat_lt 0 w.preference && not (is_some w.school)

abbrev pub counted : DossierRows → List Wish
counted d = filter counts d.wishes

-- the numbers of a list, each once, in the order in which they come first
abbrev pub in_turn : List ℕ → List ℕ
in_turn ns = fold (λ seen n. if is_among n seen then seen else seen ++ n ∷ []) [] ns

-- the ids of the market's candidates: the number of each is their place in this list
abbrev pub named : List Wish → List ℕ
named ws = in_turn (map (λ w. w.candidate) ws)

-- the hashing by the key of the candidates and the ids of all these wishes
abbrev pub keyed_by_wishes : List Wish → Keyed
keyed_by_wishes ws = keyed_by_each (λ w. (w.candidate, w.id)) ws

abbrev pub own : List Wish → ℕ → List Wish
own ws c = filter (λ w. nat_eq c w.candidate) ws

-- the programmes of wishes, the one that is preferred to all others first
abbrev pub by_preference : List Wish → List ℕ
by_preference ws = map (λ w. w.programme) (sorted_by (λ w. w.preference) ws)

-- the list of each candidate
abbrev pub lists_in : List Wish → List (List ℕ)
lists_in ws = map (λ c. by_preference (own ws c)) (named ws)

-- a call order by the numbers of its candidates, without those who don't list the programme
abbrev pub called_in : List Wish → ℕ → List ℕ → List ℕ
called_in ws p order =
    filter (λ x. is_among p (slice_index_or (lists_in ws) x []))
    (map (λ c. position_or_len (nat_eq c) (named ws)) order)

abbrev pub market_of : DossierRows → List CallOrder → MarketRows
market_of d orders =
    record {
      lists = lists_in (counted d);
      orders =
          map (λ p. called_in (counted d) p (order_of d orders p))
          (range_with_len 0 (length d.programmes));
      seats = map (λ q. q.seats) d.programmes;
    }

-- the candidates of a dossier's market, by number
abbrev pub market_candidates : DossierRows → List ℕ
market_candidates d = named (counted d)
