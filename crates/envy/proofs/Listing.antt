-- The blocks of a state are listed by place.
use Rattle.std.proofs.Common.{ℕ, zero, suc, ◌+◌, ◌<◌, ◌≤◌, ◌≡◌, Bool, true, false, cond, List, [], ◌∷◌, ◌++◌, map}
use Rattle.std.proofs.Common.{◌&&◌, length, inl, inr, refl, sym, ◌∙◌, ap, arith, filter, Option, Some, None, All}
use Rattle.std.specs.List.{enumerate_from, range_with_len}
use Rattle.std.proofs.lemmas.Bool.{cases_Bool}
use Rattle.std.proofs.lemmas.List.{append-nil}
use Rattle.std.proofs.lemmas.List.Elements.{All-cons, All-nil}
use Rattle.std.proofs.lemmas.Slice.Zip.{length-zip}
use Rattle.std.proofs.lemmas.List.FromFn.{filter_of_map_range_with_len_more}
use Rattle.admit_core.specs.declared.dossier.Wish.{Wish}
use Rattle.admit_core.specs.declared.ranking.CallOrder.{CallOrder}
use Rattle.admit_core.specs.declared.state.Mark.{Mark}
use Rattle.admit_core.specs.Blocking.{is_blocking}
use Rattle.admit_core.specs.State.{State, entries}
use Rattle.day_state.proofs.Places.{entries_by_place, entry_in}
use Rattle.envy.specs.declared.blocks.Block.{Block}
use Rattle.envy.specs.Blocks.{block_at, blocks_of, found_at, is_block}

pub same_block : (wish left left_too : ℕ) (envied envied_too : Option ℕ) → left ≡ left_too → envied ≡ envied_too
    → (let b : Block = record { wish = wish; left = left; envied = envied } in b)
    ≡ (let b : Block = record { wish = wish; left = left_too; envied = envied_too } in b)
same_block wish left left_too envied envied_too a b = rw (a, b) refl

-- what is listed of the first places
abbrev pub listed : State → List CallOrder → ℕ → List Block
listed s orders n = filter (is_block s orders) (map (block_at s orders) (range_with_len 0 n))

found_one : (one other : Block) → (let o : Option Block = Some one in o) ≡ Some other → one ≡ other
found_one one other same = cc

found_none : (one : Block) → (let o : Option Block = Some one in o) ≡ None → ⊥
found_none one same = absurd (cc)

-- one more place, of a wish that blocks or not
listed_so : (s : State) (orders : List CallOrder) (k : ℕ) (now : List Block) → now ≡ listed s orders k
    → (t : Bool) → is_block s orders (block_at s orders k) ≡ t
    → listed s orders (k + 1) ≡ now ++ cond t (block_at s orders k ∷ []) []
listed_so s orders k now are t is =
    filter_of_map_range_with_len_more (is_block s orders) (block_at s orders) 0 k k (omega arith)
    ∙ ap (λ b. listed s orders k ++ cond b (block_at s orders k ∷ []) []) is
    ∙ ap (λ (bs : List Block). bs ++ cond t (block_at s orders k ∷ []) []) (sym are)

pub listed_some : (s : State) (orders : List CallOrder) (k : ℕ) (block : Block) (now new : List Block)
    → now ≡ listed s orders k → found_at s orders k ≡ Some block → new ≡ now ++ block ∷ []
    → new ≡ listed s orders (k + 1)
listed_some s orders k block now new are found pushed =
    elim (cases_Bool (is_block s orders (block_at s orders k))) [
      | inl blocks ↦
          let here : found_at s orders k ≡ Some (block_at s orders k) = rw blocks refl in
          let block_is : block ≡ block_at s orders k = found_one block (block_at s orders k) (sym found ∙ here) in
          pushed ∙ ap (λ (b : Block). now ++ b ∷ []) block_is ∙ sym (listed_so s orders k now are true blocks)
      | inr blocks_not ↦
          let here : found_at s orders k ≡ None = rw blocks_not refl in
          absurd (found_none block (sym found ∙ here))
    ]

pub listed_none : (s : State) (orders : List CallOrder) (k : ℕ) (now : List Block)
    → now ≡ listed s orders k → found_at s orders k ≡ None → now ≡ listed s orders (k + 1)
listed_none s orders k now are found =
    elim (cases_Bool (is_block s orders (block_at s orders k))) [
      | inl blocks ↦
          let here : found_at s orders k ≡ Some (block_at s orders k) = rw blocks refl in
          absurd (found_none (block_at s orders k) (sym here ∙ found))
      | inr blocks_not ↦ sym (listed_so s orders k now are false blocks_not ∙ append-nil now)
    ]

-- all places: the blocks of the state
blocks_from : (f : ℕ → Wish × Mark) (g : ℕ → Block) (test : Wish × Mark → Bool) (p : Block → Bool)
    → ((k : ℕ) → p (g k) ≡ test (f k)) → (n a : ℕ)
    → filter p (map g (range_with_len a n))
    ≡ map g (map (λ (x : ℕ × (Wish × Mark)). x.0) (filter (λ (x : ℕ × (Wish × Mark)). test x.1)
    (enumerate_from a (map f (range_with_len a n)))))
blocks_from f g test p same zero a = refl
blocks_from f g test p same (suc n) a =
    let later = blocks_from f g test p same n (a + 1) in
    elim (cases_Bool (test (f a))) [
      | inl passes ↦ rw (same a, passes) (ap (λ (bs : List Block). g a ∷ bs) later)
      | inr fails ↦ rw (same a, fails) later
    ]

pub listed_all : (s : State) (orders : List CallOrder) (now : List Block) (n : ℕ)
    → length s.marks ≡ length s.dossier.wishes → n ≡ length s.dossier.wishes
    → now ≡ listed s orders n → now ≡ blocks_of s orders
listed_all s orders now n long all are =
    are
    ∙ ap (listed s orders) all
    ∙ blocks_from (entry_in s) (block_at s orders) (λ (e : Wish × Mark).
    is_blocking s orders e.0 e.1) (is_block s orders) (λ k. refl) (length s.dossier.wishes) 0
    ∙ ap (λ (es : List (Wish × Mark)).
    map (block_at s orders)
    (map (λ (x : ℕ × (Wish × Mark)). x.0) (filter
    (λ (x : ℕ × (Wish × Mark)). is_blocking s orders x.1.0 x.1.1) (enumerate_from 0 es))))
    (sym (entries_by_place s long))

-- each block is of a wish
within_from : (g : ℕ → Block) (test : Wish × Mark → Bool) → ((k : ℕ) → (g k).wish ≡ k)
    → (n count : ℕ) (es : List (Wish × Mark)) → n + length es ≤ count
    → All (λ (b : Block). b.wish < count) (map g (map (λ (x : ℕ × (Wish × Mark)). x.0)
    (filter (λ (x : ℕ × (Wish × Mark)). test x.1) (enumerate_from n es))))
within_from g test own n count [] le = All-nil (λ (b : Block). b.wish < count)
within_from g test own n count (e ∷ es) le =
    let later = within_from g test own (n + 1) count es (omega arith) in
    elim (cases_Bool (test e)) [
      | inl passes ↦
          rw passes
          (All-cons (λ (b : Block). b.wish < count) (g n)
          (map g (map (λ (x : ℕ × (Wish × Mark)). x.0)
          (filter (λ (x : ℕ × (Wish × Mark)). test x.1) (enumerate_from (n + 1) es))))
          (omega (arith, own n)) later)
      | inr fails ↦ rw fails later
    ]

pub blocks_within : (s : State) (orders : List CallOrder)
    → All (λ (b : Block). b.wish < length s.dossier.wishes) (blocks_of s orders)
blocks_within s orders =
    within_from (block_at s orders) (λ (e : Wish × Mark). is_blocking s orders e.0 e.1) (λ k. refl) 0
    (length s.dossier.wishes) (entries s)
    (omega (arith, length-zip s.dossier.wishes s.marks))
