-- Those of a list who stand at the place from which their kind remains, or behind it.
use Rattle.std.proofs.Common.{ℕ, zero, suc, ◌+◌, ◌≤◌, ◌≡◌, Bool, true, false, List, [], ◌∷◌, drop, inl, inr, refl, ap}
use Rattle.std.proofs.Common.{arith, Some, nat_le}
use Rattle.std.specs.Prelude.{find, slice_get}
use Rattle.std.specs.List.{position_or_len}
use Rattle.std.proofs.lemmas.Bool.{cases_Bool, le-leb, lt-leb}
use Rattle.call_order.specs.Kinds.{without_first}
use Rattle.call_order.specs.Heads.{standing}

find_past : {X : Type 0} (from : X → ℕ) (test : X → Bool) (p n : ℕ) → ((x : X) → test x ≡ true → from x ≡ p) → p ≤ n
    → (xs : List X)
    → find test (standing from n xs) ≡ find test xs
find_past from test p n at le [] = refl
find_past from test p n at le (x ∷ xs) =
    let later = find_past from test p (n + 1) at (omega arith) xs in
    elim (cases_Bool (test x)) [
      | inl passes ↦ let is = at x passes in rw (le-leb (from x) n (omega arith), passes) refl
      | inr fails ↦
          elim (cases_Bool (nat_le (from x) n)) [
            | inl stands ↦ rw (stands, fails) later
            | inr gone ↦ rw (gone, fails) later
          ]
    ]

-- where those who pass a test stand from the place p on, the first of them is the first from there on
pub find-standing : {X : Type 0} (from : X → ℕ) (test : X → Bool) (p n k : ℕ) → ((x : X) → test x ≡ true → from x ≡ p)
    → p ≡ n + k → (xs : List X)
    → find test (standing from n xs) ≡ find test (drop k xs)
find-standing from test p n zero at e xs = find_past from test p n at (omega arith) xs
find-standing from test p n (suc k) at e [] = refl
find-standing from test p n (suc k) at e (x ∷ xs) =
    let later = find-standing from test p (n + 1) k at (omega arith) xs in
    elim (cases_Bool (test x)) [
      | inl passes ↦ let is = at x passes in rw (lt-leb (from x) n (omega arith)) later
      | inr fails ↦
          elim (cases_Bool (nat_le (from x) n)) [
            | inl stands ↦ rw (stands, fails) later
            | inr gone ↦ rw gone later
          ]
    ]

-- a test's own place moves from p to q, and all others' places stay
pub record Moves {X : Type 0} (old new : X → ℕ) (test : X → Bool) (p q : ℕ) : Type 0 where
  pub others : (x : X) → test x ≡ false → new x ≡ old x
  pub was : (x : X) → test x ≡ true → old x ≡ p
  pub is : (x : X) → test x ≡ true → new x ≡ q

moves_past : {X : Type 0} (old new : X → ℕ) (test : X → Bool) (p q n : ℕ) → Moves old new test p q → p ≤ n
    → (xs : List X) → q ≤ n + position_or_len test xs
    → standing new n xs ≡ standing old n xs
moves_past old new test p q n moves le [] far = refl
moves_past old new test p q n moves le (x ∷ xs) far =
    elim (cases_Bool (test x)) [
      | inl passes ↦
          let near = rw passes at far in
          let was = moves.was x passes in
          let is = moves.is x passes in
          rw (le-leb (old x) n (omega arith), le-leb (new x) n (omega arith))
          (ap (λ ys. x ∷ ys) (moves_past old new test p q (n + 1) moves (omega arith) xs (omega arith)))
      | inr fails ↦
          let farther = rw fails at far in
          let later = moves_past old new test p q (n + 1) moves (omega arith) xs (omega arith) in
          rw (moves.others x fails)
          (elim (cases_Bool (nat_le (old x) n)) [
            | inl stands ↦ rw stands (ap (λ ys. x ∷ ys) later)
            | inr gone ↦ rw gone later
          ])
    ]

-- where p is the place of one who passes, and q the next such place, exactly that one goes
pub standing-moves : {X : Type 0} (old new : X → ℕ) (test : X → Bool) (p q n k : ℕ) → Moves old new test p q → p ≡ n + k
    → (xs : List X) (x : X) → slice_get xs k ≡ Some x → test x ≡ true
    → q ≡ p + 1 + position_or_len test (drop (suc k) xs)
    → standing new n xs ≡ without_first test (standing old n xs)
standing-moves old new test p q n k moves e [] x here passes next = absurd (cc)
standing-moves old new test p q n zero moves e (y ∷ ys) x here passes next =
    let same : y ≡ x = (cc) in
    let own : test y ≡ true = rw same passes in
    let was = moves.was y own in
    let is = moves.is y own in
    rw (le-leb (old y) n (omega arith), lt-leb (new y) n (omega arith), own)
    (moves_past old new test p q (n + 1) moves (omega arith) ys (omega arith))
standing-moves old new test p q n (suc k) moves e (y ∷ ys) x here passes next =
    let later = standing-moves old new test p q (n + 1) k moves (omega arith) ys x here passes next in
    elim (cases_Bool (test y)) [
      | inl own ↦
          let was = moves.was y own in
          let is = moves.is y own in
          rw (lt-leb (old y) n (omega arith), lt-leb (new y) n (omega arith)) later
      | inr other ↦
          rw (moves.others y other)
          (elim (cases_Bool (nat_le (old y) n)) [
            | inl stands ↦ rw (stands, other) (ap (λ zs. y ∷ zs) later)
            | inr gone ↦ rw gone later
          ])
    ]

-- where nobody's place is past the first like them, all stand
pub standing-all : {X : Type 0} (from : X → ℕ) (like : X → X → Bool) (n : ℕ) (xs : List X) → ((x : X) → like x x ≡ true)
    → ((x : X) → from x ≤ n + position_or_len (like x) xs) → standing from n xs ≡ xs
standing-all from like n [] own first = refl
standing-all from like n (x ∷ xs) own first =
    let here = rw own at (first x) in
    rw (le-leb (from x) n (omega arith))
    (ap (λ ys. x ∷ ys) (standing-all from like (n + 1) xs own (λ y.
    elim (cases_Bool (like y x)) [
      | inl alike ↦ let near = rw alike at (first y) in omega arith
      | inr unlike ↦ let far = rw unlike at (first y) in omega arith
    ])))
