-- That wishes which stand together by candidate do not clash.
use Rattle.std.proofs.Common.{◌≡◌, ◌∙◌, ◌+◌, ◌-◌, ◌≤◌, ◌<◌, ℕ, Bool, true, false, List, Some, arith, ap, drop, get_or}
use Rattle.std.proofs.Common.{inl, inr, slice_get, ◌⊎◌, length, nat_eq, nat_lt, refl, subst, sym, true≢false}
use Rattle.std.specs.Prelude.{not}
use Rattle.std.specs.List.{list_all, slice_range}
use Rattle.std.proofs.lemmas.Bool.Decides.{nat_tests}
use Rattle.std.proofs.lemmas.List.{get_or-drop, get_or-take, length-drop, length-take-le}
use Rattle.std.proofs.lemmas.List.Folds.{list_all_at}
use Rattle.std.proofs.lemmas.Option.{slice_get-get_or}
use Rattle.admit_core.specs.declared.tables.WishRow.{WishRow}
use Rattle.dossier_check.specs.declared.apart.Run.{Run}
use Rattle.dossier_check.specs.Runs.{IsRunUpTo, alike, clashes, run_with}
use Rattle.dossier_check.proofs.Places.{nat_eq_sound}

-- wishes that clash are alike
clash_alike : (row r : WishRow) → clashes row r ≡ true → alike row r ≡ true
clash_alike row r clash = by (nat_eq row.candidate r.candidate) refl
  where
    by : (b : Bool) → nat_eq row.candidate r.candidate ≡ b → alike row r ≡ true
    by true e = rw e at clash
    by false e = cc (rw e at clash)

-- wishes of two candidates do not clash
of_two : (row r : WishRow) → r.candidate < row.candidate → clashes row r ≡ false
of_two row r lt = let differ : nat_eq row.candidate r.candidate ≡ false = grind (arith, nat_tests) in rw differ refl

-- the run before the next row, and that this is of its candidate
pub record Joins (rows : List WishRow) (row : WishRow) (next : Run) (to : ℕ) : Type 0 where
  pub run : IsRunUpTo rows next to
  pub same : row.candidate ≡ next.candidate

pub joined : (rows : List WishRow) (row : WishRow) (run next : Run) (to : ℕ) → run_with run row.candidate to ≡ Some next
    → IsRunUpTo rows run to → Joins rows row next to
joined rows row run next to is before = by (nat_eq row.candidate run.candidate) refl
    (nat_lt run.candidate row.candidate) refl
  where
    below : (j : ℕ) (d : WishRow) → run.candidate < row.candidate → j < to → (get_or rows j d).candidate < row.candidate
    below j d lt within = at (before_or j run.from)
      where
        before_or : (m n : ℕ) → (m < n) ⊎ (n ≤ m)
        before_or m n = grind arith

        at : (j < run.from) ⊎ (run.from ≤ j) → (get_or rows j d).candidate < row.candidate
        at (inl early) = omega (arith, before.others j d early)
        at (inr late) = omega (arith, before.own j d late within)

    by : (a : Bool) → nat_eq row.candidate run.candidate ≡ a → (b : Bool) → nat_lt run.candidate row.candidate ≡ b
        → Joins rows row next to
    by true e b f =
        let same : run ≡ next = cc (rw e at is) in
        let here : Joins rows row run to = record { run = before; same = nat_eq_sound row.candidate run.candidate e } in
        subst (λ x. Joins rows row x to) same here
    by false e true f =
        let lt : run.candidate < row.candidate = grind (arith, nat_tests) in
        let new : Run = record { candidate = row.candidate; from = to } in
        let same : new ≡ next = cc (rw (e, f) at is) in
        let here : Joins rows row new to =
        record {
          run = record {
            start = omega arith;
            apart = before.apart;
            others = λ j d within. below j d lt within;
            own = λ j d late within. absurd (omega arith);
          };
          same = refl;
        } in
        subst (λ x. Joins rows row x to) same here
    by false e false f = cc (rw (e, f) at is)

-- a row that is read
pub row_there : (rows : List WishRow) (row : WishRow) (place : ℕ) → place < length rows
    → slice_get rows place ≡ Some row → (d : WishRow) → get_or rows place d ≡ row
row_there rows row place within is d =
    let there : slice_get rows place ≡ Some (get_or rows place d) = slice_get-get_or rows place d within in
    cc (is, there)

-- a run that goes on
module _ (rows : List WishRow) (run : Run) (to : ℕ) (within : to < length rows) (before : IsRunUpTo rows run to) where
  module _ (row : WishRow) (here : (d : WishRow) → get_or rows to d ≡ row) (same : row.candidate ≡ run.candidate)
      (apart : list_all (λ r. not (alike row r)) (slice_range rows run.from to) ≡ true) where
    own_apart : (j : ℕ) (d : WishRow) → run.from ≤ j → j < to → clashes row (get_or rows j d) ≡ false
    own_apart j d late early = by (clashes row (get_or rows j d)) refl
      where
        part : List WishRow
        part = slice_range rows run.from to

        place : get_or part (j - run.from) d ≡ get_or rows j d
        place =
            let there : run.from + (j - run.from) ≡ j = omega arith in
            get_or-take (to - run.from) (drop run.from rows) (j - run.from) d (omega arith)
            ∙ get_or-drop run.from rows (j - run.from) d ∙ ap (λ i. get_or rows i d) there

        long : j - run.from < length part
        long = let rest : length (drop run.from rows) ≡ length rows - run.from = length-drop run.from rows in
            omega (arith, length-take-le (to - run.from) (drop run.from rows) (omega (arith, rest)))

        by : (b : Bool) → clashes row (get_or rows j d) ≡ b → clashes row (get_or rows j d) ≡ false
        by false e = e
        by true e =
            let fails : not (alike row (get_or part (j - run.from) d)) ≡ false =
            rw (place, clash_alike row (get_or rows j d) e) refl in
            absurd (true≢false (sym apart ∙ list_all_at (λ r. not (alike row r)) part (j - run.from) d long fails))

    early_or_late : (j : ℕ) → (j < run.from) ⊎ (run.from ≤ j)
    early_or_late j = grind arith

    last_apart : (j : ℕ) (d : WishRow) → j < to → clashes row (get_or rows j d) ≡ false
    last_apart j d lt = at (early_or_late j)
      where
        at : (j < run.from) ⊎ (run.from ≤ j) → clashes row (get_or rows j d) ≡ false
        at (inl early) = of_two row (get_or rows j d) (omega (arith, before.others j d early, same))
        at (inr late) = own_apart j d late lt

    pub goes_on : IsRunUpTo rows run (to + 1)
    goes_on = record {
      start = omega (arith, before.start);
      apart = λ j k d lt next. apart_at j k d lt (before_or_at k next);
      others = before.others;
      own = λ j d late next. own_at j d late (before_or_at j next);
    }
      where
        before_or_at : (k : ℕ) → k < to + 1 → (k < to) ⊎ (k ≡ to)
        before_or_at k next = grind arith

        apart_at : (j k : ℕ) (d : WishRow) → j < k → (k < to) ⊎ (k ≡ to)
            → clashes (get_or rows k d) (get_or rows j d) ≡ false
        apart_at j k d lt (inl early) = before.apart j k d lt early
        apart_at j k d lt (inr is) = rw (is, here d) (last_apart j d (omega arith))

        own_at : (j : ℕ) (d : WishRow) → run.from ≤ j → (j < to) ⊎ (j ≡ to)
            → (get_or rows j d).candidate ≡ run.candidate
        own_at j d late (inl early) = before.own j d late early
        own_at j d late (inr is) = rw (is, here d) same
