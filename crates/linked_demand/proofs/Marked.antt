-- Marks of places and the list of those that are marked.
use Rattle.std.proofs.Common.{ℕ, zero, suc, ◌+◌, ◌≤◌, ◌<◌, ◌≡◌, Bool, true, false, cond, List, [], ◌∷◌, ◌++◌}
use Rattle.std.proofs.Common.{length, reverse, get_or, refl, sym, ◌∙◌, ap, arith, count_by, subst}
use Rattle.std.specs.Prelude.{replicate}
use Rattle.std.proofs.Math.ListN.{set}
use Rattle.std.proofs.lemmas.Bool.{false≢true}
use Rattle.std.proofs.lemmas.List.{length-set, get_or-set_same, reverse-append}
use Rattle.std.proofs.lemmas.List.{length-reverse}
use Rattle.std.proofs.lemmas.List.Sums.{count_by-le-length, sum_by-set}
use Rattle.linked_demand.specs.Listed.{AreMarked, MarksAreListed}

-- a mark that is set where there was none, and taken away again
set_back : (flags : List Bool) (h : ℕ) → get_or flags h false ≡ false → set (set flags h true) h false ≡ flags
set_back [] h clear = refl
set_back (b ∷ flags) zero clear = ap (λ c. c ∷ flags) (sym clear)
set_back (b ∷ flags) (suc h) clear = ap (λ fs. b ∷ fs) (set_back flags h clear)

pub marked_within : (flags : List Bool) (h : ℕ) → get_or flags h false ≡ true → h < length flags
marked_within [] h marked = absurd (false≢true marked)
marked_within (b ∷ flags) zero marked = omega arith
marked_within (b ∷ flags) (suc h) marked = omega (arith, marked_within flags h marked)

-- one mark less
pub count_cleared : (flags : List Bool) (h : ℕ) → get_or flags h false ≡ true
    → count_by (λ b. b) flags ≡ 1 + count_by (λ b. b) (set flags h false)
count_cleared flags h marked = omega (
  arith,
  sum_by-set (λ (b : Bool). cond b 1 0) flags h false false (marked_within flags h marked),
  ap {B = ℕ} (λ (b : Bool). cond b 1 0) marked,
)

none_counted : (n : ℕ) → count_by (λ b. b) (replicate n false) ≡ 0
none_counted zero = refl
none_counted (suc n) = omega (arith, none_counted n)

-- as many are listed as are marked
listed_count : (hs : List ℕ) (flags : List Bool) → AreMarked hs flags → length hs ≡ count_by (λ b. b) flags
listed_count [] flags none = sym (ap (count_by (λ b. b)) none ∙ none_counted (length flags))
listed_count (h ∷ hs) flags (marked, rest) =
    omega (arith, listed_count hs (set flags h false) rest, count_cleared flags h marked)

module _ (flags : List Bool) (places : List ℕ) (room : ℕ) (right : MarksAreListed flags places room) where
  -- there is room for a place that is not marked
  pub has_room : (h : ℕ) → h < length flags → get_or flags h false ≡ false → length places < room
  has_room h lt clear =
      let more = count_cleared (set flags h true) h (get_or-set_same flags h true false lt) in
      let back = ap (count_by (λ (b : Bool). b)) (set_back flags h clear) in
      omega (
        arith,
        listed_count (reverse places) flags right.listed,
        length-reverse places,
        more,
        back,
        count_by-le-length (λ (b : Bool). b) (set flags h true),
        length-set flags h true,
        right.room,
      )

  pub one_marked : (h : ℕ) → h < length flags → get_or flags h false ≡ false → (new : List ℕ) (now_room : ℕ)
      → new ≡ places ++ h ∷ [] → room ≤ now_room → MarksAreListed (set flags h true) new now_room
  one_marked h lt clear new now_room new_is le =
      let P = λ (hs : List ℕ). AreMarked hs (set flags h true) in
      let Q = λ (fs : List Bool). AreMarked (reverse places) fs in
      record {
        listed = subst P (sym (ap reverse new_is ∙ reverse-append places (h ∷ [])))
            (get_or-set_same flags h true false lt, subst Q (sym (set_back flags h clear)) right.listed);
        room = omega (arith, length-set flags h true, right.room, le);
      }

  -- the place that is listed last is marked, and the others are listed once it is taken away
  last_listed : (new : List ℕ) (h : ℕ) → places ≡ new ++ h ∷ [] → AreMarked (h ∷ reverse new) flags
  last_listed new h is =
      let P = λ (hs : List ℕ). AreMarked hs flags in
      subst P (ap reverse is ∙ reverse-append new (h ∷ [])) right.listed

  pub last_marked : (new : List ℕ) (h : ℕ) → places ≡ new ++ h ∷ [] → get_or flags h false ≡ true
  last_marked new h is = (last_listed new h is).0

  pub one_taken : (new : List ℕ) (h : ℕ) → places ≡ new ++ h ∷ [] → (now_room : ℕ) → now_room ≡ room
      → MarksAreListed (set flags h false) new now_room
  one_taken new h is now_room same = record {
    listed = (last_listed new h is).1;
    room = omega (arith, length-set flags h false, right.room, same);
  }
