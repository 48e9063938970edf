-- Marks kept as statuses and stamps, and flags of the same marks.
use Rattle.std.proofs.Common.{◌≡◌, ℕ, ◌<◌, zero, suc, List, [], ◌∷◌, map, replicate, length, set, get_or, refl, ap}
use Rattle.std.proofs.Common.{arith, sym, ◌∙◌}
use Rattle.std.proofs.lemmas.List.{get_or_read}
use Rattle.admit_core.specs.declared.state.Status.{Status}
use Rattle.admit_core.specs.declared.state.Status.TheVariants.{Waiting}
use Rattle.admit_core.specs.declared.state.Stamp.{Stamp}
use Rattle.admit_core.specs.declared.state.Mark.{Mark}
use Rattle.day_state.specs.Kept.{mark_in}
use Rattle.day_state.specs.Marks.{marks_of, statuses_of}

pub map_replicate : {X Y : Type 0} (f : X → Y) (n : ℕ) (x : X) → map f (replicate n x) ≡ replicate n (f x)
map_replicate f zero x = refl
map_replicate f (suc n) x = ap (λ ys. f x ∷ ys) (map_replicate f n x)

pub marks_replicate : (n : ℕ) (status : Status) (stamp : Stamp)
    → marks_of (replicate n status) (replicate n stamp) ≡ replicate n (record { status = status; stamp = stamp })
marks_replicate zero status stamp = refl
marks_replicate (suc n) status stamp =
    ap (λ (ms : List Mark). record { status = status; stamp = stamp } ∷ ms) (marks_replicate n status stamp)

pub length-marks : (ss : List Status) (ts : List Stamp) → length ts ≡ length ss → length (marks_of ss ts) ≡ length ss
length-marks [] ts long = refl
length-marks (s ∷ ss) [] long = absurd (omega (arith, long))
length-marks (s ∷ ss) (t ∷ ts) long = ap suc (length-marks ss ts (omega (arith, long)))

pub mark_there : (ss : List Status) (ts : List Stamp) (k : ℕ) → length ts ≡ length ss → k < length (marks_of ss ts)
    → mark_in (marks_of ss ts) k
    ≡ record { status = get_or ss k Waiting; stamp = get_or ts k (record { day = 0; pass = 0 }) }
mark_there [] ts k long lt = absurd (omega (arith, lt))
mark_there (s ∷ ss) [] k long lt = absurd (omega (arith, lt))
mark_there (s ∷ ss) (t ∷ ts) zero long lt = refl
mark_there (s ∷ ss) (t ∷ ts) (suc k) long lt = mark_there ss ts k (omega (arith, long)) (omega (arith, lt))

pub marks-set : (ss : List Status) (ts : List Stamp) (k : ℕ) (m : Mark)
    → marks_of (set ss k m.status) (set ts k m.stamp) ≡ set (marks_of ss ts) k m
marks-set [] ts k m = refl
marks-set (s ∷ ss) [] zero m = refl
marks-set (s ∷ ss) [] (suc k) m = refl
marks-set (s ∷ ss) (t ∷ ts) zero m = refl
marks-set (s ∷ ss) (t ∷ ts) (suc k) m =
    ap (λ (ms : List Mark). record { status = s; stamp = t } ∷ ms) (marks-set ss ts k m)

pub statuses_there : (ss : List Status) (ts : List Stamp) → length ts ≡ length ss → statuses_of (marks_of ss ts) ≡ ss
statuses_there [] ts long = refl
statuses_there (s ∷ ss) [] long = absurd (omega (arith, long))
statuses_there (s ∷ ss) (t ∷ ts) long =
    ap (λ (rest : List Status). s ∷ rest) (statuses_there ss ts (omega (arith, long)))

pub status_read : (ss : List Status) (ts : List Stamp) (k : ℕ) (status : Status) → length ts ≡ length ss
    → k < length (marks_of ss ts) → status ≡ get_or ss k status → status ≡ (mark_in (marks_of ss ts) k).status
status_read ss ts k status long lt is =
    get_or_read ss k status (omega (arith, lt, length-marks ss ts long)) is Waiting
    ∙ sym (ap (λ (m : Mark). m.status) (mark_there ss ts k long lt))

pub stamp_read : (ss : List Status) (ts : List Stamp) (k : ℕ) (stamp : Stamp) → length ts ≡ length ss
    → k < length (marks_of ss ts) → stamp ≡ get_or ts k stamp → stamp ≡ (mark_in (marks_of ss ts) k).stamp
stamp_read ss ts k stamp long lt is =
    get_or_read ts k stamp (omega (arith, lt, long, length-marks ss ts long)) is (record { day = 0; pass = 0 })
    ∙ sym (ap (λ (m : Mark). m.stamp) (mark_there ss ts k long lt))
