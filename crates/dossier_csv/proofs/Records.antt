-- What a read of a record leaves to be read.
use Rattle.std.proofs.Common.{◌≡◌, ℕ, zero, suc, ◌+◌, ◌<◌, ◌≤◌, Bool, true, false, cond, List, [], ◌∷◌, length, Option}
use Rattle.std.proofs.Common.{Some, None, refl, ◌∙◌, inl, arith}
use Rattle.std.proofs.lemmas.Option.{cond_some, none-some}
use Rattle.std.proofs.Common.{◌==◌, ◌&&◌}
use Rattle.csv.specs.Machine.{Read, ends_with, ends_at_end, fields_after, field_after, in_field, is_end, next_record}
use Rattle.csv.specs.Machine.{start_field, start_record, step}
use Rattle.csv.specs.declared.parser.Action.{Action}
use Rattle.csv.specs.declared.parser.Action.TheVariants as act
use Rattle.csv.specs.declared.parser.State.{State}
use Rattle.csv.specs.declared.parser.State.TheVariants as st
use Rattle.csv.specs.declared.reader.Reader.{Reader}
use Rattle.csv.specs.Reading.{NextIs, ReadRecord, ReadsNext, default_config, pending_of, records_from, records_next}
use Rattle.csv.specs.Reading.{source_of, took_first}
use Rattle.std.proofs.Common.{inr}
use Rattle.csv.specs.Reading.{is_flexible, names_headers, reader_config, reader_headers, reader_state, reader_trim}
use Rattle.csv.specs.Reading.{records}
use Rattle.csv.specs.declared.reader.Trim.TheVariants as trim
use Rattle.dossier_csv.specs.Rest.{GivesNext, HasLeft}

-- after a step that ends a record, the machine stands between two
record EndsBetween (x : State × Action) : Type 0 where
  between : is_end x.1 ≡ true → ends_at_end x.0 ≡ false

either : (b : Bool) (x y : State × Action) → EndsBetween x → EndsBetween y → EndsBetween (cond b x y)
either true x y p q = p
either false x y p q = q

after : (b : Bool) → EndsBetween (cond b st.AfterCr st.StartRecord, act.EndRecord)
after true = record { between = λ h. refl }
after false = record { between = λ h. refl }

-- the other actions end no record
skips : (s : State) → EndsBetween (s, act.Skip)
skips s = record { between = λ h. cc h }

copies : (s : State) → EndsBetween (s, act.Copy)
copies s = record { between = λ h. cc h }

parts : (s : State) → EndsBetween (s, act.EndField)
parts s = record { between = λ h. cc h }

in_field-between : (c : ℕ) → EndsBetween (in_field default_config c)
in_field-between c =
    either (c == 44) _ _ (parts st.StartField)
    (either (ends_with default_config.terminator c) _ _ (after (c == 13)) (copies st.InField))

start_field-between : (c : ℕ) → EndsBetween (start_field default_config c)
start_field-between c = either (true && (c == 34)) _ _ (skips st.InQuoted) (in_field-between c)

start_record-between : (c : ℕ) → EndsBetween (start_record default_config c)
start_record-between c = either (ends_with default_config.terminator c) _ _ (skips st.StartRecord)
    (start_field-between c)

step-between : (s : State) (c : ℕ) → EndsBetween (step default_config s c)
step-between st.StartRecord c = start_record-between c
step-between st.StartField c = start_field-between c
step-between st.InField c = in_field-between c
step-between st.InQuoted c = either (c == 34) _ _ (skips st.AfterQuote) (copies st.InQuoted)
step-between st.InEscape c = copies st.InQuoted
step-between st.AfterQuote c = either (c == 34) _ _ (copies st.InQuoted) (in_field-between c)
step-between st.InComment c = either (c == 10) _ _ (skips st.StartRecord) (skips st.InComment)
step-between st.AfterCr c = either (c == 10) _ _ (skips st.StartRecord) (start_record-between c)

-- a record that was read: the machine stands between two, with at most so many bytes left
abbrev pub LeavesAtMost : ℕ → Read → Type 0
LeavesAtMost n p = (length p.2 ≤ n) × (ends_at_end p.1 ≡ false)

at_end : (b : Bool) (fields : List (List ℕ)) (p : Read) → cond b (Some (fields, st.StartRecord, [])) None ≡ Some p
    → LeavesAtMost 0 p
at_end b fields p e = rw (← (cond_some b (fields, st.StartRecord, []) p e).1) (omega arith, refl)

step-leaves : (b : Bool) (s : State) (fields : List (List ℕ)) (rest : List ℕ) (other : Option Read) (p : Read)
    → (b ≡ true → ends_at_end s ≡ false)
    → (other ≡ Some p → LeavesAtMost (length rest) p) → cond b (Some (fields, s, rest)) other ≡ Some p
    → LeavesAtMost (length rest) p
step-leaves true s fields rest other p between more e = let same : ◌≡◌ {A = Read} (fields, s, rest) p = cc e in
    rw (← same) (omega arith, between refl)
step-leaves false s fields rest other p between more e = more e

pub next-leaves : (s : State) (fields : List (List ℕ)) (field xs : List ℕ) (p : Read)
    → next_record default_config s fields field xs ≡ Some p → LeavesAtMost (length xs) p
unfolding next_record
next-leaves s fields field [] p e = at_end (ends_at_end s) _ p e
next-leaves s fields field (c ∷ rest) p e =
    let after_step = step default_config s c in
    let at_most : LeavesAtMost (length rest) p =
    step-leaves (is_end after_step.1) after_step.0 _ rest _ p (step-between s c).between
    (next-leaves after_step.0 (fields_after after_step.1 fields field) (field_after after_step.1 c field) rest p) e in
    (omega (arith, at_most.0), at_most.1)

-- between two records, the next one takes a byte at least
pub next-takes : (s : State) (xs : List ℕ) (p : Read) → ends_at_end s ≡ false
    → next_record default_config s [] [] xs ≡ Some p
    → (length p.2 < length xs) × (ends_at_end p.1 ≡ false)
unfolding next_record
next-takes s [] p between e = absurd (none-some p (rw between at e))
next-takes s (c ∷ rest) p between e =
    let after_step = step default_config s c in
    let at_most : LeavesAtMost (length rest) p =
    step-leaves (is_end after_step.1) after_step.0 _ rest _ p (step-between s c).between
    (next-leaves after_step.0 (fields_after after_step.1 [] []) (field_after after_step.1 c []) rest p) e in
    (omega (arith, at_most.0), at_most.1)

-- what a read that was told its bytes found, of the records that were left
gives : {R : Type 0} (rem : R → Option (List ℕ)) (b : Reader R) (o : Option Read) (found : Bool)
    (fields : List (List ℕ)) (z : List ℕ) (n : ℕ) (left : List (List (List ℕ)))
    → NextIs o found fields b.state z → left ≡ records_next (records_from default_config n) o
    → ((p : Read) → o ≡ Some p → b.state ≡ p.1 → z ≡ p.2 → HasLeft rem b (records_from default_config n p.1 p.2))
    → GivesNext rem b found fields left
gives rem b None found fields z n left next e others = rw e next
gives rem b (Some p) found fields z n left next e others = rw e (next.0, next.1, others p refl next.2 next.3)

-- the same of a read whose bytes are told before, and maybe after
gives-told : {R : Type 0} (rem : R → Option (List ℕ)) (b : Reader R) (s : State) (y : List ℕ) (k : Option (List ℕ))
    (found : Bool) (fields : List (List ℕ)) (n : ℕ) (left : List (List (List ℕ)))
    → ReadsNext default_config s (Some y) k found fields b.state → left ≡ records_from default_config (suc n) s y
    → ((p : Read) (z : List ℕ) → k ≡ Some z → next_record default_config s [] [] y ≡ Some p → b.state ≡ p.1 → z ≡ p.2
    → HasLeft rem b (records_from default_config n p.1 p.2))
    → GivesNext rem b found fields left
unfolding records_from
gives-told rem b s y None found fields n left reads e others = absurd reads
gives-told rem b s y (Some z) found fields n left reads e others =
    gives rem b (next_record default_config s [] [] y) found fields z n left reads e (λ p. others p z refl)

-- the records that are left after a read
left-after : {R : Type 0} (rem : R → Option (List ℕ)) (a b : Reader R) (found : Bool) (fields : List (List ℕ))
    (left : List (List (List ℕ))) (turns : ℕ) (h : HasLeft rem a left)
    → h.turns ≡ turns → ReadRecord rem a b found fields → took_first b ≡ true → is_flexible b ≡ is_flexible a
    → GivesNext rem b found fields left
left-after rem a b found fields left zero h t r first flexible = absurd (omega (arith, h.enough, t))
left-after rem a b found fields left (suc n) h t r first flexible =
    gives-told rem b a.state h.bytes (pending_of (rem b.rdr) b) found fields n left
    (rw (h.config, h.source) at r.0) (rw (← t) h.records)
    (λ p z told next state rest. let takes = next-takes a.state h.bytes p h.between next in record {
      plain = r.3 ∙ h.plain;
      config = r.2 ∙ h.config;
      ready = inl first;
      flexible = flexible ∙ h.flexible;
      between = rw state takes.1;
      bytes = z;
      source = rw r.1 told;
      turns = n;
      enough = rw rest (omega (arith, takes.0, h.enough, t));
      records = rw (state, rest) refl;
    })

pub reads-next : {R : Type 0} (rem : R → Option (List ℕ)) (a b : Reader R) (found : Bool) (fields : List (List ℕ))
    (left : List (List (List ℕ))) → HasLeft rem a left
    → ReadRecord rem a b found fields → took_first b ≡ true → is_flexible b ≡ is_flexible a
    → GivesNext rem b found fields left
reads-next rem a b found fields left h r first flexible =
    left-after rem a b found fields left h.turns h refl r first flexible

-- a reader that was just made has all the records left
pub starts : {R : Type 0} (rem : R → Option (List ℕ)) (reader : Reader R) (bytes : List ℕ)
    → reader_trim reader ≡ trim.None → reader_config reader ≡ default_config
    → names_headers reader ≡ false → reader_headers reader ≡ None → is_flexible reader ≡ true
    → reader_state reader ≡ st.StartRecord → source_of rem reader ≡ Some bytes
    → HasLeft rem reader (records default_config bytes)
starts rem reader bytes plain config unnamed none flexible state source = record {
  plain = plain;
  config = config;
  ready = inr (inr (unnamed, none));
  flexible = flexible;
  between = rw state refl;
  bytes = bytes;
  source = source;
  turns = length bytes + 1;
  enough = omega arith;
  records = rw state refl;
}
