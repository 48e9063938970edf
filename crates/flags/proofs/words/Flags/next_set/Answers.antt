use Rattle.std.proofs.Common.{ℕ, ◌/◌, Option, None, Some, arith, inl, inr, subst, sym}
use Rattle.std.proofs.lemmas.Bool.{cases_lt, le-ltb, lt-ltb}
use Rattle.std.proofs.lemmas.List.{get_or_read}
use Rattle.flags.specs.Words.{IsNextBit, IsNextSet}
use Rattle.flags.proofs.Bits.{word_of}
use Rattle.flags.proofs.NextSet.{first_set, none_at_all, none_left, none_on}
use Rattle.flags.proofs.words.Flags.next_set.Goals as goal

pub index-requires : goal.index-requires
index-requires c =
    let f = c.self.inside in
    omega (
      arith,
      word_of c.args.self.now f.words.items f.count c.loop-place.place c.self.view_is c.self.invariant
          (omega (arith, c.len-count.ensures, c.loop-place-test.true)),
      f.words.ok.0,
    )

pub returns-in-Some : goal.returns-in-Some
returns-in-Some c =
    let f = c.self.inside in
    let flags = c.args.self.now in
    let from = c.args.from in
    let p = c.loop-place.place in
    let n = c.in-Some.found in
    let Next = λ (o : Option ℕ). IsNextSet flags from o in
    let here = word_of flags f.words.items f.count p c.self.view_is c.self.invariant
    (omega (arith, c.len-count.ensures, c.loop-place-test.true)) in
    let read = get_or_read f.words.items (p / 64) c.index.result.now here c.index.ensures 0 in
    let first = subst (λ word. IsNextBit word p (Some n)) read c.in-Some.ensures in
    elim (cases_lt n c.len-count.result) [
      | inl within ↦
          subst Next (sym (rw (lt-ltb n c.len-count.result within) at c.then_some.ensures))
          (first_set flags f.words.items f.count from p c.self.view_is c.loop-place.invariant n first
          (omega (arith, within, c.len-count.ensures)))
      | inr past ↦
          subst Next (sym (rw (le-ltb n c.len-count.result past) at c.then_some.ensures))
          (none_at_all flags f.words.items f.count from p c.self.view_is c.loop-place.invariant n first
          (omega (arith, past, c.len-count.ensures)))
    ]

pub loop-place-smaller : goal.loop-place-smaller
loop-place-smaller c =
    omega (arith, c.saturating_add-place.ensures, c.loop-place-test.true, c.len-count.type_inv)

pub loop-place-preserved : goal.loop-place-preserved
loop-place-preserved c =
    let f = c.self.inside in
    let flags = c.args.self.now in
    let p = c.loop-place.place in
    let here = word_of flags f.words.items f.count p c.self.view_is c.self.invariant
    (omega (arith, c.len-count.ensures, c.loop-place-test.true)) in
    let read = get_or_read f.words.items (p / 64) c.index.result.now here c.index.ensures 0 in
    none_on flags f.words.items f.count c.args.from p c.self.view_is c.loop-place.invariant
    c.saturating_add-place.result (subst (λ word. IsNextBit word p None) read c.in_default.ensures)
    (omega (arith, c.saturating_add-place.ensures, c.loop-place-test.true, c.len-count.type_inv))
    (omega (arith, c.saturating_add-place.ensures))

pub returns : goal.returns
returns c =
    none_left c.args.self.now c.args.from c.loop-place.place
    (omega (arith, c.len-count.ensures, c.loop-place-test.false)) c.loop-place.invariant
