use Rattle.std.proofs.Common.{◌∙◌, ap, sym, drop, length, List, ℕ}
use Rattle.std.specs.Int.{div_ceil}
use Rattle.flags.specs.Words.{flags_of}
use Rattle.std.proofs.lemmas.List.{take_at}
use Rattle.flags.proofs.Bits.{same_count}
use Rattle.flags.proofs.words.Flags.set_from.Goals as goal

pub copy_from_slice-requires : goal.copy_from_slice-requires
copy_from_slice-requires c =
    let f = c.self.inside in
    let g = c.other.inside in
    let long = rw (sym c.self.view_is, sym c.other.view_is) at c.requires in
    ap (λ (l : List ℕ). length l) c.as_mut_slice.ensures.value
    ∙ c.self.invariant
    ∙ ap (λ n. div_ceil n 64) (same_count f.words.items g.words.items f.count g.count long)
    ∙ sym c.other.invariant
    ∙ sym (ap (λ (l : List ℕ). length l) c.as_slice.ensures.value)

pub returns : goal.returns
returns c =
    let f = c.self.inside in
    let g = c.other.inside in
    let long = rw (sym c.self.view_is, sym c.other.view_is) at c.requires in
    let new = c.copy_from_slice.new.self in
    let full = c.copy_from_slice.ensures.len ∙ c.as_mut_slice.ensures.len in
    ap (λ (ws : List ℕ). flags_of ws f.count)
    (take_at new (drop (length new) f.words.items) f.words.len full
    ∙ c.copy_from_slice.ensures.after ∙ c.as_slice.ensures.value)
    ∙ ap (flags_of g.words.items) (same_count f.words.items g.words.items f.count g.count long)
    ∙ c.other.view_is
