-- The text of a slot that a day changes.
use Rattle.std.proofs.Common.{◌≡◌, ◌∙◌, ℕ, ◌++◌, Bool, List, [], Option, None, Some, IsTrue, Bor, is_some}
use Rattle.std.proofs.Common.{option_copied, refl}
use Rattle.std.proofs.lemmas.Bool.{false≢true}
use Rattle.admit_core.specs.State.{State}
use Rattle.admit_core.specs.declared.slot.Slot.{Slot}
use Rattle.admit_core.specs.declared.slot.Slot.TheVariants as slots
use Rattle.admit_core.specs.declared.tables.Tables.{Tables}
use Rattle.intake.specs.declared.terms.DatedTerms.{DatedTerms}
use Rattle.next_morning.specs.Morning.{morning_tables}
use Rattle.next_morning.specs.RowsBack.{daily_rows}
use Rattle.slot_text.specs.Texts.{slot_text}
use Rattle.morning_cli.specs.SlotWanted.{is_daily}
use Rattle.morning_cli.specs.Morning.{morning_text}

-- the rows of the others do not stand in it
daily_text : (dated : Bool) (next : Tables) (slot : Slot) → IsTrue (is_daily slot)
    → slot_text dated (daily_rows next) slot ≡ slot_text dated next slot
daily_text dated next slots.Schools daily = refl
daily_text dated next slots.State daily = refl
daily_text dated next slots.Ceilings daily = refl
daily_text dated next slots.Answers daily = refl
daily_text dated next slots.Groups daily = absurd (false≢true daily)
daily_text dated next slots.Programmes daily = absurd (false≢true daily)
daily_text dated next slots.Rankings daily = absurd (false≢true daily)
daily_text dated next slots.Boarding daily = absurd (false≢true daily)
daily_text dated next slots.Wishes daily = absurd (false≢true daily)
daily_text dated next slots.Chain daily = absurd (false≢true daily)

-- what is known of a value that is lent
pub lent_some : {T : Type 0} (x : Option (Bor T)) → is_some x ≡ is_some (option_copied x)
lent_some None = refl
lent_some (Some t) = refl

pub text_is : (slot : Slot) → IsTrue (is_daily slot) → (t : Tables) (evening : State) (day : ℕ)
    (dated : Option DatedTerms) (flag : Bool) (rows : Tables) (before after text : List ℕ)
    → flag ≡ is_some dated → rows ≡ daily_rows (morning_tables day t evening dated) → before ≡ []
    → after ≡ before ++ slot_text flag rows slot → text ≡ after → text ≡ morning_text slot t evening day dated
text_is slot daily t evening day dated flag rows before after text flagged made begun pushed taken =
    taken ∙ pushed ∙ (λ i. begun i ++ slot_text (flagged i) (made i) slot)
    ∙ daily_text (is_some dated) (morning_tables day t evening dated) slot daily
