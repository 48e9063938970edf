use Rattle.std.proofs.Common.{ap, option_copied, refl, vec_items, ◌∙◌}
use Rattle.morning_cli.proofs.SlotTexts.{lent_some, text_is}
use Rattle.morning_cli.proofs.morning.slot_reply.Goals as goal

pub returns : goal.returns
returns c = λ t same none. (
  refl,
  text_is c.args.slot c.requires.daily t c.args.evening.now c.args.day (option_copied c.args.dated) _ _ _ _ _
      (c.is_some.ensures ∙ lent_some c.args.dated) (c.in_ok-rows.ensures.rows t same none) c.new-text.ensures.bytes
      c.in_ok-push_slot.ensures.bytes (ap vec_items c.into_bytes.ensures.value),
)
