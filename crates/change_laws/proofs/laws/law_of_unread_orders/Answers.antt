use Rattle.change_laws.proofs.UnreadDays.{order_above_is_never_read}
use Rattle.change_laws.proofs.laws.law_of_unread_orders.Goals as goal

-- src/laws.rt:21:1
pub returns : goal.returns
returns c = record { unread = order_above_is_never_read }
