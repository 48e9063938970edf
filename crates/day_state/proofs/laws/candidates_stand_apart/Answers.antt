use Rattle.day_state.proofs.Independence.{answers_stay_apart, fits_apart, order_is_free, may_exchange}
use Rattle.day_state.proofs.laws.candidates_stand_apart.Goals as goal

pub returns : goal.returns
returns c = record { marks = answers_stay_apart; fits = fits_apart; order = order_is_free; exchange = may_exchange }
