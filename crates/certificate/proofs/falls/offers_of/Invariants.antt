use Rattle.certificate.proofs.falls.offers_of.Given as goal

abbrev pub ghosts-counted_offers : goal.ghosts-counted_offers
ghosts-counted_offers a = record { name = a.blank.name; parts = a.blank.parts }
