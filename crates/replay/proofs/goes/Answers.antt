-- `replay::goes` meets its contract. Assumes nothing.
use Rattle.replay.proofs.GoLaws.{offer_goes}
use Rattle.replay.proofs.goes.Goals as goal

pub returns-in-Offer : goal.returns-in-Offer
returns-in-Offer c =
    let t = c.says in
    offer_goes c.args.state c.args.entry t.result t.ensures c.offers.result _ _ c.in-Offer.is c.offers.ensures
