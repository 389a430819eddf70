-- `Station::fresh_master` meets its contract, field by field. Assumes nothing.
use Rattle.mode_a.proofs.Station.fresh_master.Goals as goal

pub returns : goal.returns
returns c = rw c.fresh_slave.ensures
