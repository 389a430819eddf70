-- What is said of runs of stations, of one and of two.
--     Places    what is asked of a place
--     Runs      a run of one station, what it leads to, its last steps, and what is asked of one step
--     Taken     the block that a step takes from the station's offers
--     Circuit   a run of two: what is heard, what is taken, accepted, printed and confirmed in each direction
pub mod Places
pub mod Runs
pub mod Taken
pub mod Circuit
