mod Duo
mod DuoTrees
mod FlightTrees
