mod Runs
mod LowFirst
mod FirstBad
