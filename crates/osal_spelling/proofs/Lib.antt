mod Runs
mod Spelled
