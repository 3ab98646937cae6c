mod Written
mod Turns
mod Servings
mod Driving
mod Runs
mod Made
