mod Numbers
mod FaultsTake
mod Generator
mod Options
