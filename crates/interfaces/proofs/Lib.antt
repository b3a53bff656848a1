mod FarEnds
mod Finding
mod FoundInterfaces
mod GraphEnds
mod RisingNumbers
mod RouterLsas
