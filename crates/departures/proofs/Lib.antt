mod AreaIds
mod SlotWalks
mod Sections
mod Refusals
mod LinksOfRouters
mod RouterLsas
mod AreaLsas
