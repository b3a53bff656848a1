-- Databases before and after a change of the cost of one interface (RFC 2328, C.3).
use Rattle.lsa_codec.specs.declared.address.AreaId.{AreaId}
use Rattle.lsdb.specs.declared.section.Section.TheVariants.{Area}
use Rattle.lsdb.specs.Lists.{Lists, lsas_of}
use Rattle.area_graph.specs.declared.cost_change.CostChange.{CostChange}
use Rattle.area_graph.specs.CostChanges.{AreChanged}

-- the LSAs of an area before and after
abbrev pub IsCostChange : AreaId → CostChange → Lists → Lists → Type 0
IsCostChange area change olds news = AreChanged change (lsas_of (Area area) olds) (lsas_of (Area area) news)
