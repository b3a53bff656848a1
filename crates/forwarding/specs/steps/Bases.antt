-- What the tables of one database are calculated from.
use Rattle.std.specs.Prelude.{List, Option}
use Rattle.lsdb.specs.Lists.{Lists, lsas_of}
use Rattle.lsdb.specs.declared.section.Section.TheVariants.{AsWide}
use Rattle.external_routes.specs.ExternalLsas.{AreListedOf}
use Rattle.external_routes.specs.declared.external_lsas.ExternalLsa.{ExternalLsa}
use Rattle.routing_table.specs.AreasTrees.{AreOfDatabase, KeptTreesValue}

-- the graphs and trees, and the list of the AS-external-LSAs, if there is one
pub record BasisValue : Type 0 where
  pub trees : KeptTreesValue
  pub externals : Option (List ExternalLsa)

-- they are of this database
pub record IsBasisOf (db : Lists) (basis : BasisValue) : Type 0 where
  pub trees : AreOfDatabase db basis.trees
  pub externals : AreListedOf (lsas_of AsWide db) basis.externals
