use Rattle.std.proofs.Common.{◌≡◌, subst, rules}
use Rattle.lsa_codec.specs.declared.address.AreaId.{AreaId}
use Rattle.lsdb.specs.declared.section.Section.TheVariants.{Area}
use Rattle.lsdb.specs.Lists.{lsas_of}
use Rattle.routing_table.specs.AreaTrees.{IsAreaOf}
use Rattle.routing_table.proofs.kept_trees.KeptTrees.take_spare.Goals as goal

pub returns-clause-area : goal.returns-clause-area
returns-clause-area g c = λ db all.
    let same : c.spare.inside.area ≡ c.args.area = search rules in
    let there : IsAreaOf (lsas_of (Area c.spare.inside.area) db) c.spare.inside.trees = search rules in
    subst (λ (area : AreaId). IsAreaOf (lsas_of (Area area) db) c.spare.inside.trees) same there
