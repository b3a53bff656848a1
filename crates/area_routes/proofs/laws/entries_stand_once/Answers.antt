use Rattle.area_routes.proofs.EntriesOnce.{entries_once}
use Rattle.area_routes.proofs.laws.entries_stand_once.Goals as goal

pub returns : goal.returns
returns c = entries_once
