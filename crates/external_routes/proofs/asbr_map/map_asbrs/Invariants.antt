use Rattle.external_routes.specs.steps.Lookup.{MapsPreferred}
use Rattle.external_routes.proofs.asbr_map.map_asbrs.Given as goal

-- the map has the preferred of the entries so far
abbrev pub invariant-loop-index : goal.invariant-loop-index
invariant-loop-index g l = MapsPreferred l.entries l.index l.asbrs
