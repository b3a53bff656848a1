use Rattle.event_links.specs.Events.{resolved}
use Rattle.event_lsas.proofs.AreasStay.{heads_carried}
use Rattle.event_lsas.proofs.laws.areas_stay.Goals as goal

pub returns : goal.returns
returns c = λ db event new h. heads_carried db (resolved db event) new h
