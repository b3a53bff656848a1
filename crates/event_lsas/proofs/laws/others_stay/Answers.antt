use Rattle.std.proofs.Common.{refl}
use Rattle.event_links.specs.Selections.{chosen_in, id_of}
use Rattle.event_lsas.proofs.AreasStay.{other_kept}
use Rattle.event_lsas.proofs.laws.others_stay.Goals as goal

pub returns : goal.returns
returns c = record {
  areas = λ db edit head lsa own other. other_kept edit.change (chosen_in db (id_of head) edit.selection) lsa own other;
  as_wide = λ db edit lsa. refl;
}
