use Rattle.event_links.specs.Interfaces.{is_among}
use Rattle.event_lsas.proofs.Removals.{removed_without}
use Rattle.event_lsas.proofs.RouterLinks.{long}
use Rattle.event_lsas.proofs.laws.removed_links_are_gone.Goals as goal

pub returns : goal.returns
returns c = record {
  links = λ chosen lsa new accepted kind some is.
      c.links_after_removal.ensures.links (is_among chosen) lsa new accepted kind (removed_without chosen lsa new (long lsa accepted kind) some is);
  keeps = λ chosen lsa new accepted kind some is.
      c.makers_keep_the_key.ensures.links (is_among chosen) lsa new accepted kind (removed_without chosen lsa new (long lsa accepted kind) some is);
}
