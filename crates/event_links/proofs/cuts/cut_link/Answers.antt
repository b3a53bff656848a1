use Rattle.std.proofs.Common.{◌≡◌, sym, ◌∙◌}
use Rattle.lsdb.specs.Slots.{lists_of}
use Rattle.event_links.proofs.Edits.{cut_own, cut_other, through}
use Rattle.event_links.proofs.cuts.cut_link.Goals as goal

pub returns-then-is_own : goal.returns-then-is_own
returns-then-is_own g c =
    through c.cut_at.result _ _ (cut_own (lists_of c.args.database.now) c.args.end (sym c.in_ok-is_own.ensures ∙ c.if-is_own.true)) c.cut_at.ensures
