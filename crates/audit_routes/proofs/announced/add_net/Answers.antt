use Rattle.std.proofs.Common.{◌∙◌, [], sym, ap}
use Rattle.std.specs.List.{cons_option}
use Rattle.lost_routes.proofs.GatheredLemmas.{gathers_one, gathers_same}
use Rattle.audit_routes.proofs.announced.add_net.Goals as goal

pub returns-in_ok-insert : goal.returns-in_ok-insert
returns-in_ok-insert g c =
    gathers_same _ _ c.args.nets.now.keys c.insert.new.self.keys (ap (λ o. cons_option o []) (sym c.in-Some.is ∙ c.announced_net.ensures))
    (gathers_one c.in-Some.net c.args.nets.now.keys c.insert.new.self.keys c.in_ok-insert.ensures.keys)
