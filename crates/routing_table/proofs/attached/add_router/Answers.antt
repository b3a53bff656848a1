use Rattle.std.proofs.Common.{◌∙◌, sym}
use Rattle.routing_table.specs.Routers.{live_router}
use Rattle.routing_table.proofs.Gathered.{inserted}
use Rattle.routing_table.proofs.attached.add_router.Goals as goal

pub returns-in_ok-insert : goal.returns-in_ok-insert
returns-in_ok-insert g c = λ before from.
    inserted before c.args.found.now.keys c.insert.new.self.keys c.in-Some.router (live_router c.args.lsa.now)
    (sym c.live_router.ensures ∙ c.in-Some.is) c.in_ok-insert.ensures.keys from
