use Rattle.std.proofs.lemmas.List.Elements.{All-weaker}
use Rattle.microloops.specs.steps.Groups.{Has}
use Rattle.microloops.proofs.changeover.routers_of.Goals as goal

pub returns-clause-before : goal.returns-clause-before
returns-clause-before g c =
    All-weaker (λ s. Has c.insert_routers.new.routers s.router) (λ s. Has c.insert_routers-2.new.routers s.router)
    (λ s h. c.in_ok-insert_routers-2.ensures.kept s.router h) c.args.before.now c.in_ok-insert_routers.ensures.all
