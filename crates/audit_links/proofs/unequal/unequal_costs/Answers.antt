use Rattle.std.proofs.Common.{◌∙◌, List, ap}
use Rattle.std.proofs.lemmas.Result.{IfOk-weaker}
use Rattle.interfaces.specs.declared.interface.Interface.{Interface}
use Rattle.interfaces.specs.Routers.{interfaces_in}
use Rattle.audit_links.specs.Unequal.{places_of_interfaces}
use Rattle.audit_links.proofs.unequal.unequal_costs.Goals as goal

pub returns : goal.returns
returns g c =
    IfOk-weaker c.places_of_interfaces.result _ _
    (λ places is. is
    ∙ ap (λ (all : List Interface). places_of_interfaces c.args.area.now c.args.router all)
    (c.deref.ensures.value ∙ c.in_ok-interfaces.ensures ∙ λ i. interfaces_in (c.database.ensures i) (c.area.ensures i) c.args.router))
    c.places_of_interfaces.ensures
