use Rattle.std.proofs.Common.{◌∙◌, List, ap, sym}
use Rattle.std.proofs.lemmas.Result.{IfOk-weaker}
use Rattle.lsa_codec.specs.Prefix.{Net}
use Rattle.lsdb.specs.declared.section.Section.TheVariants.{AsWide}
use Rattle.lsdb.specs.Lists.{lsas_of}
use Rattle.lsdb.specs.Slots.{lists_of}
use Rattle.audit_routes.specs.ForwardUnreached.{unreached_place}
use Rattle.audit_routes.specs.Inside.{reached_nets}
use Rattle.audit_routes.specs.InOrder.{found_in_order}
use Rattle.audit_routes.proofs.Forwarded.{none_unreached}
use Rattle.audit_routes.proofs.forward_unreached.forward_unreached_places.Goals as goal

pub returns-then-not-any_forwarded : goal.returns-then-not-any_forwarded
returns-then-not-any_forwarded g c =
    let db = lists_of c.args.database.now in
    c.new.ensures.items
    ∙ sym (none_unreached (reached_nets db) (lsas_of AsWide db)
    (sym c.any_forwarded.ensures ∙ c.if-not-any_forwarded.true))

pub returns : goal.returns
returns g c =
    IfOk-weaker c.places_of.result _ _
    (λ v h. h
    ∙ ap (λ (nets : List Net). found_in_order (unreached_place nets) (lsas_of AsWide (lists_of c.args.database.now)))
    (c.deref.ensures.value ∙ c.in_ok-nets.ensures))
    c.places_of.ensures
