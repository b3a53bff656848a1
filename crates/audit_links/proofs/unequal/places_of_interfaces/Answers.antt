use Rattle.link_report.proofs.NumberedLemmas.{numbered_all, numbered_more}
use Rattle.audit_links.specs.Unequal.{place_if_unequal, places_of_interfaces}
use Rattle.audit_links.proofs.Taking.{takes_given}
use Rattle.audit_links.proofs.unequal.places_of_interfaces.Goals as goal

pub loop-before-preserved : goal.loop-before-preserved
loop-before-preserved g c =
    let n = c.loop-before.before in
    numbered_more (takes_given (place_if_unequal c.args.area.now c.args.router)) c.args.interfaces.now n n _ c.loop-before.places.items _ _
    c.loop-before-test.true c.loop-before.invariant c.in_ok-push_place.ensures

pub returns : goal.returns
returns g c =
    let n = c.loop-before.before in
    numbered_all (takes_given (place_if_unequal c.args.area.now c.args.router)) c.args.interfaces.now n n c.loop-before.places.items
    (places_of_interfaces c.args.area.now c.args.router c.args.interfaces.now) c.loop-before-test.false c.loop-before.invariant
