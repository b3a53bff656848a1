use Rattle.std.proofs.Common.{◌≡◌, ◌≤◌, ◌∙◌, Bool, true, false, length, get_or, subst, arith}
use Rattle.std.specs.Bool.{OnFalse}
use Rattle.std.proofs.lemmas.List.{get_or_default}
use Rattle.next_hops.specs.declared.hop.Hop.{Hop}
use Rattle.next_hops.specs.steps.Table.{StaysAsItIs}
use Rattle.next_hops.proofs.Inserted.{parted_by}
use Rattle.next_hops.proofs.Passages.{StayAsTheyAre-searched, first_attached}
use Rattle.next_hops.proofs.passage.has_attached.Goals as goal

on_false_weaker : {P Q : Type 0} (b : Bool) → (P → Q) → OnFalse b P → OnFalse b Q
on_false_weaker true f p = tt
on_false_weaker false f p = f p

pub returns-in-Some : goal.returns-in-Some
returns-in-Some c =
    let hops = c.args.hops.now in
    let place = c.in-Err.place in
    let hop = c.in-Some.hop.now in
    let parts = parted_by _ c.hop_order.ensures.order hops first_attached place c.requires c.in-Err.ensures.position in
    let read : hop ≡ get_or hops place hop = c.in-Some.ensures.lookup.1 in
    on_false_weaker c.is_attached.result
    (λ stays. StayAsTheyAre-searched hops place c.requires parts.0 parts.1
    (λ d within. subst (λ (h : Hop). StaysAsItIs h) (read ∙ get_or_default hops place hop d within) stays))
    c.is_attached.ensures

pub returns-in-None : goal.returns-in-None
returns-in-None c =
    let hops = c.args.hops.now in
    let place = c.in-Err.place in
    let parts = parted_by _ c.hop_order.ensures.order hops first_attached place c.requires c.in-Err.ensures.position in
    let past : length hops ≤ place = c.in-None.ensures.lookup.3 in
    StayAsTheyAre-searched hops place c.requires parts.0 parts.1 (λ d within. absurd (omega arith))
