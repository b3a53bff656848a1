use Rattle.std.proofs.Common.{◌≡◌, Some, None, sym, ap, ◌∙◌}
use Rattle.std.specs.List.{position}
use Rattle.lsa_changes.specs.Links.{is_link}
use Rattle.lsa_changes.proofs.FirstLinks.{first_by_place, none_by_place}
use Rattle.lsa_changes.proofs.link.take_first.Goals as goal

pub returns-in_err-place-clause-first : goal.returns-in_err-place-clause-first
returns-in_err-place-clause-first g c =
    let p = is_link c.args.link in
    let none : position p c.args.links.now.items ≡ None = ap (position p) (sym c.deref.ensures.value) ∙ sym c.in_err-place.ensures in
    c.from_residual.ensures ∙ sym (none_by_place p c.args.links.now.items none).first

pub returns-in_err-place-clause-others : goal.returns-in_err-place-clause-others
returns-in_err-place-clause-others g c =
    let p = is_link c.args.link in
    let none : position p c.args.links.now.items ≡ None = ap (position p) (sym c.deref.ensures.value) ∙ sym c.in_err-place.ensures in
    sym (none_by_place p c.args.links.now.items none).rest

pub returns-clause-first : goal.returns-clause-first
returns-clause-first g c =
    let p = is_link c.args.link in
    let at : position p c.args.links.now.items ≡ Some c.in_ok-place.place = ap (position p) (sym c.deref.ensures.value) ∙ sym c.in_ok-place.ensures in
    ap Some c.remove.ensures.value ∙ sym (first_by_place p c.args.links.now.items c.in_ok-place.place c.remove.result at).first

pub returns-clause-others : goal.returns-clause-others
returns-clause-others g c =
    let p = is_link c.args.link in
    let at : position p c.args.links.now.items ≡ Some c.in_ok-place.place = ap (position p) (sym c.deref.ensures.value) ∙ sym c.in_ok-place.ensures in
    c.remove.ensures.items ∙ sym (first_by_place p c.args.links.now.items c.in_ok-place.place c.remove.result at).rest
