use Rattle.std.proofs.Common.{ℕ, List, ◌++◌, option_map, sym, ap, ◌∙◌}
use Rattle.frr_text.specs.Bodies.{link_bytes}
use Rattle.frr_json.specs.Bodies.{link_bytes_in}
use Rattle.frr_json.proofs.Joined.{each_none, each_next, each_end}
use Rattle.frr_json.proofs.router.with_links.Goals as goal

pub returns-in_default : goal.returns-in_default
returns-in_default g c =
    sym (each_none link_bytes_in c.links.bytes.items c.args.members.now c.links.member-index c.member-item.result c.links-test.true c.member-item.is
    (ap (option_map link_bytes) (sym c.in_default.ensures)))
    ∙ c.links.invariant

pub links-preserved : goal.links-preserved
links-preserved g c =
    sym (each_next link_bytes_in c.links.bytes.items c.extend_from_slice.new.self.items (link_bytes c.in-Some.link) c.args.members.now
    c.links.member-index c.member-item.result c.links-test.true c.member-item.is (ap (option_map link_bytes) (sym c.in-Some.ensures))
    (c.in_ok-extend_from_slice.ensures.items ∙ ap (λ (added : List ℕ). c.links.bytes.items ++ added) c.link_bytes.ensures))
    ∙ c.links.invariant

pub returns : goal.returns
returns g c =
    sym (each_end link_bytes_in c.links.bytes.items c.args.members.now c.links.member-index c.links-test.false) ∙ c.links.invariant
