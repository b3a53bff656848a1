use Rattle.std.proofs.Common.{ℕ, List, ◌++◌, option_map, sym, ap, ◌∙◌}
use Rattle.std.specs.Int.{w32, to_be_bytes}
use Rattle.frr_json.specs.Bodies.{attached_bytes_in}
use Rattle.frr_json.proofs.Joined.{each_none, each_next, each_end}
use Rattle.frr_json.proofs.network.with_routers.Goals as goal

pub returns-in_default : goal.returns-in_default
returns-in_default g c =
    sym (each_none attached_bytes_in c.routers.bytes.items c.args.members.now c.routers.member-index c.member-item.result c.routers-test.true c.member-item.is
    (ap (option_map (to_be_bytes w32)) (sym c.in_default.ensures)))
    ∙ c.routers.invariant

pub routers-preserved : goal.routers-preserved
routers-preserved g c =
    sym (each_next attached_bytes_in c.routers.bytes.items c.extend_from_slice.new.self.items (to_be_bytes w32 c.in-Some.router)
    c.args.members.now c.routers.member-index c.member-item.result c.routers-test.true c.member-item.is
    (ap (option_map (to_be_bytes w32)) (sym c.in-Some.ensures))
    (c.in_ok-extend_from_slice.ensures.items ∙ ap (λ (added : List ℕ). c.routers.bytes.items ++ added) c.to_be_bytes.ensures))
    ∙ c.routers.invariant

pub returns : goal.returns
returns g c =
    sym (each_end attached_bytes_in c.routers.bytes.items c.args.members.now c.routers.member-index c.routers-test.false)
    ∙ c.routers.invariant
