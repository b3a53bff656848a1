use Rattle.std.proofs.Common.{ℕ, ◌+◌, ◌-◌, List, ◌++◌, sym, ap, ◌∙◌, arith}
use Rattle.std.specs.Int.{w32, to_be_bytes}
use Rattle.frr_text.specs.Words.{words}
use Rattle.frr_text.specs.Bodies.{attached_in}
use Rattle.frr_text.proofs.Reading.{times_none, times_next, times_end}
use Rattle.frr_text.proofs.network.with_routers.Goals as goal

pub returns-in_default : goal.returns-in_default
returns-in_default g c =
    sym (times_none attached_in (to_be_bytes w32) c.routers.bytes.items (c.args.count - c.routers._read) (c.args.count - (c.routers._read + 1))
    (words c.routers.rest.now) (omega arith) (sym c.in_default.ensures))
    ∙ c.routers.invariant

pub routers-preserved : goal.routers-preserved
routers-preserved g c =
    sym (times_next attached_in (to_be_bytes w32) c.routers.bytes.items c.extend_from_slice.new.self.items (c.args.count - c.routers._read)
    (c.args.count - (c.routers._read + 1)) (words c.routers.rest.now) (words c.in-Some.after.now) c.in-Some.router (omega arith) (sym c.in-Some.ensures)
    (c.in_ok-extend_from_slice.ensures.items ∙ ap (λ (added : List ℕ). c.routers.bytes.items ++ added) c.to_be_bytes.ensures))
    ∙ c.routers.invariant

pub returns : goal.returns
returns g c =
    sym (times_end attached_in (to_be_bytes w32) c.routers.bytes.items (c.args.count - c.routers._read) (words c.routers.rest.now) (omega arith))
    ∙ c.routers.invariant
