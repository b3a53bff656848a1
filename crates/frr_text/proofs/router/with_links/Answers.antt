use Rattle.std.proofs.Common.{ℕ, ◌+◌, ◌-◌, List, ◌++◌, sym, ap, ◌∙◌, arith}
use Rattle.frr_text.specs.Words.{words}
use Rattle.frr_text.specs.Bodies.{link_in, link_bytes}
use Rattle.frr_text.proofs.Reading.{times_none, times_next, times_end}
use Rattle.frr_text.proofs.router.with_links.Goals as goal

pub returns-in_default : goal.returns-in_default
returns-in_default g c =
    sym (times_none link_in link_bytes c.links.bytes.items (c.args.count - c.links._read) (c.args.count - (c.links._read + 1))
    (words c.links.rest.now) (omega arith) (sym c.in_default.ensures))
    ∙ c.links.invariant

pub links-preserved : goal.links-preserved
links-preserved g c =
    sym (times_next link_in link_bytes c.links.bytes.items c.extend_from_slice.new.self.items (c.args.count - c.links._read)
    (c.args.count - (c.links._read + 1)) (words c.links.rest.now) (words c.in-Some.after.now) c.in-Some.link (omega arith) (sym c.in-Some.ensures)
    (c.in_ok-extend_from_slice.ensures.items ∙ ap (λ (added : List ℕ). c.links.bytes.items ++ added) c.link_bytes.ensures))
    ∙ c.links.invariant

pub returns : goal.returns
returns g c =
    sym (times_end link_in link_bytes c.links.bytes.items (c.args.count - c.links._read) (words c.links.rest.now) (omega arith))
    ∙ c.links.invariant
