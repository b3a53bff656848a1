use Rattle.std.proofs.Common.{List, ap}
use Rattle.std.specs.Prelude.{reverse}
use Rattle.microloops.specs.steps.Groups.{GroupValue}
use Rattle.microloops.specs.steps.Searching.{SearchValue}
use Rattle.microloops.proofs.Paths.{search_new}
use Rattle.microloops.proofs.Members.{state}
use Rattle.microloops.proofs.search.Search.new.Goals as goal

pub returns : goal.returns
returns g c = λ next leads.
    let s = state c.args.routers c.new.result c.new-2.result.items c.new-3.result.entries in
    search_new next s c.new.ensures.empty (ap (λ (gs : List GroupValue). reverse gs) c.new-2.ensures.items) c.new-3.ensures.empty c.new-3.ensures.ordered leads
