use Rattle.area_graph.proofs.MemberLemmas.{In-from_Contains}
use Rattle.forwarding.specs.Graphs.{routers_of}
use Rattle.loop_report.specs.Atoms.{nets_in_either}
use Rattle.loop_report.proofs.Among.{among_is, among_was, has_prefix}
use Rattle.loop_report.proofs.laws.entries_have_prefixes.Goals as goal

pub returns-clause-was : goal.returns-clause-was
returns-clause-was c = λ was is r net entry one.
    has_prefix was r net (nets_in_either was is) (among_was was is net r (In-from_Contains (routers_of was) r one)) entry

pub returns-clause-is : goal.returns-clause-is
returns-clause-is c = λ was is r net entry one.
    has_prefix is r net (nets_in_either was is) (among_is was is net r (In-from_Contains (routers_of is) r one)) entry
