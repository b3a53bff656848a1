use Rattle.std.specs.List.{AllZip}
use Rattle.area_graph.specs.CostChanges.{IsChangedLink}
use Rattle.area_graph.proofs.cost_change.are_changed_links.Given as goal

-- all links are the same in this sense where those that are left are
abbrev pub invariant-loop-old : goal.invariant-loop-old
invariant-loop-old l = AllZip (IsChangedLink l.change) l.olds l.news → AllZip (IsChangedLink l.fn.change) l.fn.olds l.fn.news
