use Rattle.std.proofs.Common.{◌≡◌, ◌++◌, ℕ, drop, map}
use Rattle.std.specs.List.{enumerate_from}
use Rattle.interfaces.specs.declared.interface.Interface.{Interface}
use Rattle.link_report.specs.declared.ages.Ages.TheVariants.{Live}
use Rattle.link_report.specs.Links.{LinkValue, interface_numbered, link_value, values_of}
use Rattle.link_report.proofs.link_line.push_links.Given as goal

-- the links so far, and those that are left
abbrev pub invariant-loop-number : goal.invariant-loop-number
invariant-loop-number g l =
    let one : ℕ × Interface → LinkValue = λ p. link_value Live l.area l.router p.0 (interface_numbered p.0 l.all.items) p.1 in
    l.lines.items ++ map one (enumerate_from l.number (drop l.number l.all.items)) ≡ l.initial.lines.items ++ values_of l.router l.area l.all.items
