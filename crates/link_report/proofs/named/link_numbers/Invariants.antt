use Rattle.std.proofs.Common.{◌≡◌, ◌++◌, ◌+◌, List, ℕ, drop, filter, map}
use Rattle.std.specs.List.{enumerate_from}
use Rattle.lsa_codec.specs.declared.link.Link.{Link}
use Rattle.link_report.specs.NamedLinks.{is_named, link_numbers}
use Rattle.link_report.proofs.named.link_numbers.Given as goal

-- the numbers so far, and those of the links that are left
abbrev pub invariant-loop-place : goal.invariant-loop-place
invariant-loop-place g l =
    let left : List (ℕ × Link) = enumerate_from (l.place + 1) (drop l.place l.links.items) in
    l.numbers.items ++ map (λ one. one.0) (filter (λ one. is_named l.name one.0 one.1) left) ≡ link_numbers l.name l.lsa
