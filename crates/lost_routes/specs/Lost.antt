-- The prefixes for which a router had an entry in a baseline, and has none now.
use Rattle.std.specs.Prelude.{Bool, not, List, filter}
use Rattle.lsa_codec.specs.Order.{prefix_cmp}
use Rattle.lsa_codec.specs.Prefix.{Net}
use Rattle.area_graph.specs.Rising.{rising}
use Rattle.forwarding.specs.Matches.{RouterValue}
use Rattle.router_entries.specs.Entries.{has_entry, nets_of}
use Rattle.lost_routes.specs.Announced.{AnnouncedValue, is_announced}

-- a router has no entry for a prefix: neither a route of its table (RFC 2328, 11), nor an external prefix of its own (16.4 (2))
abbrev pub lacks : RouterValue → Net → Bool
lacks r net = not (has_entry r net)

-- the prefixes of the entries in the baseline for which the router has none now, in order
abbrev pub missing : RouterValue → RouterValue → List Net
missing was is = rising prefix_cmp (filter (lacks is) (nets_of was))

-- what a router has no entry for any more: prefixes that somebody announces, and prefixes that nobody does
pub record LostValue : Type 0 where
  pub lost : List Net
  pub gone : List Net

abbrev pub lost_routes : AnnouncedValue → AnnouncedValue → RouterValue → RouterValue → LostValue
lost_routes baseline now was is = record {
  lost = filter (is_announced baseline now) (missing was is);
  gone = filter (λ net. not (is_announced baseline now net)) (missing was is);
}
