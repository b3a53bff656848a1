-- Prefixes in a set, one part after another.
use Rattle.std.specs.Prelude.{◌≡◌, ◌++◌, List}
use Rattle.lsa_codec.specs.Order.{prefix_cmp}
use Rattle.lsa_codec.specs.Prefix.{Net}
use Rattle.area_graph.specs.Rising.{rising}

-- a set gains these prefixes
pub record Gathers (more old new : List Net) : Type 0 where
  pub gained : (before : List Net) → old ≡ rising prefix_cmp before → new ≡ rising prefix_cmp (before ++ more)
