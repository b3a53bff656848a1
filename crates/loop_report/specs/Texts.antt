-- The texts of loops and blackholes.
use Rattle.std.specs.Prelude.{ℕ, List, [], ◌∷◌, ◌++◌, codes, map}
use Rattle.lsa_codec.specs.Prefix.{Net}
use Rattle.lsa_codec.specs.Spelling.{prefix_text}
use Rattle.lsa_codec.specs.declared.address.RouterId.{RouterId}
use Rattle.study_text.specs.Lists.{lines_of, listed}
use Rattle.study_text.specs.Shown.{Called, shown}
use Rattle.loop_report.specs.Blackholes.{BlackholeValue}
use Rattle.loop_report.specs.Loops.{LoopValue}

module _ (called : Called) where
  -- a prefix, and the routers at which something is found for its addresses
  abbrev pub at_text : Net → List RouterId → List ℕ
  at_text net routers = prefix_text net ++ codes " at " ++ listed (map (shown called) routers)

  -- `10.4.0.0/16 at r1,r2`
  abbrev pub loop_text : LoopValue → List ℕ
  loop_text loop = at_text loop.net loop.routers

  -- `10.4.0.0/16 at r2`
  abbrev pub blackhole_text : BlackholeValue → List ℕ
  blackhole_text blackhole = at_text blackhole.net (blackhole.router ∷ [])

  abbrev pub loop_line : LoopValue → List ℕ
  loop_line loop = codes "loop " ++ loop_text loop

  abbrev pub blackhole_line : BlackholeValue → List ℕ
  blackhole_line blackhole = codes "blackhole " ++ blackhole_text blackhole ++ codes " from " ++ listed (map (shown called) blackhole.senders)

  abbrev pub loop_lines : List LoopValue → List ℕ
  loop_lines loops = lines_of loop_line loops

  abbrev pub blackhole_lines : List BlackholeValue → List ℕ
  blackhole_lines blackholes = lines_of blackhole_line blackholes
