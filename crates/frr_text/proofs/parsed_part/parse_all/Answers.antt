use Rattle.frr_text.specs.Words.{words}
use Rattle.frr_text.proofs.ParsedParts.{parsed_next, parsed_end}
use Rattle.frr_text.proofs.parsed_part.parse_all.Goals as goal

pub loop-word-preserved : goal.loop-word-preserved
loop-word-preserved g c =
    parsed_next c.loop-word.parsed.items c.parse_kind.new.parsed.items c.parse_lsa.new.parsed.items _ c.loop-word.area c.area_at-area.result
    (words c.loop-word.rest.now) c.in-Some._word.now (words c.in-Some.after.now) c.in_ok-parse_kind.ensures c.in_ok-parse_lsa.ensures
    c.area_at-area.ensures c.in-Some.ensures.0 c.loop-word.invariant

pub returns : goal.returns
returns g c =
    parsed_end c.loop-word.parsed.items _ c.loop-word.area (words c.loop-word.rest.now) c.in_default.ensures c.loop-word.invariant
