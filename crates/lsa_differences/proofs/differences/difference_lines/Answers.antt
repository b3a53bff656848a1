use Rattle.std.proofs.Common.{◌++◌, sym, ap, ◌∙◌}
use Rattle.std.specs.List.{flat_map}
use Rattle.std.proofs.lemmas.List.{take_all}
use Rattle.lsa_codec.specs.Order.{area_cmp}
use Rattle.lsdb.specs.declared.section.Section.TheVariants.{AsWide}
use Rattle.lsdb.specs.Slots.{lists_of}
use Rattle.area_graph.specs.Rising.{rising}
use Rattle.lsa_differences.specs.Differences.{area_lines, live_of, section_lines}
use Rattle.lsa_differences.proofs.LiveParts.{area_ids-live}
use Rattle.lsa_differences.proofs.differences.difference_lines.Goals as goal

pub returns : goal.returns
returns g c =
    let baseline = lists_of c.args.baseline.now in
    let now = lists_of c.args.now.now in
    c.in_ok-push_section-2.ensures
    ∙ ap (λ l. l ++ section_lines (live_of baseline) (live_of now) AsWide)
    (c.loop-area.invariant
    ∙ ap (flat_map (area_lines (live_of baseline) (live_of now)))
    (take_all c.loop-area.area-index c.deref-area-items.result.now c.loop-area-test.false ∙ c.deref-area-items.ensures.value ∙ c.in_ok-areas.ensures
    ∙ (λ i. rising area_cmp (sym (area_ids-live baseline) i ++ sym (area_ids-live now) i))))
