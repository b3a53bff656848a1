use Rattle.std.proofs.Common.{None}
use Rattle.std.proofs.lemmas.Result.{err_from_is_err_and}
use Rattle.lsdb.specs.Slots.{lists_of, section_of}
use Rattle.lsdb.specs.steps.View.{slots_of, section_slots_of}
use Rattle.lsdb.specs.steps.Reading.{at_of}
use Rattle.lsdb.specs.Loading.{first_section_at, section_front_at, sections_front_at}
use Rattle.lsdb.proofs.Fronts.{want_after, section_front, areas_front, sections_front}
use Rattle.lsdb.proofs.load.read_sections.Goals as goal

pub returns-in_err-sections-clause-memory : goal.returns-in_err-sections-clause-memory
returns-in_err-sections-clause-memory g c =
    let p = err_from_is_err_and c.from_residual-in_err-sections.result c.from_residual-in_err-sections.ensures.1 in
    rw (p.1, p.2)
    (want_after c.in_err-sections.field-0.0 (first_section_at c.in_ok-count.count (at_of c.in_ok-count.at)) (sections_front_at (at_of c.args.at))
    (sections_front (at_of c.args.at) (at_of c.in_ok-count.at) c.in_ok-count.count c.in_ok-count.ensures) c.in_err-sections.ensures.memory)

pub returns-in_err-as_wide-clause-memory : goal.returns-in_err-as_wide-clause-memory
returns-in_err-as_wide-clause-memory g c =
    let p = err_from_is_err_and c.from_residual-in_err-as_wide.result c.from_residual-in_err-as_wide.ensures.1 in
    let areas = lists_of (slots_of c.in_ok-sections.sections.items) in
    rw (p.1, p.2)
    (want_after c.in_err-as_wide.field-0.0 (section_front_at None (at_of c.in_ok-sections.at)) (sections_front_at (at_of c.args.at))
    (λ ok. sections_front (at_of c.args.at) (at_of c.in_ok-count.at) c.in_ok-count.count c.in_ok-count.ensures
    (areas_front c.in_ok-count.count (at_of c.in_ok-count.at) (areas, at_of c.in_ok-sections.at) c.in_ok-sections.ensures.areas ok))
    c.in_err-as_wide.ensures.memory)

pub returns-in_err-push-clause-memory : goal.returns-in_err-push-clause-memory
returns-in_err-push-clause-memory g c =
    let p = err_from_is_err_and c.from_residual-in_err-push.result c.from_residual-in_err-push.ensures.1 in
    let areas = lists_of (slots_of c.in_ok-sections.sections.items) in
    let as_wide = section_of (section_slots_of c.in_ok-as_wide.as_wide) in
    rw (p.1, p.2) (sections_front (at_of c.args.at) (at_of c.in_ok-count.at) c.in_ok-count.count c.in_ok-count.ensures
    (areas_front c.in_ok-count.count (at_of c.in_ok-count.at) (areas, at_of c.in_ok-sections.at) c.in_ok-sections.ensures.areas
    (section_front None (at_of c.in_ok-sections.at) (as_wide, at_of c.in_ok-as_wide.at) c.in_ok-as_wide.ensures.section)))
