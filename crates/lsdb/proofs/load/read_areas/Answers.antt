use Rattle.std.proofs.Common.{[], ◌∷◌, ◌++◌, ◌∙◌, ap, arith, ◌≡◌, option_map}
use Rattle.std.proofs.lemmas.Result.{err_from_is_err_and}
use Rattle.lsdb.specs.Slots.{section_of, lists_of}
use Rattle.lsdb.specs.steps.View.{head_of, section_slots_of, slots_of}
use Rattle.lsdb.specs.steps.Reading.{at_of}
use Rattle.lsdb.specs.Loading.{area_front_at, first_section_at}
use Rattle.lsdb.proofs.Full.{lists_of-push}
use Rattle.lsdb.proofs.Fronts.{want_after, area_front, first_read, first_section}
use Rattle.lsdb.proofs.Loop.{areas_goes_on, areas_end, areas_done}
use Rattle.lsdb.proofs.load.read_areas.Goals as goal

pub returns-in_err-area-clause-areas : goal.returns-in_err-area-clause-areas
returns-in_err-area-clause-areas g c =
    let p = err_from_is_err_and c.from_residual.result c.from_residual.ensures.1 in
    rw (p.1, p.2) (areas_end c.in_err-area.field-0.0 c.args.count c.loop.counter (option_map head_of c.loop.before)
    (lists_of (slots_of c.loop.areas.items)) (at_of c.loop.at) _ c.loop-test.true c.in_err-area.ensures.area c.loop.invariant.reading)

pub loop-preserved : goal.loop-preserved
loop-preserved g c =
    let seen = lists_of (slots_of c.loop.areas.items) in
    let area = section_of (section_slots_of c.in_ok-area.area) in
    let pushed : lists_of (slots_of c.push.new.self.items) ≡ seen ++ area ∷ [] =
    ap (λ xs. lists_of (slots_of xs)) c.in_ok-push.ensures.items ∙ lists_of-push c.loop.areas.items c.in_ok-area.area in
    record {
      reading =
          rw pushed (areas_goes_on c.args.count c.loop.counter (option_map head_of c.loop.before) seen (at_of c.loop.at)
          (at_of c.in_ok-area.after) area _ c.loop-test.true c.in_ok-area.ensures.area c.loop.invariant.reading);
      same = λ e. absurd (omega (arith, e));
      first =
          λ lt.
          first_read area_front_at c.loop.counter (at_of c.args.start) (at_of c.loop.at) c.loop.invariant.same c.loop.invariant.first
          (area_front (option_map head_of c.loop.before) (at_of c.loop.at) (area, at_of c.in_ok-area.after) c.in_ok-area.ensures.area);
    }

pub returns-clause-areas : goal.returns-clause-areas
returns-clause-areas g c =
    areas_done c.args.count c.loop.counter (option_map head_of c.loop.before)
    (lists_of (slots_of c.loop.areas.items)) (at_of c.loop.at) _ c.loop-test.false c.loop.invariant.reading

pub returns-in_err-area-clause-memory : goal.returns-in_err-area-clause-memory
returns-in_err-area-clause-memory g c =
    let p = err_from_is_err_and c.from_residual.result c.from_residual.ensures.1 in
    rw (p.1, p.2)
    (want_after c.in_err-area.field-0.0 (area_front_at (at_of c.loop.at)) (first_section_at c.args.count (at_of c.args.start))
    (λ ok. first_section c.loop.counter c.args.count (at_of c.args.start) c.loop-test.true
    (first_read area_front_at c.loop.counter (at_of c.args.start) (at_of c.loop.at) c.loop.invariant.same c.loop.invariant.first ok))
    c.in_err-area.ensures.memory)

pub returns-in_err-push-clause-memory : goal.returns-in_err-push-clause-memory
returns-in_err-push-clause-memory g c =
    let p = err_from_is_err_and c.from_residual-in_err-push.result c.from_residual-in_err-push.ensures.1 in
    rw (p.1, p.2) (first_section c.loop.counter c.args.count (at_of c.args.start) c.loop-test.true
    (first_read area_front_at c.loop.counter (at_of c.args.start) (at_of c.loop.at) c.loop.invariant.same c.loop.invariant.first
    (area_front (option_map head_of c.loop.before) (at_of c.loop.at) (section_of (section_slots_of c.in_ok-area.area), at_of c.in_ok-area.after) c.in_ok-area.ensures.area)))
