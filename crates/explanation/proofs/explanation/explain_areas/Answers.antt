use Rattle.explanation.specs.Whole.{IsRestIn, IsStepIn}
use Rattle.area_candidates.proofs.InsertingLemmas.{first_all, first_more, first_none}
use Rattle.explanation.proofs.Areas.{explains_areas}
use Rattle.explanation.proofs.explanation.explain_areas.Goals as goal

pub loop-view-init : goal.loop-view-init
loop-view-init g c = (
  first_none (IsStepIn c.args.targets.now) c.args.views.now c.args.ways.now.items,
  first_none (IsRestIn c.args.targets.now) c.args.views.now c.args.rests.now.keys,
)

pub loop-view-preserved : goal.loop-view-preserved
loop-view-preserved g c =
    let targets = c.args.targets.now in
    let views = c.args.views.now in
    let i = c.loop-view.view-index in
    let view = c.view-item.result in
    let one = c.in_ok-explain_area.ensures in (
      first_more (IsStepIn targets) views i view c.args.ways.now.items c.loop-view.ways.items c.explain_area.new.ways.items c.loop-view-test.true
          c.view-item.is c.loop-view.invariant.0 one.steps,
      first_more (IsRestIn targets) views i view c.args.rests.now.keys c.loop-view.rests.keys c.explain_area.new.rests.keys c.loop-view-test.true
          c.view-item.is c.loop-view.invariant.1 one.resting,
    )

pub returns : goal.returns
returns g c =
    let targets = c.args.targets.now in
    let views = c.args.views.now in
    let i = c.loop-view.view-index in
    explains_areas views targets c.args.ways.now.items c.loop-view.ways.items c.args.rests.now.keys c.loop-view.rests.keys
    (first_all (IsStepIn targets) views i c.args.ways.now.items c.loop-view.ways.items c.loop-view-test.false c.loop-view.invariant.0)
    (first_all (IsRestIn targets) views i c.args.rests.now.keys c.loop-view.rests.keys c.loop-view-test.false c.loop-view.invariant.1)
