use Rattle.std.proofs.Common.{subst}
use Rattle.std.proofs.lemmas.Result.{on_ok_weaker}
use Rattle.area_graph.specs.steps.Drafts.{IsDraft}
use Rattle.area_graph.proofs.DraftSteps.{adds_one}
use Rattle.area_graph.proofs.draft.Draft.add.Goals as goal

pub returns-clause-edges : goal.returns-clause-edges
returns-clause-edges g c =
    on_ok_weaker c.insert.result
    (adds_one c.args.self.now (subst IsDraft c.self.view_is c.self.invariant) c.args.row c.requires.row c.args.edge c.insert.new.self)
    c.insert.ensures.added
