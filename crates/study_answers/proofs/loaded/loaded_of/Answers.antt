use Rattle.std.proofs.Common.{length, ap, ◌∙◌}
use Rattle.edit_history.specs.Session.{Session}
use Rattle.branches.specs.Branches.{sessions_of}
use Rattle.study_answers.proofs.Beginnings.{found_base, is_found}
use Rattle.study_answers.proofs.loaded.loaded_of.Goals as goal

pub returns-clause-database : goal.returns-clause-database
returns-clause-database g c =
    found_base c.args.branch c.done-done.result (sessions_of c.args.branches.now) (sessions_of c.prepare.new.self) c.in_ok-prepare.ensures.kept
    (c.done-done.ensures ∙ ap (λ (s : Session). length s.done) c.planner-planner.ensures) _ c.in_ok-loaded.ensures.database
    c.in-Some.loaded c.in-Some.is

pub unreachable-requires : goal.unreachable-requires
unreachable-requires g c =
    is_found c.args.branch c.done-done.result (sessions_of c.args.branches.now) (sessions_of c.prepare.new.self) c.in_ok-prepare.ensures.kept
    (c.done-done.ensures ∙ ap (λ (s : Session). length s.done) c.planner-planner.ensures) _ c.in_ok-loaded.ensures.database c.in-None.is
