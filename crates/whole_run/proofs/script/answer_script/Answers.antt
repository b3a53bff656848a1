use Rattle.std.proofs.Common.{◌≡◌, ◌∷◌, refl, rules}
use Rattle.whole_run.specs.steps.Lines.{lines_left}
use Rattle.whole_run.proofs.ScriptLines.{written_line, written_part, written_all, written_end, commands_room, refused_room, commands_line}
use Rattle.whole_run.proofs.ScriptLines.{refused_line, commands_all, refused_all}
use Rattle.whole_run.proofs.script.answer_script.Goals as goal

pub answer_line-requires-clause-room : goal.answer_line-requires-clause-room
answer_line-requires-clause-room g c =
    let left = lines_left c.lines.rest in (
      commands_room _ _ c.args.script.now _ left c.requires.size c.lines.invariant.commands,
      refused_room _ _ c.args.script.now _ left c.requires.size c.lines.invariant.refused,
    )

pub returns-in_err-answer_line-clause-prefix : goal.returns-in_err-answer_line-clause-prefix
returns-in_err-answer_line-clause-prefix g c =
    written_part _ _ _ _ _ _ _ c.first_line.result.0.now (lines_left c.first_line.result.1)
    c.lines.invariant.written (rw c.in-Some.is c.first_line.ensures.lines) c.answer_line.ensures.prefix

pub lines-preserved : goal.lines-preserved
lines-preserved g c =
    let line = c.first_line.result.0.now in
    let more = lines_left c.first_line.result.1 in
    let next : lines_left c.lines.rest ≡ line ∷ more = rw c.in-Some.is c.first_line.ensures.lines in
    record {
      still_open = search rules;
      written = rw c.in_ok-answer_line.ensures.sessions
          (written_line _ _ _ _ _ _ (lines_left c.lines.rest) line more c.lines.invariant.written next c.in_ok-answer_line.ensures.whole);
      commands = rw c.in_ok-answer_line.ensures.sessions
          (commands_line _ _ _ _ (lines_left c.lines.rest) line more c.lines.invariant.commands next c.in_ok-answer_line.ensures.commands);
      refused = rw c.in_ok-answer_line.ensures.sessions
          (refused_line _ _ _ _ (lines_left c.lines.rest) line more c.lines.invariant.refused next c.in_ok-answer_line.ensures.refused);
    }

pub returns-clause-whole : goal.returns-clause-whole
returns-clause-whole g c = written_all _ _ _ _ _ (lines_left c.lines.rest) c.lines.invariant.written (rw c.in_default.is refl)

pub returns-clause-sessions : goal.returns-clause-sessions
returns-clause-sessions g c = written_end _ _ _ _ _ (lines_left c.lines.rest) c.lines.invariant.written (rw c.in_default.is refl)

pub returns-clause-commands : goal.returns-clause-commands
returns-clause-commands g c = commands_all _ _ _ (lines_left c.lines.rest) c.lines.invariant.commands (rw c.in_default.is refl)

pub returns-clause-refused : goal.returns-clause-refused
returns-clause-refused g c = refused_all _ _ _ (lines_left c.lines.rest) c.lines.invariant.refused (rw c.in_default.is refl)
