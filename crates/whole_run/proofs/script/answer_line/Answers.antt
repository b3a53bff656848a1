use Rattle.std.proofs.Common.{◌+◌, ◌∙◌, ap, subst, sym, rules}
use Rattle.std.specs.Io.KnownBytes.{Appends}
use Rattle.host_io.specs.WholeText.{AppendsPrefix}
use Rattle.edit_script.specs.Line.{meaning}
use Rattle.branches.specs.Branches.{sessions_of}
use Rattle.whole_run.proofs.ScriptLines.{fault_answered}
use Rattle.whole_run.proofs.script.answer_line.Goals as goal

pub returns-in_ok-write_script_fault-in_default : goal.returns-in_ok-write_script_fault-in_default
returns-in_ok-write_script_fault-in_default g c =
    let answered = fault_answered (sessions_of c.args.branches.now) c.in-Err.fault c.in_default.not-Empty (meaning c.args.line.now) c.in-Err.ensures.value in
    record {
      whole = subst (Appends _ _) (sym answered.text) c.in_ok-write_script_fault-in_default.ensures.whole;
      sessions = answered.same;
      commands = c.count.ensures.commands ∙ ap (λ n. c.args.summary.now.commands + n) (sym answered.one);
      refused = c.count.ensures.refused ∙ ap (λ n. c.args.summary.now.refused + n) (sym answered.refused);
      prefix = subst (AppendsPrefix _ _) (sym answered.text) c.in_ok-write_script_fault-in_default.ensures.prefix;
      failed = search rules;
      memory = search rules;
    }
