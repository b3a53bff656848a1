-- The command line with its option for the form of the answers.
use Rattle.std.proofs.Common.{◌≡◌, ◌∙◌, Bor, List, [], ◌∷◌, Option, Some, Result, Ok, Err, ap, refl, subst, sym}
use Rattle.std.specs.Prelude.{IfErr, IfOk, codes}
use Rattle.clap.specs.Words.{App, Rule, Text, app_of, fault_of, rule_of}
use Rattle.clap.specs.declared.builder.action.ArgAction.TheVariants.{Set}
use Rattle.clap.specs.declared.builder.arg.Arg.{Arg}
use Rattle.clap.specs.declared.builder.command.Command.{Command}
use Rattle.clap.specs.declared.builder.value_parser.ValueParser.{ValueParser}
use Rattle.clap.specs.declared.builder.value_parser.ValueParser.TheVariants as parser
use Rattle.host_arguments.specs.Commands.{value_rule}
use Rattle.host_arguments.specs.OptionsFaults.{IsRefusal}
use Rattle.host_arguments.specs.declared.fault.OptionsFault.{OptionsFault}
use Rattle.host_arguments.specs.declared.fault.OptionsFault.TheVariants.{OutOfMemory}
use Rattle.ospf_study.specs.CommandLine.{AreFormats, IsFormatRule, OfProgram, ospf_study}

-- an option that takes the words for the forms
pub format_rule_by : (old new : Arg) (given formats : ValueParser) → new ≡ record old { value_parser = new.value_parser } → new.value_parser ≡ Some given
    → given ≡ formats → rule_of old ≡ value_rule (codes "format") Set → AreFormats formats → IsFormatRule (rule_of new)
format_rule_by old new given formats same is by rule are = (
  formats,
  (
    are,
    ap rule_of same ∙ ap (λ (p : Option ValueParser). record (rule_of old) { parser = p }) (is ∙ ap (λ (p : ValueParser). Some p) by)
        ∙ ap (λ (r : Rule). record r { parser = Some formats }) rule,
  ),
)

abbrev bor : {T : Type 0} → T → Bor T
bor x = record { ref_ptr = (0, 0); now = x }

-- where memory runs out first, any such option will do
pub memory_refused : {T : Type 0} (r : Result T OptionsFault) (words : List Text) → r ≡ Err OutOfMemory
    → IfErr r (λ fault. OfProgram (λ app. IsRefusal (fault_of app words) fault))
memory_refused (Ok x) words same = tt
memory_refused (Err fault) words same =
    let is : fault ≡ OutOfMemory = cc in (
      parser.Names (bor (bor (codes "text") ∷ bor (codes "json") ∷ [])),
      (refl, subst (IsRefusal _) (sym is) tt),
    )

pub of_program : {E : Type 0} (r : Result Command E) (formats : ValueParser) → AreFormats formats → IfOk r (λ new. app_of new ≡ ospf_study formats)
    → IfOk r (λ new. OfProgram (λ app. app_of new ≡ app))
of_program (Ok new) formats are is = (formats, (are, is))
of_program (Err e) formats are is = tt

pub refused_of : {T : Type 0} (r : Result T OptionsFault) (formats : ValueParser) (words : List Text) → AreFormats formats
    → IfErr r (IsRefusal (fault_of (ospf_study formats) words)) → IfErr r (λ fault. OfProgram (λ app. IsRefusal (fault_of app words) fault))
refused_of (Ok x) formats words are is = tt
refused_of (Err fault) formats words are is = (formats, (are, is))
