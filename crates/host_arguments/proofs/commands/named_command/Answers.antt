use Rattle.std.proofs.Common.{◌∙◌, ap}
use Rattle.clap.specs.Simple.{app_of_fields}
use Rattle.host_arguments.specs.Commands.{with_version}
use Rattle.host_arguments.proofs.commands.named_command.Goals as goal

-- of the fields that the parser reads, only the version is set
pub returns : goal.returns
returns c =
    ap app_of_fields c.after_help.ensures ∙ ap app_of_fields c.version.ensures
    ∙ ap with_version (ap app_of_fields c.about.ensures ∙ ap app_of_fields c.in_ok-bin_name.ensures.0 ∙ c.new.ensures.app)
