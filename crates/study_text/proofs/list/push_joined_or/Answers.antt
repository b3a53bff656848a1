use Rattle.std.proofs.Common.{sym, ◌∙◌}
use Rattle.network_names.specs.Names.{called}
use Rattle.study_text.proofs.Joined.{all_after}
use Rattle.study_text.proofs.list.push_joined_or.Goals as goal

pub returns : goal.returns
returns g c =
    all_after (g.T.Shown.shown_as (called c.args.names.now)) c.args.mark.now c.push_joined.result c.args.none.now c.args.word.now
    c.args.text.now.items _ _ c.args.items.now (sym c.is_empty.ensures ∙ c.if-is_empty.false) c.in_ok-push_word.ensures
    c.push_joined.ensures
