use Rattle.std.proofs.Common.{◌∙◌}
use Rattle.link_report.proofs.Costs.{back_shown}
use Rattle.link_report.proofs.link_text.push_back.Goals as goal

pub returns : goal.returns
returns g c =
    back_shown c.push_joined_or.result c.args.text.now.items _ _ c.args.costs.now _ (c.deref.ensures.value ∙ c.in_ok-shown.ensures)
    c.in_ok-push_word.ensures c.push_joined_or.ensures
