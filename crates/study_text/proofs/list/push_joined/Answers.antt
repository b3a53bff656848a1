use Rattle.network_names.specs.Names.{called}
use Rattle.study_text.proofs.Joined.{all_joined}
use Rattle.study_text.proofs.list.push_joined.Goals as goal

pub returns : goal.returns
returns g c =
    all_joined (g.T.Shown.shown_as (called c.args.names.now)) c.args.mark.now c.push_more.result c.args.text.now.items _ _
    c.in-Some.first.now c.in-Some.more.now c.args.items.now c.in_ok-push_to.ensures c.push_more.ensures c.in-Some.ensures.cases.0
