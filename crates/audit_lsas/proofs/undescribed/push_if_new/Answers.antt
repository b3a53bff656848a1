use Rattle.std.proofs.Common.{◌∙◌, sym}
use Rattle.audit_lsas.proofs.Firsts.{is_first, passed_over}
use Rattle.audit_lsas.proofs.undescribed.push_if_new.Goals as goal

pub returns-then-is_of_last : goal.returns-then-is_of_last
returns-then-is_of_last g c =
    passed_over c.args.found.now.items c.args.last c.args.naming (sym c.is_of_last.ensures ∙ c.if-is_of_last.true)

pub returns : goal.returns
returns g c =
    is_first c.args.found.now.items c.push.new.self.items c.args.last c.args.naming (sym c.is_of_last.ensures ∙ c.if-is_of_last.false)
    c.in_ok-push.ensures.items
