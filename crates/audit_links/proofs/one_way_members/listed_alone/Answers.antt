use Rattle.std.proofs.Common.{◌∙◌, sym, ap}
use Rattle.std.proofs.lemmas.Result.{IfOk-weaker}
use Rattle.lsa_codec.specs.Key.{key_of}
use Rattle.audit_links.specs.OneWay.{listed_by}
use Rattle.audit_links.proofs.Members.{listed_nowhere, listed_where}
use Rattle.audit_links.proofs.one_way_members.listed_alone.Goals as goal

pub listed_by-requires : goal.listed_by-requires
listed_by-requires g c = c.key.ensures ∙ ap key_of (sym c.in-Some.ensures.0)

pub returns-in-Some : goal.returns-in-Some
returns-in-Some g c =
    IfOk-weaker c.listed_by.result _ _
    (λ listed is. is ∙ ap (listed_by c.args.area.now) c.in-Some.ensures.0 ∙ listed_where c.args.area.now c.args.lsa.now c.in-Some.ensures.1)
    c.listed_by.ensures

pub returns-in-None : goal.returns-in-None
returns-in-None g c = c.new.ensures.items ∙ listed_nowhere c.args.area.now c.args.lsa.now c.in-None.ensures
