use Rattle.std.proofs.Common.{◌∙◌, Bool, Option, None, Some, cond, sym, ap}
use Rattle.lsa_codec.specs.declared.address.AreaId.{AreaId}
use Rattle.audit_topology.specs.Networks.{OfPrefix, of_prefix}
use Rattle.audit_topology.proofs.networks.network_if_in_use.Goals as goal

-- the network, if it is in use
abbrev if_used : OfPrefix → Bool → Option OfPrefix
if_used network b = cond b (Some network) None

pub returns-then-not-branch : goal.returns-then-not-branch
returns-then-not-branch g c =
    ap (if_used (of_prefix c.args.area.now.area c.args.prefix c.args.address)) (sym c.if-not-branch.true ∙ c.in_ok-is_in_use.ensures)

pub returns : goal.returns
returns g c =
    ap (λ (a : AreaId). Some (of_prefix a c.args.prefix c.args.address)) c.area.ensures
    ∙ ap (if_used (of_prefix c.args.area.now.area c.args.prefix c.args.address)) (sym c.if-not-branch.false ∙ c.in_ok-is_in_use.ensures)
