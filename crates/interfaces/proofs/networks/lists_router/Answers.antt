use Rattle.std.proofs.Common.{rules, tests}
use Rattle.std.specs.Prelude.{◌==◌}
use Rattle.std.proofs.lemmas.Iterator.Search.{any_from_yields_List}
use Rattle.std.proofs.lemmas.Iterator.Consumers.{YieldsList-from_first}
use Rattle.lsa_codec.specs.declared.address.RouterId.{RouterId}
use Rattle.lsa_codec.specs.Views.{attached_of}
use Rattle.interfaces.proofs.networks.lists_router.Goals as goal

pub returns : goal.returns
returns c =
    any_from_yields_List (λ (listed : RouterId). listed.0 == c.args.router.0) _ _ c.any.result c.any.ensures.ran
    (YieldsList-from_first (λ x. x) (λ s. s) (attached_of c.args.lsa.now) c.attached.ensures)
    (λ x b q k. search (rules, tests))
