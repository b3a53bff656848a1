use Rattle.std.proofs.Common.{◌∙◌, ℕ, List, ap, rules, tests}
use Rattle.std.specs.List.{list_any}
use Rattle.std.proofs.lemmas.Iterator.Consumers.{YieldsList-from_first}
use Rattle.std.proofs.lemmas.Iterator.Search.{any_from_yields_List}
use Rattle.audit_routes.specs.ForwardUnreached.{is_forwarded}
use Rattle.audit_routes.proofs.forward_unreached.any_forwarded.Goals as goal

pub returns : goal.returns
returns g c =
    any_from_yields_List is_forwarded _ _ c.any.result c.any.ensures.ran
    (YieldsList-from_first (λ lsa. lsa.now) (λ lsas. lsas) c.lsas.result cc) (λ x b q k. search (rules, tests))
    ∙ ap (λ (lsas : List (List ℕ)). list_any is_forwarded lsas) c.lsas.ensures.lsas
