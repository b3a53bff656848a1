use Rattle.std.proofs.Common.{◌∙◌, [], List, Option, ℕ, ap}
use Rattle.std.specs.Option.{option_map_or}
use Rattle.std.proofs.lemmas.Result.{IfOk-weaker}
use Rattle.lsa_codec.specs.Links.{links_of}
use Rattle.audit_links.proofs.links.links_in.Goals as goal

pub returns-in-Some : goal.returns-in-Some
returns-in-Some g c =
    IfOk-weaker c.links_of.result _ _ (λ links is. is ∙ ap (λ (o : Option (List ℕ)). option_map_or links_of o []) c.in-Some.ensures) c.links_of.ensures

pub returns-in-None : goal.returns-in-None
returns-in-None g c = c.new.ensures.items ∙ ap (λ (o : Option (List ℕ)). option_map_or links_of o []) c.in-None.ensures
