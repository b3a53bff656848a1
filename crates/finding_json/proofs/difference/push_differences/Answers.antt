use Rattle.std.proofs.Common.{◌≡◌, ◌∷◌, [], ◌++◌, ◌∙◌, List, ap, codes, map, subst}
use Rattle.json.specs.Json.{Json, array}
use Rattle.json.specs.Value.{items_of}
use Rattle.study_json.specs.Fields.{more_text}
use Rattle.std.proofs.lemmas.Result.{on_ok_weaker}
use Rattle.finding_json.specs.Differences.{difference_json}
use Rattle.finding_json.proofs.difference.push_differences.Goals as goal

pub returns-clause-pushed : goal.returns-clause-pushed
returns-clause-pushed g c =
    on_ok_weaker c.push_listing.result
    (subst
    (λ (js : List Json). c.push_listing.new.text.items ≡ c.args.text.now.items ++ more_text ((codes "differences", array (items_of js)) ∷ []))
    (ap (λ ds. map (λ d. difference_json d.0) ds) c.deref.ensures.value ∙ c.in_ok-shown.ensures))
    c.push_listing.ensures.pushed
