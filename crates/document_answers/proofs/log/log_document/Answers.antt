use Rattle.std.proofs.Common.{◌≡◌, ℕ, List, [], ◌∷◌, ◌++◌, ◌∙◌, ap, codes, map, subst}
use Rattle.std.specs.String.{string_bytes}
use Rattle.json.specs.Json.{Json, array, string}
use Rattle.json.specs.Value.{items_of}
use Rattle.edit_script.specs.Spelling.{spelling}
use Rattle.study_json.specs.Fields.{HaveNumbers, more_text}
use Rattle.document_answers.specs.OwnDocuments.{IsLogDocument}
use Rattle.document_answers.proofs.Twice.{map_twice}
use Rattle.document_answers.proofs.log.log_document.Goals as goal

pub returns : goal.returns
unfolding IsLogDocument
returns g c =
    let made : map (λ word. string (string_bytes word)) c.deref.result.now ≡ map string (map spelling c.args.planner.now.session.done) =
    ap (map (λ word. string (string_bytes word))) c.deref.ensures.value
    ∙ map_twice string string_bytes c.in_ok-lines.lines.items
    ∙ ap (map string) (c.in_ok-lines.ensures ∙ ap (map spelling) c.done_records.ensures) in
    record {
      text =
          c.in_ok-push_listing.ensures.pushed
          ∙ ap (λ (t : List ℕ). t ++ more_text ((codes "lines", array (items_of (map (λ word. string (string_bytes word)) c.deref.result.now))) ∷ []))
          c.new-text.ensures.items
          ∙ ap (λ (js : List Json). more_text ((codes "lines", array (items_of js)) ∷ [])) made;
      numbers = subst (λ (js : List Json). HaveNumbers ((codes "lines", array (items_of js)) ∷ [])) made c.in_ok-push_listing.ensures.numbers;
    }
