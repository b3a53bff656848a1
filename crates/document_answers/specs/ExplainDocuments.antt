-- The document about why a route is what it is.
use Rattle.lsa_codec.specs.Prefix.{Net}
use Rattle.lsa_codec.specs.declared.address.RouterId.{RouterId}
use Rattle.lsdb.specs.Lists.{Lists}
use Rattle.explanation.specs.Texts.{ExplanationValue}
use Rattle.explanation_json.specs.Explanations.{explain_reply}
use Rattle.study_answers.specs.Known.{is_attached}
use Rattle.study_questions.specs.ExplainAnswers.{IsExplained}
use Rattle.document_answers.specs.Documented.{DocumentedValue, HasMembers, IfThere}

-- the explanation of a router's route to a prefix
unfoldable pub IsExplainDocument : Lists → RouterId → Net → DocumentedValue → Type 0
IsExplainDocument db router net given =
    IfThere (is_attached db router) given
    ((e : ExplanationValue) × IsExplained db router net e × HasMembers (explain_reply router net e) given)
