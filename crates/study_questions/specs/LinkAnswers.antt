-- The answers about routers, links and networks.
use Rattle.std.specs.Prelude.{ℕ, List, [], ◌∷◌, ◌++◌, Option, None, Some}
use Rattle.lsa_codec.specs.declared.address.RouterId.{RouterId}
use Rattle.lsdb.specs.Lists.{Lists}
use Rattle.routing_table.specs.Routers.{attached_routers}
use Rattle.study_words.specs.declared.see_word.SeeWord.TheVariants as words
use Rattle.study_text.specs.Shown.{Called}
use Rattle.link_report.specs.Links.{LinkValue, links_of_routers}
use Rattle.link_report.specs.LinkTexts.{link_line}
use Rattle.link_report.specs.Networks.{network_values}
use Rattle.link_report.specs.NetworkTexts.{network_line}
use Rattle.link_report.specs.Routers.{router_values}
use Rattle.link_report.specs.RouterTexts.{router_line}
use Rattle.study_answers.specs.Answers.{AnswerValue, accepted_answer}
use Rattle.study_questions.specs.Texts.{head_of, router_after}
use Rattle.study_questions.specs.Listings.{counted, listed}
use Rattle.study_answers.specs.Known.{is_attached, unless_unknown}

-- what the words say in a branch
module _ (called : Called) (branch : ℕ) where
  unfoldable pub routers_answer : Lists → AnswerValue
  routers_answer db = listed branch words.Routers (router_line called) (router_values db)

  unfoldable pub networks_answer : Lists → AnswerValue
  networks_answer db = listed branch words.Networks (network_line called) (network_values db)

  -- the links of some routers, after the router that the line names
  abbrev pub links_text : Option RouterId → List LinkValue → List ℕ
  links_text router links = head_of branch words.Links ++ router_after called router ++ counted (link_line called) links

  unfoldable pub links_answer : Lists → Option RouterId → AnswerValue
  links_answer db None = accepted_answer (links_text None (links_of_routers db (attached_routers db)))
  links_answer db (Some router) = unless_unknown branch (is_attached db router) (accepted_answer (links_text (Some router) (links_of_routers db (router ∷ []))))
