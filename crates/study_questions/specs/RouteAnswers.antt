-- The answers about routes and paths.
use Rattle.std.specs.Prelude.{◌≡◌, ℕ, ◌+◌, List, ◌++◌, length, Option, Some, codes}
use Rattle.lsa_codec.specs.declared.address.Addr.{Addr}
use Rattle.lsa_codec.specs.declared.address.RouterId.{RouterId}
use Rattle.lsdb.specs.Lists.{Lists}
use Rattle.study_words.specs.declared.see_word.SeeWord.TheVariants as words
use Rattle.study_text.specs.Shown.{Called}
use Rattle.route_lines.specs.RouteLines.{RouteLineValue}
use Rattle.route_lines.specs.RouteTexts.{route_line}
use Rattle.route_lines.specs.PathLines.{PathValue}
use Rattle.route_lines.specs.PathTexts.{ends_text, path_text}
use Rattle.route_report.specs.Lines.{routes_of}
use Rattle.route_report.specs.Paths.{IsPath}
use Rattle.study_answers.specs.Answers.{AnswerValue, accepted_answer}
use Rattle.study_questions.specs.Texts.{address_after, head_of, number_after, router_after}
use Rattle.study_questions.specs.Listings.{counted}
use Rattle.study_answers.specs.Known.{IfKnown, is_attached, unless_unknown}

-- what the words say in a branch
module _ (called : Called) (branch : ℕ) where
  -- what a router uses, after the router and the address that the line names
  abbrev pub routes_reply : RouterId → Option Addr → List RouteLineValue → List ℕ
  routes_reply router address lines =
      head_of branch words.Routes ++ router_after called (Some router) ++ address_after address ++ counted (route_line called) lines

  unfoldable pub routes_answer : Lists → RouterId → Option Addr → AnswerValue
  routes_answer db router address =
      unless_unknown branch (is_attached db router) (accepted_answer (routes_reply router address (routes_of db router address)))

  -- what becomes of a packet, after the router and the address
  abbrev pub path_reply : RouterId → Addr → PathValue → List ℕ
  path_reply router address path =
      head_of branch words.Path ++ router_after called (Some router) ++ address_after (Some address)
      ++ number_after (length path.steps + length path.loops) ++ codes " " ++ ends_text path.ends ++ codes "\n" ++ path_text called path

  unfoldable pub IsPathAnswer : Lists → RouterId → Addr → AnswerValue → Type 0
  IsPathAnswer db router address answer = IfKnown branch (is_attached db router) answer
      ((path : PathValue) × IsPath db router address path × (answer ≡ accepted_answer (path_reply router address path)))
