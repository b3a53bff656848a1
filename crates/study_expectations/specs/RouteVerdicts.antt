-- Conditions about routes and paths.
use Rattle.std.specs.Prelude.{◌≡◌, ◌↔◌, ◌&&◌, Bool, true, List, ◌++◌, Option, codes, decimal}
use Rattle.lsa_codec.specs.Prefix.{Net}
use Rattle.lsa_codec.specs.declared.address.Addr.{Addr}
use Rattle.lsa_codec.specs.declared.address.RouterId.{RouterId}
use Rattle.lsdb.specs.Lists.{Lists}
use Rattle.study_words.specs.declared.route_kind.RouteKind.{RouteKind}
use Rattle.study_script.specs.declared.condition.Bound.{Bound}
use Rattle.study_script.specs.declared.condition.Passing.{Passing}
use Rattle.study_text.specs.Shown.{Called}
use Rattle.route_lines.specs.PathLines.{PathValue}
use Rattle.route_lines.specs.PathTexts.{through_text}
use Rattle.route_lines.specs.RouteLines.{RouteLineValue}
use Rattle.route_report.specs.Expected.{found_text, has_route, hops_of, meets}
use Rattle.route_report.specs.Lines.{route_of}
use Rattle.route_report.specs.Passing.{Holds}
use Rattle.route_report.specs.Paths.{IsPath}
use Rattle.study_answers.specs.Known.{is_attached}
use Rattle.study_expectations.specs.Verdicts.{IfRouter, VerdictValue, are_known, found, is_known_passing, is_none_of, unless_no_router}

abbrev pub route_found : Called → Bool → Option RouteLineValue → VerdictValue
route_found called holds line = found holds (found_text called line)

unfoldable pub no_route_verdict : Called → Lists → RouterId → Net → VerdictValue
no_route_verdict called db router net =
    unless_no_router (is_attached db router) (route_found called (is_none_of (route_of db router net)) (route_of db router net))

unfoldable pub hops_verdict : Lists → RouterId → Net → Bound → VerdictValue
hops_verdict db router net bound =
    unless_no_router (is_attached db router)
    (found (meets bound (hops_of (route_of db router net))) (codes "hops " ++ decimal (hops_of (route_of db router net))))

-- what walks to an address do, and whether that is what they have to do
unfoldable pub IsPathFound : Called → Lists → RouterId → Addr → Passing → VerdictValue → Type 0
IsPathFound called db router address through verdict =
    (walked : PathValue) × (holds : Bool) × IsPath db router address walked × ((holds ≡ true) ↔ Holds db router address walked through)
    × (verdict ≡ found holds (through_text called walked))

module _ (called : Called) (baseline db : Lists) where
  unfoldable pub route_verdict : RouterId → Net → Option RouteKind → Option (List RouterId) → Option Bound → VerdictValue
  route_verdict router net kind via cost =
      unless_no_router (is_attached db router && are_known baseline db via)
      (route_found called (has_route kind via cost (route_of db router net)) (route_of db router net))

  unfoldable pub IsPathVerdict : RouterId → Addr → Passing → VerdictValue → Type 0
  IsPathVerdict router address through verdict =
      IfRouter (is_attached db router && is_known_passing baseline db through) verdict (IsPathFound called db router address through verdict)
