-- The documents about routes and paths.
use Rattle.std.specs.Prelude.{Option}
use Rattle.lsa_codec.specs.declared.address.Addr.{Addr}
use Rattle.lsa_codec.specs.declared.address.RouterId.{RouterId}
use Rattle.lsdb.specs.Lists.{Lists}
use Rattle.route_lines.specs.PathLines.{PathValue}
use Rattle.route_report.specs.Lines.{routes_of}
use Rattle.route_report.specs.Paths.{IsPath}
use Rattle.study_documents.specs.Replies.{path_reply, routes_reply}
use Rattle.study_answers.specs.Known.{is_attached}
use Rattle.document_answers.specs.Documented.{DocumentedValue, HasMembers, IfThere}

-- what a router uses
unfoldable pub IsRoutesDocument : Lists → RouterId → Option Addr → DocumentedValue → Type 0
IsRoutesDocument db router address given =
    IfThere (is_attached db router) given (HasMembers (routes_reply router address (routes_of db router address)) given)

-- what becomes of a packet
unfoldable pub IsPathDocument : Lists → RouterId → Addr → DocumentedValue → Type 0
IsPathDocument db router address given =
    IfThere (is_attached db router) given
    ((path : PathValue) × IsPath db router address path × HasMembers (path_reply router address path) given)
