-- The documents about what the answers may not be trusted for, in a database that was loaded as another one.
use Rattle.std.specs.Prelude.{Option, None, Some}
use Rattle.lsdb.specs.Lists.{Lists}
use Rattle.study_words.specs.declared.audit_kind.AuditKind.{AuditKind}
use Rattle.audit_report.specs.Findings.{audit, places_of}
use Rattle.finding_json.specs.Findings.{findings_reply, places_reply}
use Rattle.document_answers.specs.Documented.{DocumentedValue, HasMembers}

-- the kinds that have a place, or the places of one kind
unfoldable pub IsAuditDocument : Lists → Lists → Option AuditKind → DocumentedValue → Type 0
IsAuditDocument loaded db None given = HasMembers (findings_reply (audit loaded db)) given
IsAuditDocument loaded db (Some kind) given = HasMembers (places_reply kind (places_of loaded db kind)) given
