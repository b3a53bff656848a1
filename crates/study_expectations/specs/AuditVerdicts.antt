-- Conditions about what the answers may not be trusted for.
use Rattle.std.specs.Prelude.{List}
use Rattle.lsdb.specs.Lists.{Lists}
use Rattle.study_words.specs.declared.audit_kind.AuditKind.{AuditKind}
use Rattle.audit_report.specs.declared.counts.KindCount.{KindCount}
use Rattle.audit_report.specs.Expected.{unlisted, unlisted_found, wrong_counts, wrong_found}
use Rattle.audit_report.specs.Findings.{audit}
use Rattle.study_expectations.specs.Verdicts.{VerdictValue, found, is_none}

-- the kinds that can make a table wrong, in a database that was loaded as another one
abbrev pub wrong_kinds : Lists → Lists → List KindCount
wrong_kinds loaded db = wrong_counts (audit loaded db)

-- there is none
abbrev pub clean_of : List KindCount → VerdictValue
clean_of counts = found (is_none counts) (wrong_found counts)

unfoldable pub clean_verdict : Lists → Lists → VerdictValue
clean_verdict loaded db = clean_of (wrong_kinds loaded db)

-- there is none but those that are listed
abbrev pub listed_of : List AuditKind → List KindCount → VerdictValue
listed_of kinds counts = found (is_none (unlisted kinds counts)) (unlisted_found counts (unlisted kinds counts))

unfoldable pub listed_verdict : Lists → Lists → List AuditKind → VerdictValue
listed_verdict loaded db kinds = listed_of kinds (wrong_kinds loaded db)
