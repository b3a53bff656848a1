-- What is expected of an audit, and what is found.
use Rattle.std.specs.Prelude.{ℕ, ◌==◌, Bool, not, List, [], ◌++◌, length, filter, map, codes, decimal, bytes_eq}
use Rattle.std.specs.List.{list_any}
use Rattle.study_words.specs.declared.audit_kind.AuditKind.{AuditKind}
use Rattle.study_words.specs.AuditKinds.{audit_kind_text}
use Rattle.study_text.specs.Lists.{joined_or}
use Rattle.audit_report.specs.declared.counts.KindCount.{KindCount}
use Rattle.audit_report.specs.Findings.{FindingValue, wrong}

-- a kind, and how many places it has
abbrev pub kind_count : FindingValue → KindCount
kind_count f = record { kind = f.kind; count = length f.places }

-- the kinds of an audit that can make a table wrong
abbrev pub wrong_counts : List FindingValue → List KindCount
wrong_counts findings = map kind_count (wrong findings)

abbrev pub is_none : List KindCount → Bool
is_none counts = length counts == 0

-- a kind is among some
abbrev pub is_listed : List AuditKind → AuditKind → Bool
is_listed kinds kind = list_any (λ listed. bytes_eq (audit_kind_text listed) (audit_kind_text kind)) kinds

-- those whose kinds are not listed
abbrev pub unlisted : List AuditKind → List KindCount → List KindCount
unlisted kinds counts = filter (λ one. not (is_listed kinds one.kind)) counts

-- ---- texts

abbrev pub count_text : KindCount → List ℕ
count_text one = audit_kind_text one.kind ++ codes " " ++ decimal one.count

abbrev pub counts_text : List KindCount → List ℕ
counts_text counts = joined_or [] (codes ": ") (codes ", ") (map count_text counts)

-- how many kinds can make a table wrong, and these
abbrev pub wrong_found : List KindCount → List ℕ
wrong_found counts = codes "wrong " ++ decimal (length counts) ++ counts_text counts

-- how many can, how many of them are not listed, and these
abbrev pub unlisted_found : List KindCount → List KindCount → List ℕ
unlisted_found counts others = codes "wrong " ++ decimal (length counts) ++ codes ", not listed " ++ decimal (length others) ++ counts_text others
