use Rattle.std.proofs.Common.{◌≡◌, take}
use Rattle.study_documents.specs.Compared.{changes_among}
use Rattle.study_documents.proofs.compared.changes_among.Given as goal

-- those of the prefixes so far
abbrev pub invariant-loop-prefix : goal.invariant-loop-prefix
invariant-loop-prefix g l = l.changes.items ≡ changes_among l.before l.now (take l.prefix-index l.prefixes)
