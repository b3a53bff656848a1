-- The kinds of audit findings.
use Rattle.std.specs.Prelude.{ℕ, List, [], ◌∷◌, Option}
use Rattle.study_words.specs.declared.audit_kind.AuditKind.{AuditKind}
use Rattle.study_words.specs.declared.audit_kind.AuditKind.TheVariants as of
use Rattle.study_words.specs.Named.{named}
use Rattle.study_words.specs.Written.{audit, written}

-- as it is written
abbrev pub audit_kind_text : AuditKind → List ℕ
audit_kind_text w = written (audit w)

abbrev pub audit_kinds : List AuditKind
audit_kinds =
    of.Nssa ∷ of.AreaKind ∷ of.VirtualLink ∷ of.AreaMissing ∷ of.AbrWithoutBackbone ∷ of.AbrWithoutBitB
    ∷ of.SplitArea ∷ of.SummaryRaised ∷ of.SummaryNotDue ∷ of.SummaryMissing ∷ of.Rfc1583 ∷ of.ExternalWithoutBitE
    ∷ of.UndescribedRouter ∷ of.SeveralNetworks ∷ of.DuplicateAddress ∷ of.OwnExternal ∷ of.ForwardUnreached
    ∷ of.OneWayLink ∷ of.UnequalCost ∷ of.PointToMultipoint ∷ of.Drained ∷ of.UnreachedRouter ∷ of.OrphanLsa
    ∷ of.Opaque ∷ of.MaxAge ∷ []

-- the one that a word is, if it is one
abbrev pub audit_kind_of : List ℕ → Option AuditKind
audit_kind_of word = named audit_kind_text audit_kinds word
