-- What each kind of findings means, and what to do about it.
use Rattle.std.specs.Prelude.{ℕ, Bool, true, false, List, codes}
use Rattle.study_words.specs.declared.audit_kind.AuditKind.{AuditKind}
use Rattle.study_words.specs.declared.audit_kind.AuditKind.TheVariants as kind
use Rattle.audit_report.specs.declared.meanings.Class.{Class}
use Rattle.audit_report.specs.declared.meanings.Class.TheVariants.{Wrong, Note}

-- ---- classes

abbrev pub class_text : Class → List ℕ
class_text Wrong = codes "wrong"
class_text Note = codes "note"

-- findings of class `wrong` can make a table wrong, those of class `note` cannot
abbrev pub class_of : AuditKind → Class
class_of kind.Nssa = Wrong
class_of kind.AreaKind = Wrong
class_of kind.VirtualLink = Wrong
class_of kind.AreaMissing = Wrong
class_of kind.AbrWithoutBackbone = Wrong
class_of kind.AbrWithoutBitB = Wrong
class_of kind.SplitArea = Wrong
class_of kind.SummaryRaised = Wrong
class_of kind.SummaryNotDue = Wrong
class_of kind.SummaryMissing = Wrong
class_of kind.Rfc1583 = Wrong
class_of kind.ExternalWithoutBitE = Wrong
class_of kind.UndescribedRouter = Wrong
class_of kind.SeveralNetworks = Wrong
class_of kind.DuplicateAddress = Wrong
class_of kind.OwnExternal = Note
class_of kind.ForwardUnreached = Note
class_of kind.OneWayLink = Note
class_of kind.UnequalCost = Note
class_of kind.PointToMultipoint = Note
class_of kind.Drained = Note
class_of kind.UnreachedRouter = Note
class_of kind.OrphanLsa = Note
class_of kind.Opaque = Note
class_of kind.MaxAge = Note

abbrev pub is_wrong_class : Class → Bool
is_wrong_class Wrong = true
is_wrong_class Note = false

abbrev pub is_wrong : AuditKind → Bool
is_wrong k = is_wrong_class (class_of k)

-- ---- texts

-- what a finding means
unfoldable pub meaning_text : AuditKind → List ℕ
meaning_text kind.Nssa = codes "type 7 LSAs are left out, so routes are missing"
meaning_text kind.AreaKind = codes "bit E of its options does not fit the kind of the area: an NSSA, or a dump with a wrong kind"
meaning_text kind.VirtualLink = codes "virtual links and transit areas are left out"
meaning_text kind.AreaMissing = codes "a border router with one area: the others are not in the dump, or it lost them"
meaning_text kind.AbrWithoutBackbone = codes "by RFC 3509 (FRR, Cisco) it is no border router, by RFC 2328 it is one"
meaning_text kind.AbrWithoutBitB = codes "it is in several areas and does not call itself a border router"
meaning_text kind.SplitArea = codes "its parts see each other only by summaries that border routers make then"
meaning_text kind.SummaryRaised = codes "a drained border router raises its summaries; refresh takes the raise away"
meaning_text kind.SummaryNotDue = codes "a range, a filter, or an edit that has not reached it; refresh changes it"
meaning_text kind.SummaryMissing = codes "its originator announces it by RFC 2328, and refresh makes none"
meaning_text kind.Rfc1583 = codes "with RFC1583Compatibility another route is taken"
meaning_text kind.ExternalWithoutBitE = codes "no router uses it, since its originator's bit E is clear"
meaning_text kind.UndescribedRouter = codes "its router-LSA is not in the dump"
meaning_text kind.SeveralNetworks = codes "a LAN in parts: which part has an address is unknown"
meaning_text kind.DuplicateAddress = codes "which router has the address is unknown"
meaning_text kind.OwnExternal = codes "table shows another way for a prefix that the router announces itself"
meaning_text kind.ForwardUnreached = codes "no router uses it, since its forwarding address has no route"
meaning_text kind.OneWayLink = codes "no path uses it (RFC 2328, 16.1)"
meaning_text kind.UnequalCost = codes "the ways to and from differ"
meaning_text kind.PointToMultipoint = codes "table shows one hop for several neighbors"
meaning_text kind.Drained = codes "all its links cost 65535, so little passes through it"
meaning_text kind.UnreachedRouter = codes "no router of the area reaches it: it is down or cut off"
meaning_text kind.OrphanLsa = codes "its originator is not described, so nobody uses it"
meaning_text kind.Opaque = codes "nothing is calculated from it"
meaning_text kind.MaxAge = codes "it is being flushed, and no table uses it"

-- what to do about it
unfoldable pub action_text : AuditKind → List ℕ
action_text kind.Nssa = codes "do not trust routes of this area"
action_text kind.AreaKind = codes "do not trust external routes of this area"
action_text kind.VirtualLink = codes "do not trust routes over the backbone"
action_text kind.AreaMissing = codes "add captures of its other areas"
action_text kind.AbrWithoutBackbone = codes "compare its table with the router's own"
action_text kind.AbrWithoutBitB = codes "compare its table with the router's own"
action_text kind.SplitArea = codes "add these by add-summary"
action_text kind.SummaryRaised = codes "do not refresh"
action_text kind.SummaryNotDue = codes "refresh after edits; in the loaded database do not refresh"
action_text kind.SummaryMissing = codes "add-summary after edits; in the loaded database a range or filter"
action_text kind.Rfc1583 = codes "look at the setting of the routers"
action_text kind.ExternalWithoutBitE = codes "a router that announces externals sets bit E"
action_text kind.UndescribedRouter = codes "complete the capture"
action_text kind.SeveralNetworks = codes "do not trust paths to it"
action_text kind.DuplicateAddress = codes "correct the addresses"
action_text kind.OwnExternal = codes "read routes, which says own"
action_text kind.ForwardUnreached = codes "look at the network of the address"
action_text kind.OneWayLink = codes "look whether the adjacency is down"
action_text kind.UnequalCost = codes "look whether this is meant"
action_text kind.PointToMultipoint = codes "read routes, which names each"
action_text kind.Drained = codes "look whether it is still in maintenance"
action_text kind.UnreachedRouter = codes "look whether it is up"
action_text kind.OrphanLsa = codes "it ages out"
action_text kind.Opaque = codes "no action"
action_text kind.MaxAge = codes "no action"
