-- Words that are written are read again: arguments, and lists of them.
use Rattle.std.proofs.Common.{◌≡◌, ◌<◌, ◌^◌, eqb, List, [], ◌∷◌, length, Ok, refl, ap, ◌∙◌, arith}
use Rattle.std.specs.Prelude.{map}
use Rattle.std.specs.List.{AllByRecursion}
use Rattle.std.proofs.lemmas.Bool.{ne_eqb}
use Rattle.lsa_codec.specs.Prefix.{Net}
use Rattle.lsa_codec.specs.Spelling.{address_text, prefix_text}
use Rattle.lsa_codec.specs.declared.address.Addr.{Addr}
use Rattle.lsa_codec.specs.declared.address.AreaId.{AreaId}
use Rattle.lsa_codec.specs.declared.address.RouterId.{RouterId}
use Rattle.edit_script.specs.Spelling.{IsPrefix}
use Rattle.edit_script.proofs.PrefixLemmas.{prefix_again}
use Rattle.text_words.specs.Words.{Word}
use Rattle.text_words.proofs.PartLemmas.{Lacks, split_joined}
use Rattle.text_words.proofs.NumberLemmas.{SparesDigits}
use Rattle.text_words.proofs.AddressLemmas.{Lacks-address, address_again}
use Rattle.study_words.specs.declared.audit_kind.AuditKind.{AuditKind}
use Rattle.study_words.specs.AuditKinds.{audit_kind_text}
use Rattle.study_words.specs.declared.failure_kind.FailureKind.{FailureKind}
use Rattle.study_words.specs.FailureKinds.{failure_kind_text}
use Rattle.study_words.specs.Written.{audit, failure}
use Rattle.study_words.proofs.TextLemmas.{word_found}
use Rattle.study_arguments.specs.Arguments.{Read}
use Rattle.study_arguments.specs.Positions.{At}
use Rattle.study_arguments.specs.Values.{Lookup, addr, area_id, audit_kind, failure_kind, prefix, router_id}
use Rattle.study_arguments.specs.Lists.{each, neighbors, one_or_more}
use Rattle.study_arguments.specs.Spelling.{neighbors_text, router_text}

pub addr_again : (names : Lookup) (address : Addr) → address.0 < 2 ^ 32 → addr names (address_text address.0) ≡ Ok address
addr_again names address h = simp (address_again address.0 h)

pub router_again : (names : Lookup) (id : RouterId) → id.0 < 2 ^ 32 → router_id names (router_text id) ≡ Ok id
router_again names id h = simp (address_again id.0 h)

pub area_again : (names : Lookup) (area : AreaId) → area.0 < 2 ^ 32 → area_id names (address_text area.0) ≡ Ok area
area_again names area h = simp (address_again area.0 h)

pub net_again : (names : Lookup) (net : Net) → IsPrefix net → prefix names (prefix_text net) ≡ Ok net
net_again names net h = simp (prefix_again net h)

pub kind_again : (names : Lookup) (kind : AuditKind) → audit_kind names (audit_kind_text kind) ≡ Ok kind
kind_again names kind = simp (word_found (audit kind))

pub failure_again : (names : Lookup) (kind : FailureKind) → failure_kind names (failure_kind_text kind) ≡ Ok kind
failure_again names kind = simp (word_found (failure kind))

-- ---- lists

-- each is read again where it is written
pub each_again : {X : Type 0} (read : Read X) (text : X → Word) (Written : X → Type 0)
    → ((x : X) → Written x → read (text x) ≡ Ok x) → (xs : List X) → AllByRecursion Written xs → each read (map text xs) ≡ Ok xs
unfolding each
each_again read text Written again [] h = refl
each_again read text Written again (x ∷ xs) h = simp (again x h.0, each_again read text Written again xs h.1)

pub one_or_more_again : {X : Type 0} (read : Read X) (text : X → Word) (Written : X → Type 0)
    → ((x : X) → Written x → read (text x) ≡ Ok x) → (line : At) (xs : List X) → line.1 ≡ map text xs → 0 < length xs → AllByRecursion Written xs
    → one_or_more read line ≡ Ok xs
unfolding one_or_more
one_or_more_again read text Written again (word, rest) [] e some h = absurd (omega arith)
one_or_more_again read text Written again (word, rest) (x ∷ xs) e some h = rw e (each_again read text Written again (x ∷ xs) h)

-- ---- routers, joined by commas

comma_spares : SparesDigits (λ b. eqb b 44)
comma_spares = record { spares = λ b low high. ne_eqb b 44 (λ e. omega arith) }

lack_commas : (routers : List RouterId) → AllByRecursion (Lacks (λ b. eqb b 44)) (map router_text routers)
lack_commas [] = tt
lack_commas (id ∷ routers) = (Lacks-address (λ b. eqb b 44) comma_spares refl id.0, lack_commas routers)

pub neighbors_again : (names : Lookup) (routers : List RouterId) → 0 < length routers → AllByRecursion (λ id. id.0 < 2 ^ 32) routers
    → neighbors names (neighbors_text routers) ≡ Ok routers
neighbors_again names [] some h = absurd (omega arith)
neighbors_again names (id ∷ routers) some h =
    ap (each (router_id names)) (split_joined (λ b. eqb b 44) 44 refl (router_text id) (map router_text routers) (lack_commas (id ∷ routers)))
    ∙ each_again (router_id names) router_text (λ id. id.0 < 2 ^ 32) (router_again names) (id ∷ routers) h
