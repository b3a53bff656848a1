-- A router-LSA gets a stub link.
use Rattle.std.proofs.Common.{◌≡◌, ℕ, ◌+◌, ◌<◌, ◌≤◌, Bool, true, false, List, [], ◌∷◌, ◌++◌, Result, Ok, Err, Some, length, refl, sym, ap, ◌∙◌, arith}
use Rattle.std.specs.Prelude.{if◌then◌else◌}
use Rattle.std.proofs.lemmas.Bool.{lt-ltb, le-ltb, ltb-false}
use Rattle.lsa_codec.specs.Key.{router_key}
use Rattle.lsa_codec.specs.declared.address.AreaId.{AreaId}
use Rattle.lsa_codec.specs.declared.address.RouterId.{RouterId}
use Rattle.lsa_codec.specs.declared.fault.MakeFault.{MakeFault}
use Rattle.lsa_codec.specs.declared.fault.MakeFault.TheVariants as faults
use Rattle.lsa_codec.specs.Links.{link_count}
use Rattle.lsa_codec.specs.Prefix.{Net}
use Rattle.lsa_codec.specs.Making.{recounted, stub_text, with_stub, IsExtensionOf, IsMakeFaultOf}
use Rattle.lsdb.specs.declared.section.Section.TheVariants.{Area}
use Rattle.lsdb.specs.declared.slot.SlotId.{SlotId}
use Rattle.lsdb.specs.Limits.{longest_dump}
use Rattle.lsdb.specs.Lists.{Lists, IsDatabase, has_key, size}
use Rattle.lsdb.specs.Slots.{Slots, lists_of}
use Rattle.lsdb.proofs.SlotLemmas.{extended_safe}
use Rattle.edit_script.specs.declared.edit.Edit.TheVariants.{AddStub}
use Rattle.edit_history.specs.declared.fault.EditFault.{EditFault}
use Rattle.edit_history.specs.declared.fault.EditFault.TheVariants.{TooLong, Full, OutOfMemory}
use Rattle.edit_history.specs.Fault.{fault_of}
use Rattle.edit_history.specs.Rules.{Rule, rewritten, one_lsa}
use Rattle.edit_history.specs.Effect.{router_lsa_of, is_dump_full, stub_bytes, rule_of, made, ◌>>=◌}
use Rattle.edit_history.specs.Exchange.{SwapData}
use Rattle.edit_history.specs.Applied.{Planned, IsRefused}
use Rattle.edit_history.specs.steps.Plans.{IsFirstLsa}
use Rattle.edit_history.proofs.NamedLsas.{router_lsa_is, key_is, not_memory}
use Rattle.edit_history.proofs.OneLsa.{one_swap, planned_one}
use Rattle.edit_history.proofs.RulesCarriedOut.{refused_as, no_memory, on_ok, on_err}

abbrev full_rule : AreaId → RouterId → List ℕ → Bool → Result Rule EditFault
full_rule area router new full = if full then Err Full else Ok (one_lsa (Area area) (router_key router) (rewritten new))

abbrev made_rule : Lists → AreaId → RouterId → Result (List ℕ) EditFault → Result Rule EditFault
made_rule db area router new = new >>= λ lsa. full_rule area router lsa (is_dump_full db stub_bytes)

stub_row : (db : Lists) (area : AreaId) (router : RouterId) (prefix : Net) (metric : ℕ)
    → rule_of db (AddStub area router prefix metric) ≡ (router_lsa_of db area router >>= λ lsa. made_rule db area router
    (made (with_stub prefix metric lsa)))
unfolding rule_of
stub_row db area router prefix metric = refl

pub stub_no_router : (d : Slots) (area : AreaId) (router : RouterId) (prefix : Net) (metric : ℕ) (fault : EditFault)
    → router_lsa_of (lists_of d) area router ≡ Err fault → IsRefused d (AddStub area router prefix metric) fault
stub_no_router d area router prefix metric fault is =
    refused_as d (AddStub area router prefix metric) fault (not_memory (lists_of d) area router fault is)
    (stub_row (lists_of d) area router prefix metric ∙ on_err (router_lsa_of (lists_of d) area router) fault
    (λ lsa. made_rule (lists_of d) area router (made (with_stub prefix metric lsa))) is)

stub_found : (d : Slots) (area : AreaId) (router : RouterId) (prefix : Net) (metric : ℕ) (slot : SlotId) (lsa : List ℕ)
    → IsFirstLsa d (Area area) (has_key (router_key router)) slot lsa
    → rule_of (lists_of d) (AddStub area router prefix metric) ≡ made_rule (lists_of d) area router (made (with_stub prefix metric lsa))
stub_found d area router prefix metric slot lsa at =
    stub_row (lists_of d) area router prefix metric ∙ on_ok (router_lsa_of (lists_of d) area router) lsa
    (λ x. made_rule (lists_of d) area router (made (with_stub prefix metric x))) (router_lsa_is d area router slot lsa at)

-- ---- how long it is

abbrev extended : Net → ℕ → List ℕ → List ℕ
extended prefix metric lsa = recounted (link_count lsa + 1) (lsa ++ stub_text prefix metric)

abbrev stub_by : List ℕ → Bool → Result (List ℕ) MakeFault
stub_by new long = if long then Err faults.TooLong else Ok new

too_long : (prefix : Net) (metric : ℕ) (lsa : List ℕ) → 65535 < length lsa + 12 → with_stub prefix metric lsa ≡ Err faults.TooLong
too_long prefix metric lsa long = ap (stub_by (extended prefix metric lsa)) (lt-ltb 65535 (length lsa + 12) long)

not_too_long : (prefix : Net) (metric : ℕ) (lsa : List ℕ) → length lsa + 12 ≤ 65535 → with_stub prefix metric lsa ≡ Ok (extended prefix metric lsa)
not_too_long prefix metric lsa short = ap (stub_by (extended prefix metric lsa)) (le-ltb 65535 (length lsa + 12) short)

pub stub_too_long : (d : Slots) (area : AreaId) (router : RouterId) (prefix : Net) (metric : ℕ) (slot : SlotId) (lsa : List ℕ)
    → IsFirstLsa d (Area area) (has_key (router_key router)) slot lsa → 65535 < length lsa + 12
    → IsRefused d (AddStub area router prefix metric) TooLong
stub_too_long d area router prefix metric slot lsa at long =
    refused_as d (AddStub area router prefix metric) TooLong (λ e. cc)
    (stub_found d area router prefix metric slot lsa at
    ∙ ap (λ (r : Result (List ℕ) MakeFault). made_rule (lists_of d) area router (made r)) (too_long prefix metric lsa long))

stub_made : (d : Slots) (area : AreaId) (router : RouterId) (prefix : Net) (metric : ℕ) (slot : SlotId) (lsa : List ℕ) (full : Bool)
    → IsFirstLsa d (Area area) (has_key (router_key router)) slot lsa → length lsa + 12 ≤ 65535 → is_dump_full (lists_of d) 12 ≡ full
    → rule_of (lists_of d) (AddStub area router prefix metric) ≡ full_rule area router (extended prefix metric lsa) full
stub_made d area router prefix metric slot lsa full at short is =
    stub_found d area router prefix metric slot lsa at
    ∙ ap (λ (r : Result (List ℕ) MakeFault). made_rule (lists_of d) area router (made r)) (not_too_long prefix metric lsa short)
    ∙ ap (full_rule area router (extended prefix metric lsa)) is

pub stub_full : (d : Slots) (area : AreaId) (router : RouterId) (prefix : Net) (metric : ℕ) (slot : SlotId) (lsa : List ℕ)
    → IsFirstLsa d (Area area) (has_key (router_key router)) slot lsa → length lsa + 12 ≤ 65535 → is_dump_full (lists_of d) 12 ≡ true
    → IsRefused d (AddStub area router prefix metric) Full
stub_full d area router prefix metric slot lsa at short is =
    refused_as d (AddStub area router prefix metric) Full (λ e. cc) (stub_made d area router prefix metric slot lsa true at short is)

-- memory ran out
pub stub_memory : (d : Slots) (area : AreaId) (router : RouterId) (prefix : Net) (metric : ℕ) (slot : SlotId) (lsa : List ℕ)
    → IsFirstLsa d (Area area) (has_key (router_key router)) slot lsa → length lsa + 12 ≤ 65535 → is_dump_full (lists_of d) 12 ≡ false
    → IsRefused d (AddStub area router prefix metric) OutOfMemory
stub_memory d area router prefix metric slot lsa at short is =
    no_memory d (AddStub area router prefix metric) _ (stub_made d area router prefix metric slot lsa false at short is)

other_fault : (prefix : Net) (metric : ℕ) (lsa : List ℕ) (fault : MakeFault) → length lsa + 12 ≤ 65535 → with_stub prefix metric lsa ≡ Err fault → ⊥
other_fault prefix metric lsa fault short is = let e : (let r : Result (List ℕ) MakeFault = Ok (extended prefix metric lsa) in r) ≡ Err fault =
    sym (not_too_long prefix metric lsa short) ∙ is in cc

-- the only possible refusal is that memory ran out
pub stub_fault : (prefix : Net) (metric : ℕ) (lsa : List ℕ) (fault : MakeFault) → length lsa + 12 ≤ 65535
    → IsMakeFaultOf fault (with_stub prefix metric lsa) → fault_of fault ≡ OutOfMemory
stub_fault prefix metric lsa faults.NoLink short is = absurd (other_fault prefix metric lsa faults.NoLink short is)
stub_fault prefix metric lsa faults.ZeroCost short is = absurd (other_fault prefix metric lsa faults.ZeroCost short is)
stub_fault prefix metric lsa faults.TooLong short is = absurd (other_fault prefix metric lsa faults.TooLong short is)
stub_fault prefix metric lsa faults.OutOfMemory short is = refl

-- ---- the plan

made_same : (prefix : Net) (metric : ℕ) (lsa new : List ℕ) → length lsa + 12 ≤ 65535 → with_stub prefix metric lsa ≡ Ok new
    → extended prefix metric lsa ≡ new
made_same prefix metric lsa new short is = let e : (let r : Result (List ℕ) MakeFault = Ok (extended prefix metric lsa) in r) ≡ Ok new =
    sym (not_too_long prefix metric lsa short) ∙ is in cc

pub stub_planned : (d : Slots) (area : AreaId) (router : RouterId) (prefix : Net) (metric : ℕ) (slot : SlotId) (lsa new : List ℕ) (swap : SwapData)
    (items : List SwapData) → IsDatabase (lists_of d) → IsFirstLsa d (Area area) (has_key (router_key router)) slot lsa
    → length lsa + 12 ≤ 65535 → is_dump_full (lists_of d) 12 ≡ false → with_stub prefix metric lsa ≡ Ok new → IsExtensionOf lsa new
    → swap ≡ one_swap slot (Area area) 1 (Some new) → items ≡ swap ∷ [] → Planned d d (AddStub area router prefix metric) items
stub_planned d area router prefix metric slot lsa new swap items sound at short is made_new extension swap_is items_is =
    let ruled : rule_of (lists_of d) (AddStub area router prefix metric) ≡ Ok (one_lsa (Area area) (router_key router) (rewritten new)) =
    stub_made d area router prefix metric slot lsa false at short is
    ∙ ap (λ (x : List ℕ). full_rule area router x false) (made_same prefix metric lsa new short made_new) in
    let room : size (lists_of d) + 12 ≤ longest_dump = ltb-false longest_dump (size (lists_of d) + 12) is in
    planned_one d (AddStub area router prefix metric) (Area area) (router_key router) slot lsa (Some new) 1 swap items sound at.named at.held
    (key_is d (Area area) (router_key router) slot lsa at) refl
    (extended_safe d slot lsa new at.held extension.accepted extension.key (omega (arith, extension.size, room)) sound) ruled swap_is items_is
