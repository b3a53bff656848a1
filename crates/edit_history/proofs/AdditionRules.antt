-- The edits that add a summary-LSA or an AS-external-LSA: their refusals, and their rules.
use Rattle.std.proofs.Common.{◌≡◌, ℕ, zero, suc, ◌<◌, ◌^◌, Bool, true, false, List, [], ◌∷◌, Option, Some, None, Result, Ok, Err, refl, sym, ap, ◌∙◌, subst}
use Rattle.std.specs.Prelude.{if◌then◌else◌}
use Rattle.std.specs.List.{find}
use Rattle.lsa_codec.specs.declared.address.Addr.{Addr}
use Rattle.lsa_codec.specs.declared.address.AreaId.{AreaId}
use Rattle.lsa_codec.specs.declared.address.RouterId.{RouterId}
use Rattle.lsa_codec.specs.declared.key.Key.{Key}
use Rattle.lsa_codec.specs.Key.{key_of, router_key}
use Rattle.lsa_codec.specs.Prefix.{Net, IsNet}
use Rattle.lsa_codec.specs.Originating.{new_summary, new_external, IsNewLsa}
use Rattle.lsa_codec.proofs.LsaLemmas.{summary_new, external_new}
use Rattle.lsdb.specs.declared.section.Section.{Section}
use Rattle.lsdb.specs.declared.section.Section.TheVariants.{Area, AsWide}
use Rattle.lsdb.specs.declared.slot.SlotId.{SlotId}
use Rattle.lsdb.specs.Lists.{AreaHead, SectionLsas, Lists, IsDatabase, is_head_of, is_in_scope, is_section, has_key, lsas_of}
use Rattle.lsdb.specs.Slots.{Slots, SectionSlots, item_at, section_of, lists_of, head_or_none, IsNamed}
use Rattle.edit_script.specs.declared.edit.Edit.TheVariants.{AddSummary, AddExternal}
use Rattle.edit_script.specs.declared.edit.MetricType.{MetricType}
use Rattle.edit_history.specs.declared.fault.EditFault.{EditFault}
use Rattle.edit_history.specs.declared.fault.EditFault.TheVariants.{NoRouter, OutOfMemory}
use Rattle.edit_history.specs.Rules.{Rule, adding}
use Rattle.edit_history.specs.Effect.{area_of, router_lsa_in, has_router, options_in, is_type2, room_for, has_room, added, rule_of, ◌>>=◌}
use Rattle.edit_history.specs.Exchange.{SwapData}
use Rattle.edit_history.specs.Applied.{Planned, IsRefused}
use Rattle.edit_history.specs.steps.Plans.{IsFirstLsa, Opens}
use Rattle.edit_history.proofs.NamedLsas.{has_area, named_there, no_router_in, router_in}
use Rattle.edit_history.proofs.FailureFates.{list_item}
use Rattle.edit_history.proofs.RoomForLsas.{room_not_memory}
use Rattle.edit_history.proofs.RulesCarriedOut.{refused_as, no_memory, on_ok, on_err}
use Rattle.edit_history.proofs.Additions.{IsKeyed, planned_new, added_refused, added_ruled, new_room}

abbrev pub prefix_key : ℕ → RouterId → Net → Key
prefix_key kind router prefix = record { kind = kind; id = prefix.addr; adv = router }

-- what is known of a router and a prefix
pub record AreWide (router : RouterId) (prefix : Net) : Type 0 where
  pub is_net : IsNet prefix
  pub addr : prefix.addr.0 < 2 ^ 32
  pub wide : router.0 < 2 ^ 32

keyed : (kind byte_count : ℕ) (router : RouterId) (prefix : Net) (x : List ℕ) → IsNewLsa kind prefix router byte_count x
    → IsKeyed x (prefix_key kind router prefix) byte_count
keyed kind byte_count router prefix x new = record { key_is = new.key; size_is = new.size }

-- ---- a summary-LSA

abbrev summary_for : Option AreaHead → RouterId → Net → ℕ → List ℕ
summary_for area router prefix metric = new_summary (options_in area) router prefix metric

abbrev summary_rule : Lists → AreaId → RouterId → Net → ℕ → SectionLsas → Result Rule EditFault
summary_rule db area router prefix metric section =
    router_lsa_in section router >>= λ lsa. added db (Area area) (summary_for section.area router prefix metric)

pub summary_row : (db : Lists) (area : AreaId) (router : RouterId) (prefix : Net) (metric : ℕ)
    → rule_of db (AddSummary area router prefix metric) ≡ (area_of db area >>= summary_rule db area router prefix metric)
unfolding rule_of
summary_row db area router prefix metric = refl

not_there : (d : Slots) (i : ℕ) (s : SectionLsas) → item_at d i ≡ None → item_at (lists_of d) i ≡ Some s → ⊥
not_there [] i s is at = cc
not_there (t ∷ ts) zero s is at = cc
not_there (t ∷ ts) (suc i) s is at = not_there ts i s is at

head_found : (d : Slots) (name : Section) (number : ℕ) (section : SectionLsas) → IsNamed d name number
    → find (is_section name) (lists_of d) ≡ Some section → head_or_none (item_at d number) ≡ section.area
head_found d name number section named found = by_item (item_at d number) refl where
  at : item_at (lists_of d) number ≡ Some section
  at = named.same ∙ found

  by_item : (o : Option SectionSlots) → item_at d number ≡ o → head_or_none o ≡ section.area
  by_item None is = absurd (not_there d number section is at)
  by_item (Some t) is = let e : (let o : Option SectionLsas = Some (section_of t) in o) ≡ Some section = sym (list_item d number t is) ∙ at in
      let same : section_of t ≡ section = cc in ap (λ (s : SectionLsas). s.area) same

add_in : (d : Slots) (area : AreaId) (router : RouterId) (prefix : Net) (metric number : ℕ) → (named : IsNamed d (Area area) number)
    → rule_of (lists_of d) (AddSummary area router prefix metric) ≡ summary_rule (lists_of d) area router prefix metric
    (has_area (lists_of d) area (named_there d (Area area) number named)).section
add_in d area router prefix metric number named =
    let h = has_area (lists_of d) area (named_there d (Area area) number named) in
    summary_row (lists_of d) area router prefix metric
    ∙ on_ok (area_of (lists_of d) area) h.section (summary_rule (lists_of d) area router prefix metric) h.is

pub add_no_router : (d : Slots) (area : AreaId) (router : RouterId) (prefix : Net) (metric number : ℕ) → IsNamed d (Area area) number
    → find (has_key (router_key router)) (lsas_of (Area area) (lists_of d)) ≡ None → IsRefused d (AddSummary area router prefix metric) NoRouter
add_no_router d area router prefix metric number named none =
    let h = has_area (lists_of d) area (named_there d (Area area) number named) in
    refused_as d (AddSummary area router prefix metric) NoRouter (λ e. cc)
    (add_in d area router prefix metric number named
    ∙ on_err (router_lsa_in h.section router) NoRouter (λ lsa. added (lists_of d) (Area area) (summary_for h.section.area router prefix metric))
    (no_router_in (lists_of d) area router h.section h.lsas none))

-- the router is there
add_row : (d : Slots) (area : AreaId) (router : RouterId) (prefix : Net) (metric number : ℕ) (slot : SlotId) (lsa : List ℕ)
    → IsNamed d (Area area) number → IsFirstLsa d (Area area) (has_key (router_key router)) slot lsa
    → rule_of (lists_of d) (AddSummary area router prefix metric) ≡ added (lists_of d) (Area area)
    (summary_for (head_or_none (item_at d number)) router prefix metric)
add_row d area router prefix metric number slot lsa named at =
    let h = has_area (lists_of d) area (named_there d (Area area) number named) in
    add_in d area router prefix metric number named
    ∙ on_ok (router_lsa_in h.section router) lsa (λ x. added (lists_of d) (Area area) (summary_for h.section.area router prefix metric))
    (router_in (lists_of d) area router h.section lsa h.lsas at.first)
    ∙ ap (λ (head : Option AreaHead). added (lists_of d) (Area area) (summary_for head router prefix metric))
    (sym (head_found d (Area area) number h.section named h.found))

new_one : (head : Option AreaHead) (router : RouterId) (prefix : Net) (metric : ℕ) → AreWide router prefix
    → IsNewLsa 3 prefix router 28 (summary_for head router prefix metric)
new_one head router prefix metric wide = summary_new (options_in head) router prefix metric wide.is_net wide.addr wide.wide

pub add_no_room : (d : Slots) (area : AreaId) (router : RouterId) (prefix : Net) (metric number : ℕ) (slot : SlotId) (lsa : List ℕ) (key : Key)
    (fault : EditFault) → IsNamed d (Area area) number → IsFirstLsa d (Area area) (has_key (router_key router)) slot lsa
    → AreWide router prefix → key ≡ prefix_key 3 router prefix → room_for (lists_of d) (Area area) key 28 ≡ Err fault
    → IsRefused d (AddSummary area router prefix metric) fault
add_no_room d area router prefix metric number slot lsa key fault named at wide is no_room =
    let head = head_or_none (item_at d number) in
    refused_as d (AddSummary area router prefix metric) fault (room_not_memory (lists_of d) (Area area) key 28 fault no_room)
    (add_row d area router prefix metric number slot lsa named at
    ∙ added_refused (lists_of d) (Area area) (summary_for head router prefix metric) (prefix_key 3 router prefix) 28 fault
    (keyed 3 28 router prefix _ (new_one head router prefix metric wide))
    (subst (λ (k : Key). room_for (lists_of d) (Area area) k 28 ≡ Err fault) is no_room))

add_ruled : (d : Slots) (area : AreaId) (router : RouterId) (prefix : Net) (metric number : ℕ) (slot : SlotId) (lsa : List ℕ) (key : Key)
    → IsNamed d (Area area) number → IsFirstLsa d (Area area) (has_key (router_key router)) slot lsa
    → AreWide router prefix → key ≡ prefix_key 3 router prefix → room_for (lists_of d) (Area area) key 28 ≡ has_room
    → rule_of (lists_of d) (AddSummary area router prefix metric) ≡ Ok
    (adding (Area area) (summary_for (head_or_none (item_at d number)) router prefix metric))
add_ruled d area router prefix metric number slot lsa key named at wide is room =
    let head = head_or_none (item_at d number) in
    add_row d area router prefix metric number slot lsa named at
    ∙ added_ruled (lists_of d) (Area area) (summary_for head router prefix metric) (prefix_key 3 router prefix) 28
    (keyed 3 28 router prefix _ (new_one head router prefix metric wide))
    (subst (λ (k : Key). room_for (lists_of d) (Area area) k 28 ≡ has_room) is room)

pub add_memory : (d : Slots) (area : AreaId) (router : RouterId) (prefix : Net) (metric number : ℕ) (slot : SlotId) (lsa : List ℕ) (key : Key)
    → IsNamed d (Area area) number → IsFirstLsa d (Area area) (has_key (router_key router)) slot lsa
    → AreWide router prefix → key ≡ prefix_key 3 router prefix → room_for (lists_of d) (Area area) key 28 ≡ has_room
    → IsRefused d (AddSummary area router prefix metric) OutOfMemory
add_memory d area router prefix metric number slot lsa key named at wide is room =
    no_memory d (AddSummary area router prefix metric) _ (add_ruled d area router prefix metric number slot lsa key named at wide is room)

area_scope : (area : AreaId) (router : RouterId) (prefix : Net) (x : List ℕ) → key_of x ≡ prefix_key 3 router prefix → (head : Option AreaHead)
    → is_head_of (Area area) head ≡ true → is_in_scope head (key_of x) ≡ true
area_scope area router prefix x is None named = absurd cc
area_scope area router prefix x is (Some head) named = ap (is_in_scope (Some head)) is

pub add_planned : (d e : Slots) (area : AreaId) (router : RouterId) (prefix : Net) (metric number : ℕ) (slot : SlotId) (lsa : List ℕ) (key : Key)
    (options cost : ℕ) (x : List ℕ) (items : List SwapData) → IsDatabase (lists_of d) → IsNamed d (Area area) number
    → IsFirstLsa d (Area area) (has_key (router_key router)) slot lsa → AreWide router prefix → key ≡ prefix_key 3 router prefix
    → room_for (lists_of d) (Area area) key 28 ≡ has_room
    → options ≡ options_in (head_or_none (item_at d number)) → cost ≡ metric → x ≡ new_summary options router prefix cost
    → Opens d e (Area area) x items → Planned d e (AddSummary area router prefix metric) items
add_planned d e area router prefix metric number slot lsa key options cost x items sound named at wide is room options_is cost_is made opens =
    let head = head_or_none (item_at d number) in
    let new = summary_for head router prefix metric in
    let whole : x ≡ new = made ∙ ap (λ (o : ℕ). new_summary o router prefix cost) options_is
    ∙ ap (new_summary (options_in head) router prefix) cost_is in
    let one = new_one head router prefix metric wide in
    planned_new d e (AddSummary area router prefix metric) (Area area) new items sound
    (add_ruled d area router prefix metric number slot lsa key named at wide is room)
    (record {
      accepted = one.accepted;
      scope = area_scope area router prefix new one.key;
      room = new_room (lists_of d) (Area area) new (prefix_key 3 router prefix) 28 (keyed 3 28 router prefix new one)
          (subst (λ (k : Key). room_for (lists_of d) (Area area) k 28 ≡ has_room) is room);
    })
    (subst (λ (y : List ℕ). Opens d e (Area area) y items) whole opens)

-- ---- an AS-external-LSA

abbrev external_for : RouterId → Net → MetricType → ℕ → Addr → ℕ → List ℕ
external_for router prefix metric_type metric forward tag = new_external router prefix (is_type2 metric_type) metric forward tag

abbrev external_rule : Lists → List ℕ → Bool → Result Rule EditFault
external_rule db new there = if there then added db AsWide new else Err NoRouter

external_row : (db : Lists) (router : RouterId) (prefix : Net) (metric_type : MetricType) (metric : ℕ) (forward : Addr) (tag : ℕ)
    → rule_of db (AddExternal router prefix metric_type metric forward tag) ≡ external_rule db
    (external_for router prefix metric_type metric forward tag) (has_router router db)
unfolding rule_of
external_row db router prefix metric_type metric forward tag = refl

pub external_no_router : (d : Slots) (router : RouterId) (prefix : Net) (metric_type : MetricType) (metric : ℕ) (forward : Addr) (tag : ℕ)
    → has_router router (lists_of d) ≡ false → IsRefused d (AddExternal router prefix metric_type metric forward tag) NoRouter
external_no_router d router prefix metric_type metric forward tag none =
    refused_as d (AddExternal router prefix metric_type metric forward tag) NoRouter (λ e. cc)
    (external_row (lists_of d) router prefix metric_type metric forward tag
    ∙ ap (external_rule (lists_of d) (external_for router prefix metric_type metric forward tag)) none)

external_there : (d : Slots) (router : RouterId) (prefix : Net) (metric_type : MetricType) (metric : ℕ) (forward : Addr) (tag : ℕ)
    → has_router router (lists_of d) ≡ true
    → rule_of (lists_of d) (AddExternal router prefix metric_type metric forward tag) ≡ added (lists_of d) AsWide
    (external_for router prefix metric_type metric forward tag)
external_there d router prefix metric_type metric forward tag there =
    external_row (lists_of d) router prefix metric_type metric forward tag
    ∙ ap (external_rule (lists_of d) (external_for router prefix metric_type metric forward tag)) there

new_external_one : (router : RouterId) (prefix : Net) (metric_type : MetricType) (metric : ℕ) (forward : Addr) (tag : ℕ) → AreWide router prefix
    → IsNewLsa 5 prefix router 36 (external_for router prefix metric_type metric forward tag)
new_external_one router prefix metric_type metric forward tag wide =
    external_new router prefix (is_type2 metric_type) metric forward tag wide.is_net wide.addr wide.wide

pub external_no_room : (d : Slots) (router : RouterId) (prefix : Net) (metric_type : MetricType) (metric : ℕ) (forward : Addr) (tag : ℕ) (key : Key)
    (fault : EditFault) → has_router router (lists_of d) ≡ true
    → AreWide router prefix → key ≡ prefix_key 5 router prefix → room_for (lists_of d) AsWide key 36 ≡ Err fault
    → IsRefused d (AddExternal router prefix metric_type metric forward tag) fault
external_no_room d router prefix metric_type metric forward tag key fault there wide is no_room =
    refused_as d (AddExternal router prefix metric_type metric forward tag) fault (room_not_memory (lists_of d) AsWide key 36 fault no_room)
    (external_there d router prefix metric_type metric forward tag there
    ∙ added_refused (lists_of d) AsWide (external_for router prefix metric_type metric forward tag) (prefix_key 5 router prefix) 36 fault
    (keyed 5 36 router prefix _ (new_external_one router prefix metric_type metric forward tag wide))
    (subst (λ (k : Key). room_for (lists_of d) AsWide k 36 ≡ Err fault) is no_room))

external_ruled : (d : Slots) (router : RouterId) (prefix : Net) (metric_type : MetricType) (metric : ℕ) (forward : Addr) (tag : ℕ) (key : Key)
    → has_router router (lists_of d) ≡ true
    → AreWide router prefix → key ≡ prefix_key 5 router prefix → room_for (lists_of d) AsWide key 36 ≡ has_room
    → rule_of (lists_of d) (AddExternal router prefix metric_type metric forward tag) ≡ Ok
    (adding AsWide (external_for router prefix metric_type metric forward tag))
external_ruled d router prefix metric_type metric forward tag key there wide is room =
    external_there d router prefix metric_type metric forward tag there
    ∙ added_ruled (lists_of d) AsWide (external_for router prefix metric_type metric forward tag) (prefix_key 5 router prefix) 36
    (keyed 5 36 router prefix _ (new_external_one router prefix metric_type metric forward tag wide))
    (subst (λ (k : Key). room_for (lists_of d) AsWide k 36 ≡ has_room) is room)

pub external_memory : (d : Slots) (router : RouterId) (prefix : Net) (metric_type : MetricType) (metric : ℕ) (forward : Addr) (tag : ℕ) (key : Key)
    → has_router router (lists_of d) ≡ true
    → AreWide router prefix → key ≡ prefix_key 5 router prefix → room_for (lists_of d) AsWide key 36 ≡ has_room
    → IsRefused d (AddExternal router prefix metric_type metric forward tag) OutOfMemory
external_memory d router prefix metric_type metric forward tag key there wide is room =
    no_memory d (AddExternal router prefix metric_type metric forward tag) _
    (external_ruled d router prefix metric_type metric forward tag key there wide is room)

as_scope : (router : RouterId) (prefix : Net) (x : List ℕ) → key_of x ≡ prefix_key 5 router prefix → (head : Option AreaHead)
    → is_head_of AsWide head ≡ true → is_in_scope head (key_of x) ≡ true
as_scope router prefix x is None named = ap (is_in_scope None) is
as_scope router prefix x is (Some head) named = absurd cc

pub external_planned : (d e : Slots) (router : RouterId) (prefix : Net) (metric_type : MetricType) (metric : ℕ) (forward : Addr) (tag : ℕ)
    (key : Key) (type2 : Bool) (cost : ℕ) (x : List ℕ) (items : List SwapData) → IsDatabase (lists_of d) → has_router router (lists_of d) ≡ true
    → AreWide router prefix → key ≡ prefix_key 5 router prefix → room_for (lists_of d) AsWide key 36 ≡ has_room → type2 ≡ is_type2 metric_type
    → cost ≡ metric → x ≡ new_external router prefix type2 cost forward tag → Opens d e AsWide x items
    → Planned d e (AddExternal router prefix metric_type metric forward tag) items
external_planned d e router prefix metric_type metric forward tag key type2 cost x items sound there wide is room type_is cost_is made opens =
    let new = external_for router prefix metric_type metric forward tag in
    let whole : x ≡ new = made ∙ ap (λ (b : Bool). new_external router prefix b cost forward tag) type_is
    ∙ ap (λ (m : ℕ). new_external router prefix (is_type2 metric_type) m forward tag) cost_is in
    let one = new_external_one router prefix metric_type metric forward tag wide in
    planned_new d e (AddExternal router prefix metric_type metric forward tag) AsWide new items sound
    (external_ruled d router prefix metric_type metric forward tag key there wide is room)
    (record {
      accepted = one.accepted;
      scope = as_scope router prefix new one.key;
      room = new_room (lists_of d) AsWide new (prefix_key 5 router prefix) 36 (keyed 5 36 router prefix new one)
          (subst (λ (k : Key). room_for (lists_of d) AsWide k 36 ≡ has_room) is room);
    })
    (subst (λ (y : List ℕ). Opens d e AsWide y items) whole opens)
