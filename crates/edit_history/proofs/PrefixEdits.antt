-- Summary-LSAs and AS-external-LSAs that are there: another metric, and removal.
use Rattle.std.proofs.Common.{◌≡◌, ℕ, true, List, [], ◌∷◌, Option, Some, None, Result, Ok, refl, sym, ap, ◌∙◌}
use Rattle.std.specs.List.{find}
use Rattle.std.proofs.lemmas.Bool.{and_parts, eqb-true}
use Rattle.lsa_codec.specs.declared.address.AreaId.{AreaId}
use Rattle.lsa_codec.specs.declared.address.RouterId.{RouterId}
use Rattle.lsa_codec.specs.Fields.{kind_of}
use Rattle.lsa_codec.specs.Key.{key_of}
use Rattle.lsa_codec.specs.Prefix.{Net}
use Rattle.lsa_codec.specs.Views.{has_metric}
use Rattle.lsa_codec.specs.Making.{IsRewriteOf}
use Rattle.lsa_codec.specs.Originating.{with_metric}
use Rattle.lsdb.specs.declared.section.Section.{Section}
use Rattle.lsdb.specs.declared.section.Section.TheVariants.{Area, AsWide}
use Rattle.lsdb.specs.declared.slot.SlotId.{SlotId}
use Rattle.lsdb.specs.Lists.{Lists, IsDatabase, lsas_of}
use Rattle.lsdb.specs.Slots.{Slots, lists_of, IsNamed}
use Rattle.lsdb.proofs.SlotLemmas.{put_safe}
use Rattle.edit_script.specs.declared.edit.Edit.TheVariants.{Summary, DropExternal}
use Rattle.edit_history.specs.declared.fault.EditFault.{EditFault}
use Rattle.edit_history.specs.declared.fault.EditFault.TheVariants.{NoSummary, NoExternal, OutOfMemory}
use Rattle.edit_history.specs.Rules.{Rule, removed, rewritten, one_lsa}
use Rattle.edit_history.specs.Effect.{area_of, or_refused, is_originated_for, rule_of, ◌>>=◌}
use Rattle.edit_history.specs.Exchange.{SwapData}
use Rattle.edit_history.specs.Applied.{Planned, IsRefused}
use Rattle.edit_history.specs.steps.Plans.{IsFirstLsa}
use Rattle.edit_history.proofs.Keys.{found_passes}
use Rattle.edit_history.proofs.NamedLsas.{has_area, named_there}
use Rattle.edit_history.proofs.OneLsa.{one_swap, planned_one}
use Rattle.edit_history.proofs.RulesCarriedOut.{refused_as, no_memory, on_ok}

pub kind_found : (d : Slots) (name : Section) (kind : ℕ) (router : RouterId) (prefix : Net) (slot : SlotId) (lsa : List ℕ)
    → IsFirstLsa d name (is_originated_for kind router prefix) slot lsa → kind_of lsa ≡ kind
kind_found d name kind router prefix slot lsa at =
    let p = and_parts _ _ (found_passes (is_originated_for kind router prefix) (lsas_of name (lists_of d)) lsa at.first) in
    eqb-true _ _ p.0

-- ---- another metric

abbrev metric_rule : AreaId → ℕ → Result (List ℕ) EditFault → Result Rule EditFault
metric_rule area metric found = found >>= λ lsa. Ok (one_lsa (Area area) (key_of lsa) (rewritten (with_metric metric lsa)))

pub summary_row : (db : Lists) (area : AreaId) (router : RouterId) (prefix : Net) (metric : ℕ)
    → rule_of db (Summary area router prefix metric) ≡ (area_of db area >>= λ section. metric_rule area metric
    (or_refused NoSummary (find (is_originated_for 3 router prefix) section.lsas)))
unfolding rule_of
summary_row db area router prefix metric = refl

summary_in : (d : Slots) (area : AreaId) (router : RouterId) (prefix : Net) (metric number : ℕ) (found : Option (List ℕ))
    → IsNamed d (Area area) number → find (is_originated_for 3 router prefix) (lsas_of (Area area) (lists_of d)) ≡ found
    → rule_of (lists_of d) (Summary area router prefix metric) ≡ metric_rule area metric (or_refused NoSummary found)
summary_in d area router prefix metric number found named is =
    let h = has_area (lists_of d) area (named_there d (Area area) number named) in
    summary_row (lists_of d) area router prefix metric
    ∙ on_ok (area_of (lists_of d) area) h.section (λ section. metric_rule area metric
    (or_refused NoSummary (find (is_originated_for 3 router prefix) section.lsas))) h.is
    ∙ ap (λ (o : Option (List ℕ)). metric_rule area metric (or_refused NoSummary o)) (ap (find (is_originated_for 3 router prefix)) (sym h.lsas) ∙ is)

pub summary_none : (d : Slots) (area : AreaId) (router : RouterId) (prefix : Net) (metric number : ℕ) → IsNamed d (Area area) number
    → find (is_originated_for 3 router prefix) (lsas_of (Area area) (lists_of d)) ≡ None → IsRefused d (Summary area router prefix metric) NoSummary
summary_none d area router prefix metric number named none =
    refused_as d (Summary area router prefix metric) NoSummary (λ e. cc) (summary_in d area router prefix metric number None named none)

summary_ruled : (d : Slots) (area : AreaId) (router : RouterId) (prefix : Net) (metric : ℕ) (slot : SlotId) (lsa : List ℕ)
    → IsFirstLsa d (Area area) (is_originated_for 3 router prefix) slot lsa
    → rule_of (lists_of d) (Summary area router prefix metric) ≡ Ok (one_lsa (Area area) (key_of lsa) (rewritten (with_metric metric lsa)))
summary_ruled d area router prefix metric slot lsa at = summary_in d area router prefix metric slot.section (Some lsa) at.named at.first

pub summary_memory : (d : Slots) (area : AreaId) (router : RouterId) (prefix : Net) (metric : ℕ) (slot : SlotId) (lsa : List ℕ)
    → IsFirstLsa d (Area area) (is_originated_for 3 router prefix) slot lsa → IsRefused d (Summary area router prefix metric) OutOfMemory
summary_memory d area router prefix metric slot lsa at =
    no_memory d (Summary area router prefix metric) _ (summary_ruled d area router prefix metric slot lsa at)

pub summary_planned : (d : Slots) (area : AreaId) (router : RouterId) (prefix : Net) (metric : ℕ) (slot : SlotId) (lsa new : List ℕ)
    (swap : SwapData) (items : List SwapData) → IsDatabase (lists_of d) → IsFirstLsa d (Area area) (is_originated_for 3 router prefix) slot lsa
    → new ≡ with_metric metric lsa → IsRewriteOf lsa new → swap ≡ one_swap slot (Area area) 3 (Some new) → items ≡ swap ∷ []
    → Planned d d (Summary area router prefix metric) items
summary_planned d area router prefix metric slot lsa new swap items sound at is rewrite swap_is items_is =
    planned_one d (Summary area router prefix metric) (Area area) (key_of lsa) slot lsa (Some new) 3 swap items sound at.named at.held refl
    (kind_found d (Area area) 3 router prefix slot lsa at) (put_safe d slot (Some lsa) (Some new) at.held rewrite sound)
    (summary_ruled d area router prefix metric slot lsa at
    ∙ ap (λ (x : List ℕ). let r : Result Rule EditFault = Ok (one_lsa (Area area) (key_of lsa) (rewritten x)) in r) (sym is)) swap_is items_is

pub has_summary_metric : (d : Slots) (area : AreaId) (router : RouterId) (prefix : Net) (slot : SlotId) (lsa : List ℕ)
    → IsFirstLsa d (Area area) (is_originated_for 3 router prefix) slot lsa → has_metric (kind_of lsa) ≡ true
has_summary_metric d area router prefix slot lsa at = ap has_metric (kind_found d (Area area) 3 router prefix slot lsa at)

-- ---- removal

abbrev external_rule : Result (List ℕ) EditFault → Result Rule EditFault
external_rule found = found >>= λ lsa. Ok (one_lsa AsWide (key_of lsa) removed)

external_row : (db : Lists) (router : RouterId) (prefix : Net)
    → rule_of db (DropExternal router prefix) ≡ external_rule (or_refused NoExternal (find (is_originated_for 5 router prefix) (lsas_of AsWide db)))
unfolding rule_of
external_row db router prefix = refl

pub external_none : (d : Slots) (router : RouterId) (prefix : Net) → find (is_originated_for 5 router prefix) (lsas_of AsWide (lists_of d)) ≡ None
    → IsRefused d (DropExternal router prefix) NoExternal
external_none d router prefix none =
    refused_as d (DropExternal router prefix) NoExternal (λ e. cc)
    (external_row (lists_of d) router prefix ∙ ap (λ (o : Option (List ℕ)). external_rule (or_refused NoExternal o)) none)

external_ruled : (d : Slots) (router : RouterId) (prefix : Net) (slot : SlotId) (lsa : List ℕ)
    → IsFirstLsa d AsWide (is_originated_for 5 router prefix) slot lsa
    → rule_of (lists_of d) (DropExternal router prefix) ≡ Ok (one_lsa AsWide (key_of lsa) removed)
external_ruled d router prefix slot lsa at =
    external_row (lists_of d) router prefix ∙ ap (λ (o : Option (List ℕ)). external_rule (or_refused NoExternal o)) at.first

pub external_memory : (d : Slots) (router : RouterId) (prefix : Net) (slot : SlotId) (lsa : List ℕ)
    → IsFirstLsa d AsWide (is_originated_for 5 router prefix) slot lsa → IsRefused d (DropExternal router prefix) OutOfMemory
external_memory d router prefix slot lsa at = no_memory d (DropExternal router prefix) _ (external_ruled d router prefix slot lsa at)

pub external_planned : (d : Slots) (router : RouterId) (prefix : Net) (slot : SlotId) (lsa : List ℕ) (swap : SwapData) (items : List SwapData)
    → IsDatabase (lists_of d) → IsFirstLsa d AsWide (is_originated_for 5 router prefix) slot lsa
    → swap ≡ one_swap slot AsWide 5 None → items ≡ swap ∷ [] → Planned d d (DropExternal router prefix) items
external_planned d router prefix slot lsa swap items sound at swap_is items_is =
    planned_one d (DropExternal router prefix) AsWide (key_of lsa) slot lsa None 5 swap items sound at.named at.held refl
    (kind_found d AsWide 5 router prefix slot lsa at) (put_safe d slot (Some lsa) None at.held tt sound)
    (external_ruled d router prefix slot lsa at) swap_is items_is
