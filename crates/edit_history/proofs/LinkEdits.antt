-- A router-LSA is rebuilt: another metric for a link, or one link removed.
use Rattle.std.proofs.Common.{◌≡◌, ◌≢◌, ℕ, List, [], ◌∷◌, Result, Ok, Err, refl, sym, ap, ◌∙◌, subst, rules}
use Rattle.std.specs.Prelude.{IsOk, Some}
use Rattle.lsa_codec.specs.Key.{router_key}
use Rattle.lsa_codec.specs.declared.address.AreaId.{AreaId}
use Rattle.lsa_codec.specs.declared.address.RouterId.{RouterId}
use Rattle.lsa_codec.specs.declared.fault.MakeFault.{MakeFault}
use Rattle.lsa_codec.specs.declared.fault.MakeFault.TheVariants as faults
use Rattle.lsa_codec.specs.Making.{with_cost, without_link, IsRewriteOf, IsMakeFaultOf}
use Rattle.lsdb.specs.declared.section.Section.TheVariants.{Area}
use Rattle.lsdb.specs.declared.slot.SlotId.{SlotId}
use Rattle.lsdb.specs.Lists.{Lists, IsDatabase, has_key}
use Rattle.lsdb.specs.Slots.{Slots, lists_of}
use Rattle.lsdb.proofs.SlotLemmas.{put_safe}
use Rattle.edit_script.specs.declared.edit.Edit.{Edit}
use Rattle.edit_script.specs.declared.edit.Edit.TheVariants.{Cost, DropLink}
use Rattle.edit_history.specs.declared.fault.EditFault.{EditFault}
use Rattle.edit_history.specs.declared.fault.EditFault.TheVariants.{OutOfMemory}
use Rattle.edit_history.specs.Fault.{fault_of}
use Rattle.edit_history.specs.Rules.{Rule, rewritten, one_lsa}
use Rattle.edit_history.specs.Effect.{router_lsa_of, remaking, rule_of, made, ◌>>=◌}
use Rattle.edit_history.specs.Exchange.{SwapData}
use Rattle.edit_history.specs.Applied.{Planned, IsRefused}
use Rattle.edit_history.specs.steps.Plans.{IsFirstLsa}
use Rattle.edit_history.proofs.NamedLsas.{router_lsa_is, key_is, not_memory}
use Rattle.edit_history.proofs.OneLsa.{one_swap, planned_one}
use Rattle.edit_history.proofs.RulesCarriedOut.{refused_as, no_memory, no_memory_ruled}

abbrev Maker : Type 0
Maker = List ℕ → Result (List ℕ) MakeFault

-- the rule, once the new router-LSA was made
abbrev rule_from : AreaId → RouterId → Result (List ℕ) EditFault → Result Rule EditFault
rule_from area router new = new >>= λ lsa. Ok (one_lsa (Area area) (router_key router) (rewritten lsa))

-- the edit rebuilds the router-LSA
pub record Remakes (edit : Edit) (area : AreaId) (router : RouterId) (make : Maker) : Type 0 where
  pub row : (db : Lists) → rule_of db edit ≡ remaking db area router make

pub cost_remakes : (area : AreaId) (router : RouterId) (link metric : ℕ) → Remakes (Cost area router link metric) area router (with_cost link metric)
unfolding rule_of
cost_remakes area router link metric = record { row = λ db. refl }

pub drop_link_remakes : (area : AreaId) (router : RouterId) (link : ℕ) → Remakes (DropLink area router link) area router (without_link link)
unfolding rule_of
drop_link_remakes area router link = record { row = λ db. refl }

-- ---- refusals

pub no_router_lsa : (d : Slots) (edit : Edit) (area : AreaId) (router : RouterId) (make : Maker) (fault : EditFault) → Remakes edit area router make
    → router_lsa_of (lists_of d) area router ≡ Err fault → IsRefused d edit fault
no_router_lsa d edit area router make fault remakes is =
    refused_as d edit fault (not_memory (lists_of d) area router fault is)
    (remakes.row (lists_of d) ∙ ap (λ (r : Result (List ℕ) EditFault). r >>= λ lsa. rule_from area router (made (make lsa))) is)

rule_found : (d : Slots) (edit : Edit) (area : AreaId) (router : RouterId) (make : Maker) (slot : SlotId) (lsa : List ℕ)
    → Remakes edit area router make → IsFirstLsa d (Area area) (has_key (router_key router)) slot lsa
    → rule_of (lists_of d) edit ≡ rule_from area router (made (make lsa))
rule_found d edit area router make slot lsa remakes at =
    remakes.row (lists_of d) ∙ ap (λ (r : Result (List ℕ) EditFault). r >>= λ lsa. rule_from area router (made (make lsa)))
    (router_lsa_is d area router slot lsa at)

-- where the new LSA was made, the edit has a rule
made_has_rule : (area : AreaId) (router : RouterId) (answer : Result (List ℕ) MakeFault) → IsOk answer → IsOk (rule_from area router (made answer))
made_has_rule area router (Ok new) ok = refl
made_has_rule area router (Err fault) ok = absurd (search rules)

pub not_made : (d : Slots) (edit : Edit) (area : AreaId) (router : RouterId) (make : Maker) (slot : SlotId) (lsa : List ℕ) (fault : MakeFault)
    → Remakes edit area router make
    → IsFirstLsa d (Area area) (has_key (router_key router)) slot lsa → IsMakeFaultOf fault (make lsa) → IsRefused d edit (fault_of fault)
not_made d edit area router make slot lsa fault remakes at is = by_fault fault is where
  rule : rule_of (lists_of d) edit ≡ rule_from area router (made (make lsa))
  rule = rule_found d edit area router make slot lsa remakes at

  refused_so : (fault : MakeFault) → fault_of fault ≢ OutOfMemory → make lsa ≡ Err fault → IsRefused d edit (fault_of fault)
  refused_so fault other is =
      refused_as d edit (fault_of fault) other (rule ∙ ap (λ (r : Result (List ℕ) MakeFault). rule_from area router (made r)) is)

  by_fault : (fault : MakeFault) → IsMakeFaultOf fault (make lsa) → IsRefused d edit (fault_of fault)
  by_fault faults.NoLink is = refused_so faults.NoLink (λ e. cc) is
  by_fault faults.ZeroCost is = refused_so faults.ZeroCost (λ e. cc) is
  by_fault faults.TooLong is = refused_so faults.TooLong (λ e. cc) is
  by_fault faults.OutOfMemory is =
      no_memory_ruled d edit (subst (λ (r : Result Rule EditFault). IsOk r) (sym rule) (made_has_rule area router (make lsa) is))

ruled : (d : Slots) (edit : Edit) (area : AreaId) (router : RouterId) (make : Maker) (slot : SlotId) (lsa new : List ℕ)
    → Remakes edit area router make → IsFirstLsa d (Area area) (has_key (router_key router)) slot lsa
    → make lsa ≡ Ok new → rule_of (lists_of d) edit ≡ Ok (one_lsa (Area area) (router_key router) (rewritten new))
ruled d edit area router make slot lsa new remakes at made_new =
    rule_found d edit area router make slot lsa remakes at ∙ ap (λ (a : Result (List ℕ) MakeFault). rule_from area router (made a)) made_new

-- memory ran out after the new LSA was made
pub no_swap : (d : Slots) (edit : Edit) (area : AreaId) (router : RouterId) (make : Maker) (slot : SlotId) (lsa new : List ℕ)
    → Remakes edit area router make → IsFirstLsa d (Area area) (has_key (router_key router)) slot lsa
    → make lsa ≡ Ok new → IsRefused d edit OutOfMemory
no_swap d edit area router make slot lsa new remakes at made_new = no_memory d edit _ (ruled d edit area router make slot lsa new remakes at made_new)

-- ---- the plan

pub planned : (d : Slots) (edit : Edit) (area : AreaId) (router : RouterId) (make : Maker) (slot : SlotId) (lsa new : List ℕ) (swap : SwapData)
    (items : List SwapData) → IsDatabase (lists_of d) → Remakes edit area router make
    → IsFirstLsa d (Area area) (has_key (router_key router)) slot lsa → make lsa ≡ Ok new → IsRewriteOf lsa new
    → swap ≡ one_swap slot (Area area) 1 (Some new) → items ≡ swap ∷ [] → Planned d d edit items
planned d edit area router make slot lsa new swap items sound remakes at made_new rewrite swap_is items_is =
    planned_one d edit (Area area) (router_key router) slot lsa (Some new) 1 swap items sound at.named at.held
    (key_is d (Area area) (router_key router) slot lsa at) refl (put_safe d slot (Some lsa) (Some new) at.held rewrite sound)
    (ruled d edit area router make slot lsa new remakes at made_new) swap_is items_is
