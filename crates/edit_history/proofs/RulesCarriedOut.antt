-- Swaps that do what a rule requires carry an edit out; and what a refusal has to show.
use Rattle.std.proofs.Common.{◌≡◌, ◌≢◌, List, map, Result, Ok, Err, refl, sym, ap, ◌∙◌, subst, true≢false}
use Rattle.std.specs.Prelude.{IsOk, IfOk, IfErr}
use Rattle.lsdb.specs.Lists.{Lists}
use Rattle.lsdb.specs.Slots.{Slots, lists_of}
use Rattle.edit_script.specs.declared.edit.Edit.{Edit}
use Rattle.edit_script.specs.declared.edit.Edit.TheVariants.{Event as of_event}
use Rattle.edit_script.specs.declared.event.Event.{Event}
use Rattle.edit_history.specs.declared.fault.EditFault.{EditFault}
use Rattle.edit_history.specs.declared.fault.EditFault.TheVariants.{OutOfMemory}
use Rattle.edit_history.specs.Rules.{Rule, Change, lists_after, changes_by}
use Rattle.edit_history.specs.Effect.{rule_of, ◌>>=◌}
use Rattle.edit_history.specs.Exchange.{SwapData, CanDo, done_slots, done_swaps}
use Rattle.edit_history.specs.Applied.{swap_change, CarriesOut, Planned, IsRefused}
use Rattle.edit_history.specs.steps.Plans.{IsPlan}
use Rattle.edit_history.proofs.CarriedPlans.{grown_same}

-- the swaps do what the rule requires
pub record CarriesOutRule (d : Slots) (rule : Rule) (swaps : List SwapData) : Type 0 where
  pub can : CanDo d swaps
  pub leads : lists_after rule (lists_of d) ≡ lists_of (done_slots d swaps)
  pub reports : changes_by rule (lists_of d) ≡ map (swap_change (done_slots d swaps)) (done_swaps d swaps)

abbrev after_rule : Lists → Result Rule EditFault → Result Lists EditFault
after_rule db r = r >>= λ rule. Ok (lists_after rule db)

abbrev changes_of_rule : Lists → Result Rule EditFault → Result (List Change) EditFault
changes_of_rule db r = r >>= λ rule. Ok (changes_by rule db)

pub carries : (d : Slots) (edit : Edit) (rule : Rule) (swaps : List SwapData) → rule_of (lists_of d) edit ≡ Ok rule → CarriesOutRule d rule swaps
    → CarriesOut d edit swaps
carries d edit rule swaps ruled f = record {
  can = f.can;
  leads = ap (after_rule (lists_of d)) ruled ∙ ap (λ (db : Lists). let a : Result Lists EditFault = Ok db in a) f.leads;
  reports = ap (changes_of_rule (lists_of d)) ruled ∙ ap (λ (cs : List Change). let a : Result (List Change) EditFault = Ok cs in a) f.reports;
}

-- no slot has to be opened
pub planned_here : (d : Slots) (edit : Edit) (rule : Rule) (swaps items : List SwapData) → rule_of (lists_of d) edit ≡ Ok rule → CarriesOutRule d rule swaps
    → items ≡ swaps → Planned d d edit items
planned_here d edit rule swaps items ruled f is =
    subst (λ (ss : List SwapData). Planned d d edit ss) (sym is) (record { opens = grown_same d d refl; carries = carries d edit rule swaps ruled f })

-- ---- refusals

pub refused_as : (d : Slots) (edit : Edit) (fault : EditFault) → fault ≢ OutOfMemory → rule_of (lists_of d) edit ≡ Err fault → IsRefused d edit fault
refused_as d edit fault other is = record { known = λ _. ap (after_rule (lists_of d)) is; memory = λ _ e. absurd (other e) }

-- memory ran out for an edit that has a rule
pub no_memory : (d : Slots) (edit : Edit) (rule : Rule) → rule_of (lists_of d) edit ≡ Ok rule → IsRefused d edit OutOfMemory
no_memory d edit rule ruled = record {
  known = λ other. absurd (other refl);
  memory = λ _ _. subst (λ (r : Result Rule EditFault). IsOk (after_rule (lists_of d) r)) (sym ruled) refl;
}

has_rule : (db : Lists) (r : Result Rule EditFault) → IsOk r → IsOk (after_rule db r)
has_rule db (Ok rule) ok = refl
has_rule db (Err fault) ok = ok

pub no_memory_ruled : (d : Slots) (edit : Edit) → IsOk (rule_of (lists_of d) edit) → IsRefused d edit OutOfMemory
no_memory_ruled d edit ok = record { known = λ other. absurd (other refl); memory = λ _ _. has_rule (lists_of d) (rule_of (lists_of d) edit) ok }

-- an event is refused as its rule is
pub event_refused_as : (d : Slots) (event : Event) (fault : EditFault) → rule_of (lists_of d) (of_event event) ≡ Err fault
    → IsRefused d (of_event event) fault
event_refused_as d event fault is = record { known = λ _. ap (after_rule (lists_of d)) is; memory = λ no _. absurd (true≢false no) }

-- for an event memory may run out at any time
pub no_memory_for_event : (d : Slots) (event : Event) → IsRefused d (of_event event) OutOfMemory
no_memory_for_event d event = record { known = λ other. absurd (other refl); memory = λ no _. absurd (true≢false no) }

-- ---- the plan

-- a plan whose last step fails only where memory runs out
pub plan_of : {V : Type 0} (d e : Slots) (edit : Edit) (swaps_of : V → List SwapData) (P : V → Type 0) (r : Result V EditFault) → IfOk r P
    → IfErr r (λ fault. fault ≡ OutOfMemory) → ((swaps : V) → P swaps → Planned d e edit (swaps_of swaps)) → IsRefused d edit OutOfMemory
    → IsPlan d e edit swaps_of r
plan_of d e edit swaps_of P (Ok swaps) is memory planned refused = planned swaps is
plan_of d e edit swaps_of P (Err fault) is memory planned refused = subst (λ (f : EditFault). IsRefused d edit f) (sym memory) refused

-- ---- one step of a rule

pub on_ok : {A B : Type 0} (r : Result A EditFault) (x : A) (f : A → Result B EditFault) → r ≡ Ok x → (r >>= f) ≡ f x
on_ok {A} {B} r x f is = ap (λ (q : Result A EditFault). q >>= f) is

pub on_err : {A B : Type 0} (r : Result A EditFault) (fault : EditFault) (f : A → Result B EditFault) → r ≡ Err fault → (r >>= f) ≡ Err fault
on_err {A} {B} r fault f is = ap (λ (q : Result A EditFault). q >>= f) is
