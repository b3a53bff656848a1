-- The links of an event and how they change, or the first refusal: what a call answers that another one returns.
use Rattle.std.proofs.Common.{◌≡◌, ℕ, true, false, not, Option, Some, None, Result, Ok, Err, sym, ap, ◌∙◌, subst}
use Rattle.std.proofs.lemmas.Bool.{cond-true, cond-false}
use Rattle.lsdb.specs.Lists.{Lists}
use Rattle.lsa_codec.specs.declared.address.Addr.{Addr}
use Rattle.lsa_codec.specs.declared.address.RouterId.{RouterId}
use Rattle.event_links.specs.declared.fault.EventFault.{EventFault}
use Rattle.event_links.specs.declared.fault.EventFault.TheVariants.{SameRouter, NoRouter, NotNeighbors, NoInterface, UnclearEnd, ZeroCost, OutOfMemory}
use Rattle.event_links.specs.declared.event.LinkEvent.{LinkEvent}
use Rattle.event_links.specs.declared.link_end.LinkEnd.{LinkEnd}
use Rattle.event_links.specs.declared.selection.LinkEdit.{LinkEdit}
use Rattle.event_links.specs.declared.selection.Selection.TheVariants.{OneLink, AtAddress}
use Rattle.event_links.specs.Events.{cut_link, cut_at, set_cost_at, set_stub_cost, unless_fault, fault_of, edit_of, resolved, IsFault, Answers}
use Rattle.event_links.specs.Interfaces.{other_way}
use Rattle.event_links.specs.Selections.{is_somewhere, stubs_everywhere, longest_mask}

-- the fault that an answer names
is_fault : (fault : EventFault) (answer : Result LinkEdit EventFault) → answer ≡ Err fault → IsFault fault answer
is_fault SameRouter answer is = is
is_fault (NoRouter router) answer is = is
is_fault (NotNeighbors router neighbor) answer is = is
is_fault (NoInterface router address) answer is = is
is_fault (UnclearEnd router address) answer is = is
is_fault ZeroCost answer is = is
is_fault OutOfMemory answer is = tt

-- what a call answers, where the answer is that of another definition
pub through : (r one other : Result LinkEdit EventFault) → other ≡ one → Answers r one → Answers r other
through r one other same is = subst (Answers r) (sym same) is

-- an answer that is what a call answers
pub answered : (r answer : Result LinkEdit EventFault) → answer ≡ r → Answers r answer
answered (Ok edit) answer is = is
answered (Err fault) answer is = is_fault fault answer is

-- ---- which definition an answer is of

pub cut_own : (db : Lists) (end : LinkEnd) → is_somewhere db (OneLink end) ≡ true → cut_link db end ≡ cut_at db end
cut_own db end is = cond-true _ _ _ is

pub cut_other : (db : Lists) (end : LinkEnd) → is_somewhere db (OneLink end) ≡ false → is_somewhere db (OneLink (other_way end)) ≡ true
    → cut_link db end ≡ cut_at db (other_way end)
cut_other db end none is = cond-false _ _ _ none ∙ cond-true _ _ _ is

pub cost_of_stub : (db : Lists) (router : RouterId) (address : Addr) (metric : ℕ) → is_somewhere db (AtAddress router address) ≡ false
    → set_cost_at db router address metric ≡ set_stub_cost router address metric (longest_mask (stubs_everywhere db router address))
cost_of_stub db router address metric none = cond-true _ _ _ (ap not none)

pub of_routers : (db : Lists) (event : LinkEvent) → fault_of db event ≡ None → resolved db event ≡ edit_of db event
of_routers db event none = ap (λ (fault : Option EventFault). unless_fault fault (edit_of db event)) none

pub first_refusal : (db : Lists) (event : LinkEvent) (fault : EventFault) → fault_of db event ≡ Some fault → IsFault fault (resolved db event)
first_refusal db event fault is =
    is_fault fault (resolved db event) (ap (λ (first : Option EventFault). unless_fault first (edit_of db event)) is)
